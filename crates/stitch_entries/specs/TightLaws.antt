-- Nothing of 1 to 8 applies to the stitches by which the need is tight, up to 1,792 slices.
use Rattle.std.specs.Prelude.{ℕ, zero, suc, ◌*◌, ◌≤◌, true, ◌≡◌, List, length, Float}
use Rattle.std.proofs.Math.Bool.{not}
use Rattle.std.proofs.Math.Path.{refl, ap}
use Rattle.std.proofs.Common.{◌∙◌, arith, length-append}
use borrow.Author.Tests.{le-ltb}
use Rattle.std.specs.Float.Ieee.{of_bits, lt, le}
use Rattle.basis.specs.Number.{+0, abs_f, within, all_within, tolerable_on, tolerable}
use Rattle.basis.specs.All.{all_of, all_append}
use Rattle.basis.specs.Sizes.{most_slices}
use Rattle.basis.specs.Refuse.{first_of, length_fault, size_fault, source_fault}
use Rattle.basis.specs.RefuseLaws.{none-clear, ok-length}
use Rattle.slice.specs.Slice.{code_width, shape_width}
use Rattle.slice.specs.Faults.{source_known}
use Rattle.slice.specs.SliceLaws.{at-slice, at-turned, at-start, at_offset}
use Rattle.stitch_run.specs.StitchExamples.{n2, from}
use Rattle.stitch_run.specs.NeedIsTight.{copies, codes, numbers_of, to_and_fro, copies_length, codes_at_lem}
use Rattle.stitch_faults.specs.StitchRows.{starts_fault}
use Rattle.stitch_faults.specs.StitchTable.{shape_rows}

numbers-length : (n : ℕ) → length (numbers_of n) ≡ 6 * n
unfolding numbers_of
numbers-length zero = refl
numbers-length (suc m) = length-append (from +0 +0 n2 +0) (copies (from n2 +0 n2 +0) m) ∙ omega (arith, copies_length (from n2 +0 n2 +0) 6 m refl)

-- every number is in range
copies-within : (l : List Float) (n : ℕ) → all_within l ≡ true → all_within (copies l n) ≡ true
unfolding copies all_of
copies-within l zero e = refl
copies-within l (suc n) e = rw (all_append within l (copies l n), e, copies-within l n e)

numbers-within : (n : ℕ) → all_within (numbers_of n) ≡ true
unfolding numbers_of all_of within abs_f of_bits le
numbers-within zero = refl
numbers-within (suc m) = all_append within (from +0 +0 n2 +0) (copies (from n2 +0 n2 +0) m) ∙ copies-within (from n2 +0 n2 +0) m refl

module _ (n : ℕ) (few : n ≤ most_slices) where
  pub codes-whole : length (copies codes n) ≡ code_width * n
  codes-whole = copies_length codes code_width n refl

  pub tight-shape : first_of (shape_rows (to_and_fro n)) ≡ 0
  unfolding length_fault size_fault source_fault source_known starts_fault tolerable tolerable_on all_of within abs_f of_bits lt le
  tight-shape =
      none-clear (shape_rows (to_and_fro n)) (
        refl,
        (
          refl,
          (
            ok-length code_width _ n codes-whole,
            (
              ok-length shape_width _ n (numbers-length n),
              (
                le-ltb most_slices n few,
                (
                  refl,
                  (
                    refl,
                    (
                      refl,
                      (
                        ap not (at-slice (copies codes n) n codes-whole source_known (λ i h. rw (codes_at_lem n i h))),
                        (
                          ap not (at-turned (copies codes n) n codes-whole (λ i h. rw (codes_at_lem n i h) (omega arith))),
                          (
                            refl,
                            (
                              refl,
                              (
                                refl,
                                (
                                  ap not (numbers-within n),
                                  (
                                    ap not (at-start (copies codes n) n codes-whole 2 2 (λ i h. rw (codes_at_lem n i h) (omega arith))),
                                    (
                                      ap not (at_offset (copies codes n) n codes-whole 2 2 (λ i h. rw (codes_at_lem n i h) (omega arith))),
                                      (
                                        rw (le-ltb n n (omega arith)),
                                        tt,
                                      ),
                                    ),
                                  ),
                                ),
                              ),
                            ),
                          ),
                        ),
                      ),
                    ),
                  ),
                ),
              ),
            ),
          ),
        ),
      )
