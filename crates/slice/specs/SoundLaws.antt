-- The lists of slices that are sound are accepted.
use Rattle.std.specs.Prelude.{ℕ, zero, suc, ◌+◌, ◌*◌, ◌≤◌, ◌<◌, Bool, true, false, ◌≡◌, length, get_or, Float}
use Rattle.std.proofs.Math.Path.{refl}
use Rattle.std.proofs.Common.{sym, ap, ◌∙◌, zero-add, add-zero, not-suc-le-zero, le_of_suc-le-suc, arith, get_or-append-add}
use mathlib.Core.List.{List, [], ◌∷◌, flat_map, Memᴰ}
use Rattle.std.proofs.Math.ListN.{get_or-append}
use Rattle.std.specs.Float.{nan}
use Rattle.basis.specs.All.{all_of, all_append, all-at, All, all-mem}
use Rattle.basis.specs.Number.{within, all_within}
use Rattle.slice.specs.declared.data.Codes.{Codes}
use Rattle.slice.specs.Slice.{code_width, shape_width, Slice, codes_at, shape_at, shape_list, codes_of, shape_of, editions_of}
use Rattle.slice.specs.Faults.{source_known, start_inside, offset_inside}
use Rattle.slice.specs.Editions.{editions, edition_of, edition_fault}
use Rattle.slice.specs.EditionLaws.{at-edition}
use Rattle.slice.specs.PutLaws.{codes-length, shapes-length}
use Rattle.slice.specs.SliceLaws.{at-slice, at-turned}
use Rattle.slice.specs.Sound.{SliceSound, Accepted}

-- what stands at slice number i is a slice of the list
record Stands (l : List Slice) (i : ℕ) : Type 0 where
  slice : Slice
  among : Memᴰ slice l
  holds : (j : ℕ) → j < code_width → get_or (flat_map codes_of l) (code_width * i + j) 0 ≡ get_or (codes_of slice) j 0
  edition : get_or (editions_of l) i 0 ≡ slice.edition

stands : (l : List Slice) (i : ℕ) → i < length l → Stands l i
unfolding flat_map
stands [] i h = absurd (not-suc-le-zero h)
stands (s ∷ l) zero h =
    record { slice = s; among = Memᴰ.head refl; holds = λ j b. rw zero-add (get_or-append (codes_of s) (flat_map codes_of l) 0 j b); edition = refl }
stands (s ∷ l) (suc i) h =
    let r = stands l i (le_of_suc-le-suc h) in
    record {
      slice = r.slice;
      among = Memᴰ.tail r.among;
      holds = λ j b.
          let e : code_width * suc i + j ≡ code_width + (code_width * i + j) = omega arith in
          rw (e, get_or-append-add (codes_of s) (flat_map codes_of l) (code_width * i + j) 0) (r.holds j b);
      edition = r.edition;
    }

codes-stand : (l : List Slice) (i : ℕ) (s : Stands l i) → codes_at (flat_map codes_of l) i ≡ s.slice.codes
unfolding codes_at
codes-stand l i s =
    let from : get_or (flat_map codes_of l) (code_width * i) 0 ≡ s.slice.codes.source = rw add-zero at (s.holds 0 (omega arith)) in
    rw (from, s.holds 1 (omega arith), s.holds 2 (omega arith), s.holds 3 (omega arith))

all-numbers : (vc1 vc2 : ℕ) (l : List Slice) → All (SliceSound vc1 vc2) l → all_within (flat_map shape_of l) ≡ true
unfolding flat_map
all-numbers vc1 vc2 [] h = unfold all_of in refl
all-numbers vc1 vc2 (s ∷ l) h = all_append within (shape_of s) (flat_map shape_of l) ∙ rw h.0.numbers (all-numbers vc1 vc2 l h.1)

module _ (vc1 vc2 : ℕ) (l : List Slice) (sound : All (SliceSound vc1 vc2) l) where
  -- a test that each sound slice passes
  passes : (q : Codes → Bool) → ((s : Slice) → SliceSound vc1 vc2 s → q s.codes ≡ true) → (i : ℕ) → i < length l → q (codes_at (flat_map codes_of l) i) ≡ true
  passes q f i h =
      let s = stands l i h in
      ap q (codes-stand l i s) ∙ f s.slice (all-mem (SliceSound vc1 vc2) l s.slice sound s.among)

  turned : (i : ℕ) → i < length l → (codes_at (flat_map codes_of l) i).inverted ≤ 1
  turned i h = let s = stands l i h in rw (codes-stand l i s) (all-mem (SliceSound vc1 vc2) l s.slice sound s.among).turned

  pub sound-accepted : Accepted vc1 vc2 (length l) (flat_map codes_of l) (flat_map shape_of l)
  sound-accepted =
      let long = codes-length l in
      record {
        codes = long;
        shapes = shapes-length l;
        sources = at-slice (flat_map codes_of l) (length l) long source_known (passes source_known (λ s h. h.source));
        turned = at-turned (flat_map codes_of l) (length l) long turned;
        starts = at-slice (flat_map codes_of l) (length l) long (start_inside vc1 vc2) (passes (start_inside vc1 vc2) (λ s h. h.starts));
        reaches = at-slice (flat_map codes_of l) (length l) long (offset_inside vc1 vc2) (passes (offset_inside vc1 vc2) (λ s h. h.reaches));
        numbers = all-numbers vc1 vc2 l sound;
      }

-- slices that have the editions of their outlines, as lists
pub editions-match : (first second : ℕ) (l : List Slice) → All (λ s. s.edition ≡ edition_of first second s.codes.source) l
    → edition_fault (editions first second (editions_of l)) (flat_map codes_of l) ≡ false
editions-match first second l h =
    at-edition (editions first second (editions_of l)) (flat_map codes_of l) (length l) (codes-length l) λ i b.
    let s = stands l i b in
    s.edition ∙ all-mem (λ s. s.edition ≡ edition_of first second s.codes.source) l s.slice h s.among
    ∙ ap (λ (c : Codes). edition_of first second c.source) (sym (codes-stand l i s))

-- the shape of item k, of a list of numbers within the limit
pub shape-within : (l : List Float) (n k : ℕ) → all_within l ≡ true → length l ≡ shape_width * n → k < n → all_within (shape_list (shape_at l k)) ≡ true
unfolding shape_at all_of
shape-within l n k w e h =
    let at : (j : ℕ) → j < shape_width → within (get_or l (shape_width * k + j) nan) ≡ true = λ j b. all-at within l (shape_width * k + j) nan w (omega arith) in
    let zeroth : within (get_or l (shape_width * k) nan) ≡ true = rw add-zero at (at 0 (omega arith)) in
    rw (zeroth, at 1 (omega arith), at 2 (omega arith), at 3 (omega arith), at 4 (omega arith), at 5 (omega arith))
