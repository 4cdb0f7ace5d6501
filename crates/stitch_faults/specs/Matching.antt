-- Editions that match. Document 02, K3: "Demands 2 and 3 read over calls whose editions match."
use Rattle.std.specs.Prelude.{ℕ, ◌*◌, ◌<◌, false, ◌≡◌, length, get_or, replicate}
use Rattle.std.proofs.Common.{sym, ◌∙◌, arith}
use mathlib.Core.List.{List, [], ◌∷◌, ◌++◌}
use Rattle.std.proofs.lemmas.List.{length-replicate}
use Rattle.basis.specs.Refuse.{Row, row, first_of}
use Rattle.basis.specs.RefuseLaws.{Clear, clear, clear-left, clear-right, not-given, length-ok, ok-length}
use Rattle.slice.specs.Slice.{code_width, codes_at}
use Rattle.slice.specs.Editions.{Editions, editions, edition_of, edition_fault, edition_list_rows}
use Rattle.slice.specs.EditionLaws.{edition-at, one-edition}
use Rattle.stitch_run.specs.Stitch.{Given}
use Rattle.stitch_faults.specs.declared.faults.Lengths.{Lengths}
use Rattle.stitch_faults.specs.StitchTable.{list_part, code_part, number_part, index_part, shape_rows, input_rows, edition_part, room_part, stitch_rows, stitch_refusal}

-- one edition a slice, each that of its outline
pub record Matched (g : Given) (e : Editions) : Type 0 where
  pub each : length e.slices ≡ g.slices
  pub same : edition_fault e g.slice_at ≡ false

-- the number of a call by document 01 alone, without editions
unfoldable pub base_refusal : Given → Lengths → ℕ
base_refusal g l = first_of (shape_rows g ++ room_part g l)

module _ (g : Given) (e : Editions) (l : Lengths) where
  abbrev inputs : List Row
  inputs = input_rows g (length e.slices)

  -- with editions that match, the number is that of the base: so by `StitchLeft` every answer is, and every list
  pub base-number : Matched g e → stitch_refusal g e l ≡ base_refusal g l
  unfolding stitch_refusal base_refusal first_of
  base-number m =
      let one = ok-length 1 (length e.slices) g.slices (let h = m.each in omega arith) in
      rw one (first-shape (shape_rows g))
    where
      first-shape : (t : List Row) → first_of (t ++ (edition_part g e ++ room_part g l)) ≡ first_of (t ++ room_part g l)
      first-shape [] = rw m.same
      first-shape (row b n ∷ t) = rw (first-shape t)

  -- so 14 is never given
  pub never-14 : Matched g e → stitch_refusal g e l ≡ 14 → ⊥
  unfolding base_refusal
  never-14 m h = not-given 14 (shape_rows g ++ room_part g l) (λ z. absurd (omega (arith, z))) tt (sym (base-number m) ∙ h)

  -- in a call that is not refused they match
  module _ (accepted : stitch_refusal g e l ≡ 0) where
    ok : Clear (stitch_rows g e l)
    unfolding stitch_refusal
    ok = clear (stitch_rows g e l) tt accepted

    pub accepted-matched : Matched g e
    accepted-matched =
        record {
          each = let h = length-ok 1 (length e.slices) g.slices (clear-left inputs (edition_part g e ++ room_part g l) ok).0 in omega (arith, h);
          same = (clear-left (edition_part g e) (room_part g l) (clear-right inputs (edition_part g e ++ room_part g l) ok)).0;
        }

    pub accepted-codes : length g.slice_at ≡ code_width * g.slices
    accepted-codes =
        let shape = clear-right (edition_list_rows (length e.slices) g.slices) (shape_rows g) (clear-left inputs (edition_part g e ++ room_part g l) ok) in
        length-ok code_width (length g.slice_at) g.slices (clear-left (list_part g) (code_part g ++ (number_part g ++ index_part g)) shape).1.1.0

    -- each slice has the edition of the outline that it is read with
    pub accepted-edition : (i : ℕ) → i < g.slices → get_or e.slices i 0 ≡ edition_of e.first e.second (codes_at g.slice_at i).source
    accepted-edition = edition-at e g.slice_at g.slices accepted-codes accepted-matched.same

-- one edition throughout
abbrev pub one_edition : ℕ → ℕ → Editions
one_edition k n = editions k k (replicate n k)

pub one-matched : (g : Given) (k : ℕ) → length g.slice_at ≡ code_width * g.slices → Matched g (one_edition k g.slices)
one-matched g k whole = record { each = length-replicate g.slices k; same = one-edition k g.slice_at g.slices whole }
