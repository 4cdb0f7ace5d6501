-- K3: what a reopened slice is in a stitch. "Only "valid" gives the slice the new edition": from then on it is a slice of the new outline, and it causes neither 6 nor 7 nor 14.
use Rattle.std.specs.Prelude.{ℕ, ◌*◌, ◌≤◌, ◌<◌, true, ◌≡◌, List, eqb, length, get_or, Float}
use Rattle.std.proofs.Math.Bool.{not}
use Rattle.std.proofs.Common.{sym, ap, subst, ◌∙◌, arith}
use borrow.Author.Tests.{lt-ltb, le-leb, eqb-true, eqb-false}
use Rattle.basis.specs.Choice.{by-test}
use Rattle.basis.specs.Refuse.{by_source, count_for}
use Rattle.basis.specs.RefuseLaws.{not-given}
use Rattle.slice.specs.Slice.{code_width, codes_at}
use Rattle.slice.specs.Faults.{start_inside, offset_inside}
use Rattle.slice.specs.SliceLaws.{at-slice}
use Rattle.slice.specs.Editions.{Editions, edition_of}
use Rattle.slice.specs.EditionLaws.{at-edition}
use Rattle.stitch_run.specs.Stitch.{Given}
use Rattle.stitch_faults.specs.declared.faults.Lengths.{Lengths}
use Rattle.settings.specs.Settings.{Held}
use Rattle.named_entries.specs.NamedStitch.{named_stitch_rows, named_stitch_refusal}
use Rattle.view.specs.View.{Fit}
use Rattle.view_entries.specs.declared.input.View.{View}
use Rattle.view_entries.specs.Inputs.{view_data}
use Rattle.verdict_answer.specs.declared.answer.ReopenAnswer.{ReopenAnswer}
use Rattle.verdict_entries.specs.ReopenEntry.{reopen_answer}
use Rattle.verdict_entries.specs.ReopenTheorems.{valid-edition, valid-fit}

-- slice i of a stitch was reopened on the outline that it is stitched with, in that outline's edition; the verdict was valid, and the slice has the edition that came back
pub record Reopened (g : Given) (e : Editions) (i : ℕ) : Type 0 where
  pub view : View
  pub view_edition : ℕ
  pub start_on : ℕ
  pub end_on : ℕ
  pub given : ReopenAnswer
  pub answers : given ≡ reopen_answer (by_source g.outline1 g.outline2 (codes_at g.slice_at i).source) (count_for g.vc1 g.vc2 (codes_at g.slice_at i).source) (edition_of e.first e.second (codes_at g.slice_at i).source) view view_edition start_on end_on
  pub valid : given.verdict ≡ 7
  pub start : (codes_at g.slice_at i).start ≡ view.start_index
  pub offset : (codes_at g.slice_at i).offset ≡ view.end_index_offset
  pub dated : get_or e.slices i 0 ≡ given.edition

module _ (g : Given) (e : Editions) (i : ℕ) (re : Reopened g e i) where
  abbrev source : ℕ
  source = (codes_at g.slice_at i).source

  abbrev outline : List Float
  outline = by_source g.outline1 g.outline2 source

  abbrev vc : ℕ
  vc = count_for g.vc1 g.vc2 source

  abbrev edition : ℕ
  edition = edition_of e.first e.second source

  -- the slice's edition is its outline's
  pub reopened-edition : get_or e.slices i 0 ≡ edition
  reopened-edition = re.dated ∙ valid-edition outline vc re.view re.start_on re.end_on edition re.view_edition re.given re.answers re.valid

  fit : Fit outline vc (view_data re.view)
  fit = valid-fit outline vc re.view re.start_on re.end_on edition re.view_edition re.given re.answers re.valid

  -- its start and its offset are those of a view of that outline
  pub reopened-start : start_inside g.vc1 g.vc2 (codes_at g.slice_at i) ≡ true
  unfolding start_inside
  reopened-start = lt-ltb (codes_at g.slice_at i).start vc (subst (λ (n : ℕ). n < vc) (sym re.start) fit.starts)

  pub reopened-offset : offset_inside g.vc1 g.vc2 (codes_at g.slice_at i) ≡ true
  unfolding offset_inside
  reopened-offset = le-leb (codes_at g.slice_at i).offset vc (subst (λ (n : ℕ). n ≤ vc) (sym re.offset) fit.reaches)

  -- so where every other slice passes the test of 6, of 7 or of 14, the stitch is not refused with that number: the reopened slice does not cause it
  module _ (h : Held) (setting : ℕ) (l : Lengths) (whole : length g.slice_at ≡ code_width * g.slices) where
    abbrev Others : (ℕ → Type 0) → Type 0
    Others P = (j : ℕ) → j < g.slices → (j ≡ i → ⊥) → P j

    with-others : (P : ℕ → Type 0) → P i → Others P → (j : ℕ) → j < g.slices → P j
    with-others P mine others j h = by-test (eqb j i) (λ t. subst P (sym (eqb-true j i t)) mine) (λ f. others j h (eqb-false j i f))

    abbrev StartIn : ℕ → Type 0
    StartIn j = start_inside g.vc1 g.vc2 (codes_at g.slice_at j) ≡ true

    abbrev OffsetIn : ℕ → Type 0
    OffsetIn j = offset_inside g.vc1 g.vc2 (codes_at g.slice_at j) ≡ true

    abbrev Dated : ℕ → Type 0
    Dated j = get_or e.slices j 0 ≡ edition_of e.first e.second (codes_at g.slice_at j).source

    pub never-6 : Others StartIn → named_stitch_refusal h setting g e l ≡ 6 → ⊥
    unfolding named_stitch_refusal
    never-6 others n =
        not-given 6 (named_stitch_rows h setting g e l) (λ z. omega arith)
        (ap not (at-slice g.slice_at g.slices whole (start_inside g.vc1 g.vc2) (with-others StartIn reopened-start others)), tt) n

    pub never-7 : Others OffsetIn → named_stitch_refusal h setting g e l ≡ 7 → ⊥
    unfolding named_stitch_refusal
    never-7 others n =
        not-given 7 (named_stitch_rows h setting g e l) (λ z. omega arith)
        (ap not (at-slice g.slice_at g.slices whole (offset_inside g.vc1 g.vc2) (with-others OffsetIn reopened-offset others)), tt) n

    pub never-14 : Others Dated → named_stitch_refusal h setting g e l ≡ 14 → ⊥
    unfolding named_stitch_refusal
    never-14 others n = not-given 14 (named_stitch_rows h setting g e l) (λ z. omega arith) (at-edition e g.slice_at g.slices whole (with-others Dated reopened-edition others), tt) n
