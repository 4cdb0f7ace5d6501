-- With a record that holds the setting, the answers are those of the calls with its numbers. So demand 3 holds of `mask_stitch`:
-- `named-demand` `named-need-accepted` `named-shorter-refused` `named-need-is-reached` say of it, from its contract, what stitch_entries/specs/DemandTheorems.antt says of the stitch by
-- tolerances.
use Rattle.std.specs.Prelude.{ℕ, ◌≤◌, ◌<◌, true, not, ◌≡◌, refl, List, ◌∷◌, ◌++◌, ◌⊎◌, length, take, Float}
use Rattle.std.proofs.Common.{sym, subst, ◌∙◌, inl, inr, arith}
use borrow.Author.Tests.{not-false}
use Rattle.basis.specs.Choice.{by-test}
use Rattle.basis.specs.Sizes.{most_slices}
use Rattle.basis.specs.Refuse.{row, first_of}
use Rattle.basis.specs.RefuseLaws.{clear, clear-right, answer-zero}
use Rattle.basis.specs.declared.answer.CountAnswer.{CountAnswer}
use Rattle.settings.specs.Settings.{Held, Sized, lengths_fault, known}
use Rattle.settings.specs.SettingsLaws.{lengths-ok, ok-lengths}
use Rattle.slice.specs.Editions.{Editions}
use Rattle.stitch_run.specs.Stitch.{Given}
use Rattle.stitch_run.specs.NeedIsTight.{to_and_fro, Tight}
use Rattle.stitch.specs.Lent.{Lists, Long}
use Rattle.stitch_entries.specs.declared.answer.StitchAnswer.{StitchAnswer}
use Rattle.stitch_faults.specs.declared.faults.Lengths.{Lengths}
use Rattle.stitch_entries.specs.Answers.{stitch_refused}
use Rattle.stitch_entries.specs.StitchEntry.{lengths_of, StitchBy, StitchLeft}
use Rattle.stitch_faults.specs.StitchTable.{shape_rows, stitch_refusal}
use Rattle.stitch_faults.specs.Matching as editions
use Rattle.stitch_entries.specs.Demand.{chains_in, Demanded, Shorter}
use Rattle.stitch_entries.specs.DemandTheorems.{stitch-demand, need-accepted, shorter-refused, need-is-reached}
use Rattle.area_entries.specs.AreaEntry.{area_refusal, AreaLeft}
use Rattle.named_entries.specs.NamedLaws.{unknown-number}
use Rattle.named_entries.specs.NamedStitch.{early_part, late_part, named_stitch_rows, named_stitch_refusal, Holding, NamedStitch}
use Rattle.named_entries.specs.NamedArea.{limit_in, named_area_refusal, NamedArea}

module _ (h : Held) (k : ℕ) (sized : Sized h) (there : known h.entered k ≡ true) where
  -- the record's rows find nothing
  pub stitch-number : (g : Given) (e : Editions) (l : Lengths) → named_stitch_refusal h k g e l ≡ stitch_refusal g e l
  unfolding named_stitch_refusal stitch_refusal first_of
  stitch-number g e l = rw (ok-lengths h sized, there)

  pub area-number : (areas : List Float) (loops kept : ℕ) → named_area_refusal h k areas loops kept ≡ area_refusal areas loops (limit_in h k) kept
  unfolding named_area_refusal area_refusal first_of
  area-number areas loops kept = rw (ok-lengths h sized, there)

  -- ---- THEOREM: what the entry permits is what the stitch by these tolerances permits, and the same of the area pass and the limit
  pub stitch-as-before : (g : Given) (e : Editions) (x : Lists) (r : StitchAnswer) (left : Lists) → NamedStitch h k g e x r left ≡ StitchLeft g e x r left
  stitch-as-before g e x r left = rw (stitch-number g e (lengths_of x))

  pub area-as-before : (areas : List Float) (loops : ℕ) (kept : List ℕ) (r : CountAnswer) (left : List ℕ) → NamedArea h k areas loops kept r left ≡ AreaLeft areas loops (limit_in h k) kept r left
  area-as-before areas loops kept r left = rw (area-number areas loops (length kept))

  -- so an answer and lists that the entry permits are permitted of the stitch by tolerances
  pub by-tolerances : (g : Given) (e : Editions) (x : Lists) (r : StitchAnswer) (left : Lists) → NamedStitch h k g e x r left → StitchLeft g e x r left
  by-tolerances g e x r left holds = subst (λ (n : ℕ). StitchBy n g x r left) (stitch-number g e (lengths_of x)) holds

-- ---- demand 3, the room, said of `mask_stitch`: of a call whose record holds the setting, to which nothing of 1 to 8 applies, with editions that match

module _ (h : Held) (k : ℕ) (g : Given) (e : Editions) (x : Lists) (r : StitchAnswer) (left : Lists) (there : Holding h k g.tolerance) (holds : NamedStitch h k g e x r left)
    (shape : first_of (shape_rows g) ≡ 0) (matched : editions.Matched g e) where
  -- the need is always enough
  pub named-need-accepted : Long g x → r.refusal ≡ 0
  named-need-accepted = need-accepted g e x r left (by-tolerances h k there.sized there.there g e x r left holds) shape matched

  -- a room one number shorter than the need is refused, and so is any other list one entry shorter
  pub named-shorter-refused : Shorter g x → r.refusal ≡ 9
  named-shorter-refused = shorter-refused g e x r left (by-tolerances h k there.sized there.there g e x r left holds) shape matched

-- the need is tight: for every n from 1 to 1,792 there is a call of n slices that is accepted, whatever record holds its setting and whatever lists are lent that are as
-- long as the need, and whose one chain really holds as many vertices as the need says
pub named-need-is-reached : (n : ℕ) → 1 ≤ n → n ≤ most_slices
    → ((to_and_fro n).slices ≡ n) × Tight (to_and_fro n)
    × ((h : Held) (k d : ℕ) (x : Lists) (r : StitchAnswer) (left : Lists) → Holding h k (to_and_fro n).tolerance → Long (to_and_fro n) x
    → NamedStitch h k (to_and_fro n) (editions.one_edition d n) x r left → r.refusal ≡ 0)
named-need-is-reached n some few =
    let reached = need-is-reached n some few in (
      reached.0,
      reached.1,
      λ h k d x r left there long holds. reached.2 d x r left long (by-tolerances h k there.sized there.there (to_and_fro n) (editions.one_edition d n) x r left holds),
    )

-- ---- an accepted stitch: its record holds the setting, so it is one by tolerances

module _ (h : Held) (k : ℕ) (g : Given) (e : Editions) (x : Lists) (r : StitchAnswer) (left : Lists) (holds : NamedStitch h k g e x r left) (accepted : r.refusal ≡ 0) where
  number : named_stitch_refusal h k g e (lengths_of x) ≡ 0
  number = answer-zero stitch_refused (λ (a : StitchAnswer). a.refusal) (named_stitch_refusal h k g e (lengths_of x)) _ r (λ n. refl) holds.answers accepted

  pub accepted-sized : Sized h
  unfolding named_stitch_refusal
  accepted-sized = lengths-ok h (clear (named_stitch_rows h k g e (lengths_of x)) tt number).0

  pub accepted-known : known h.entered k ≡ true
  unfolding named_stitch_refusal
  accepted-known =
      not-false (known h.entered k)
      (clear-right (early_part g e) (row (not (known h.entered k)) 16 ∷ late_part g e (lengths_of x)) (clear (named_stitch_rows h k g e (lengths_of x)) tt number).1).0

  pub accepted-stitch : StitchLeft g e x r left
  accepted-stitch = by-tolerances h k accepted-sized accepted-known g e x r left holds

  -- Demand 3, said of `mask_stitch`: from its contract alone
  pub named-demand : Demanded g.slices r.rounds r.chains (take g.slices left.chain) (chains_in r.chains left)
  named-demand = stitch-demand g e x r left accepted-stitch accepted

-- ---- editions that match are never 14, whatever the record

pub never-14 : (h : Held) (k : ℕ) (g : Given) (e : Editions) (l : Lengths) → editions.Matched g e → named_stitch_refusal h k g e l ≡ 14 → ⊥
unfolding named_stitch_refusal first_of
never-14 h k g e l m q =
    by-test (lengths_fault h) (λ f. let one : 1 ≡ 14 = rw f at q in omega arith)
    (λ f.
    by-test (known h.entered k) (λ t. editions.never-14 g e l m (sym (stitch-number h k (lengths-ok h f) t g e l) ∙ q))
    (λ t. let n = unknown-number (early_part g e) (late_part g e l) tt in neither (first_of (early_part g e ++ (row true 16 ∷ late_part g e l))) n (rw (f, t) at q)))
  where
    neither : (n : ℕ) → (n ≡ 16) ⊎ (n < 4) → n ≡ 14 → ⊥
    neither n (inl a) b = omega arith
    neither n (inr a) b = omega arith
