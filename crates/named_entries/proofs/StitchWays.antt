-- What the stitch by a setting is proved by: the record's lengths, an unknown setting, and a known one.
use Prim.Native.Nat.{ℕ}
use mathlib.Core.Bool.{Bool, true, false, not}
use mathlib.Core.Path.{◌≡◌, refl, sym, ap, subst, ◌∙◌}
use mathlib.Core.List.{List}
use native.Mathlib.Omega.{arith}
use lib.Ieee.{Float, neg, lt, le, of_bits}
use Rattle.basis.specs.Number.{tolerance_of, tolerable_on, tolerable}
use Rattle.basis.specs.declared.number.Tolerance.{Tolerance}
use Rattle.basis.specs.RefuseLaws.{answer-no}
use Rattle.settings.specs.declared.Setting.{Setting}
use Rattle.settings.specs.Settings.{Held, lengths_fault, known, asked_of}
use Rattle.settings.specs.SettingsLaws.{asked-none}
use Rattle.select.specs.declared.class.Starts.{Starts}
use Rattle.slice.specs.Editions.{Editions}
use Rattle.stitch_run.specs.Stitch.{Given, given, plan_of}
use Rattle.stitch.specs.Lent.{Lists}
use Rattle.stitch_entries.specs.declared.answer.StitchAnswer.{StitchAnswer}
use Rattle.stitch_entries.specs.Answers.{stitch_refused}
use Rattle.stitch_entries.specs.StitchEntry.{stitch_number, StitchLeft}
use Rattle.stitch_faults.specs.StitchTable.{stitch_refusal}
use Rattle.named_entries.specs.Named.{unknown_fault}
use Rattle.named_entries.specs.NamedLaws.{is-1, is-16, is_same, was-4, answer-number, answer-same, answer-still}
use Rattle.named_entries.specs.NamedStitch.{tolerance_in, early_part, named_stitch_refusal, NamedStitch}

-- an unknown setting's tolerances are out of range
tolerance-out : (h : Held) (k : ℕ) → known h.entered k ≡ false → not (tolerable (tolerance_in h k)) ≡ true
unfolding tolerable tolerable_on neg lt le of_bits
tolerance-out h k f = ap (λ (s : Setting). not (tolerable (tolerance_of s.tolerance_x s.tolerance_y))) (asked-none h k f)

module _ (h : Held) (k : ℕ) (g : Given) (e : Editions) (x : Lists) where
  pub stitch-length : (b : Bool) (m : ℕ) (r : StitchAnswer) → b ≡ lengths_fault h → b ≡ true → m ≡ 1 → r ≡ stitch_refused m → NamedStitch h k g e x r x
  unfolding named_stitch_refusal
  stitch-length b m r is bad z q =
      let one = is-1 h k (early_part g e) _ (sym is ∙ bad) in
      record {
        answers = answer-no stitch_refused 1 _ _ r one (λ z. omega arith) (q ∙ ap stitch_refused z);
        room = answer-no (λ _. x.room) 1 _ _ x.room one (λ z. omega arith) refl;
        ends = answer-no (λ _. x.ends) 1 _ _ x.ends one (λ z. omega arith) refl;
        chain = answer-no (λ _. x.chain) 1 _ _ x.chain one (λ z. omega arith) refl;
        chain_ends = answer-no (λ _. x.chain_ends) 1 _ _ x.chain_ends one (λ z. omega arith) refl;
        chain_how = answer-no (λ _. x.chain_how) 1 _ _ x.chain_how one (λ z. omega arith) refl;
      }

  -- the stitch with the setting's tolerances, as it was answered
  module _ (by : g.tolerance ≡ tolerance_in h k) (sized : lengths_fault h ≡ false) (a : StitchAnswer) (left : Lists) (given : StitchLeft g e x a left)
      (u : Bool) (told : u ≡ unknown_fault h.entered k a.refusal) where
    abbrev number : ℕ
    number = stitch_number g e x

    out : known h.entered k ≡ false → not (tolerable g.tolerance) ≡ true
    out f = ap (λ (t : Tolerance). not (tolerable t)) by ∙ tolerance-out h k f

    of_number : u ≡ unknown_fault h.entered k number
    of_number = told ∙ ap (λ (n : ℕ). unknown_fault h.entered k n) (answer-number stitch_refused (λ (y : StitchAnswer). y.refusal) number _ a (λ n. refl) refl given.answers)

    by-16 : (r : StitchAnswer) → u ≡ true → r ≡ stitch_refused 16 → NamedStitch h k g e x r left
    unfolding stitch_refusal named_stitch_refusal
    by-16 r q w =
        let n = is-16 h k sized _ (early_part g e) _ tt out number refl u of_number q in
        let four = was-4 h.entered k number u of_number q in
        record {
          answers = answer-no stitch_refused 16 _ _ r n (λ z. omega arith) w;
          room = answer-still x.room _ left.room number _ four n given.room;
          ends = answer-still x.ends _ left.ends number _ four n given.ends;
          chain = answer-still x.chain _ left.chain number _ four n given.chain;
          chain_ends = answer-still x.chain_ends _ left.chain_ends number _ four n given.chain_ends;
          chain_how = answer-still x.chain_how _ left.chain_how number _ four n given.chain_how;
        }

    by-same : (r : StitchAnswer) → u ≡ false → r ≡ a → NamedStitch h k g e x r left
    unfolding stitch_refusal named_stitch_refusal
    by-same r q w =
        let n = is_same h k sized _ (early_part g e) _ tt out number refl u of_number q in
        record {
          answers = answer-same stitch_refused number _ _ r n (w ∙ given.answers);
          room = answer-same (λ _. x.room) number _ _ left.room n given.room;
          ends = answer-same (λ _. x.ends) number _ _ left.ends n given.ends;
          chain = answer-same (λ _. x.chain) number _ _ left.chain n given.chain;
          chain_ends = answer-same (λ _. x.chain_ends) number _ _ left.chain_ends n given.chain_ends;
          chain_how = answer-same (λ _. x.chain_how) number _ _ left.chain_how n given.chain_how;
        }

-- the same of the parameters of a function
module _ (h : Held) (k : ℕ) (o1 o2 : List Float) (at : List ℕ) (numbers : List Float) (vc1 vc2 slices : ℕ) (starts : Starts) (selector : ℕ) (e : Editions) (x : Lists) where
  abbrev with : Tolerance → Given
  with t = given o1 o2 at numbers (plan_of vc1 vc2 slices starts selector t)

  module _ (b : Bool) (s : Setting) (a : StitchAnswer) (left : Lists) (u : Bool) (r : StitchAnswer) (is : b ≡ lengths_fault h) (good : b ≡ false) (asked : s ≡ asked_of h k)
      (base : StitchLeft (with (tolerance_of s.tolerance_x s.tolerance_y)) e x a left) (told : u ≡ unknown_fault h.entered k a.refusal) where
    base' : StitchLeft (with (tolerance_in h k)) e x a left
    base' = subst (λ (t : Setting). StitchLeft (with (tolerance_of t.tolerance_x t.tolerance_y)) e x a left) asked base

    pub stitch-unknown : (m : ℕ) → u ≡ true → m ≡ 16 → r ≡ stitch_refused m → NamedStitch h k (with (tolerance_in h k)) e x r left
    stitch-unknown m q z w = by-16 h k (with (tolerance_in h k)) e x refl (sym is ∙ good) a left base' u told r q (w ∙ ap stitch_refused z)

    pub stitch-named : u ≡ false → r ≡ a → NamedStitch h k (with (tolerance_in h k)) e x r left
    stitch-named q w = by-same h k (with (tolerance_in h k)) e x refl (sym is ∙ good) a left base' u told r q w

pub ruleset ways = (stitch-length, stitch-unknown, stitch-named)
