-- Laws by which a scan is proved.
use Prim.Native.Nat.{ℕ, ◌+◌}
use mathlib.Core.Bool.{Bool, true, false}
use mathlib.Core.Path.{◌≡◌, refl, sym, ap, ◌∙◌}
use mathlib.Core.List.{List, [], ◌∷◌, ◌++◌, append-nil}
use native.Mathlib.Numerals.{add-one}
use lib.Ieee.{Float}
use Rattle.outline.specs.declared.point.Point.{Point}
use Rattle.basis.specs.declared.number.Tolerance.{Tolerance}
use Rattle.outline.specs.Points.{in_box}
use Rattle.outline.specs.Outline.{point_at}
use Rattle.select.specs.declared.class.Starts.{Starts}
use Rattle.select.specs.declared.table.Choices.{Choices}
use Rattle.select.specs.declared.best.Best.{Best}
use Rattle.select.specs.declared.class.Class.{Class}
use Rattle.std.specs.Prelude.{Option, Some, None}
use Rattle.std.specs.Bool.{then_some}
use Rattle.std.specs.Option.{unwrap_or}
use Rattle.std.proofs.lemmas.Option.{none-some}
use Rattle.select.specs.Select.{class_of, choices_of, first_that, choose, none_yet, offer_of, chosen_of, best_of, select_of}
use Rattle.select.specs.SelectLaws as select
use Rattle.stitch_run.specs.Run.{passing}
use Rattle.stitch_answer.specs.Answer.{has_any, answer_of}
use Rattle.stitch_round.specs.Ready.{Met}

-- a start point that was read is held against the box
pub near_of : (t : Tolerance) (end p : Point) (points : List Float) (i : ℕ) (r : Bool) → p ≡ point_at points i → r ≡ in_box t end p → r ≡ in_box t end (point_at points i)
near_of t end p points i r e f = f ∙ ap (in_box t end) e

-- ---- the scan: the slices below j were looked at

has_more : (l : List ℕ) (j : ℕ) → true ≡ has_any (l ++ (j ∷ []))
has_more [] j = refl
has_more (i ∷ l) j = refl

module _ (p : ℕ → Bool) (s : Starts) (c : Choices) where
  pub meet-none : Met p s c 0 None
  unfolding passing
  meet-none = record { is = refl }

  -- what is kept so far, also before any candidate
  kept_so_far : (l : List ℕ) (m : Option Best) → m ≡ then_some (has_any l) (best_of c s l) → unwrap_or m none_yet ≡ best_of c s l
  unfolding none_yet best_of choose first_that
  kept_so_far [] m e = rw e
  kept_so_far (j ∷ l) m e = rw e

  module _ (j : ℕ) (m : Option Best) (x : Bool) (h : Met p s c j m) (e : x ≡ p j) where
    pub meet-skip : x ≡ false → Met p s c (j + 1) m
    unfolding passing
    meet-skip f = record { is = rw (add-one, sym e ∙ f, append-nil (passing p j)) h.is }

    pub meet-more : (none b b' : Best) (k : Class) → x ≡ true → none ≡ none_yet → b ≡ unwrap_or m none → k ≡ class_of s j → b' ≡ offer_of b c j k → Met p s c (j + 1) (Some b')
    unfolding passing
    meet-more none b b' k f z u v w =
        let q : b ≡ best_of c s (passing p j) = (rw z at u) ∙ kept_so_far (passing p j) m h.is in
        let t = select.scan-offer c s (passing p j) b b' j k (record { is = q }) v w in
        record { is = rw (add-one, sym e ∙ f, ← has_more (passing p j) j) (ap (λ (y : Best). Some y) t.is) }

-- ---- what the selector answers among those that were met

module _ (p : ℕ → Bool) (s : Starts) (selector current n : ℕ) (c : Choices) (m : Option Best) (e : c ≡ choices_of selector s current) (t : Met p s c n m) where
  pub answer-none : (r : Option (Option ℕ)) → m ≡ None → r ≡ None → r ≡ answer_of selector s current (passing p n)
  unfolding answer_of
  answer-none r f g = g ∙ go (has_any (passing p n)) (sym f ∙ t.is)
    where
      go : (a : Bool) → None ≡ then_some a (best_of c s (passing p n)) → None ≡ then_some a (select_of selector s current (passing p n))
      go false q = refl
      go true q = absurd (none-some _ q)

  pub answer-some : (b : Best) (r : Option ℕ) → m ≡ Some b → r ≡ chosen_of b → Some r ≡ answer_of selector s current (passing p n)
  unfolding answer_of
  answer-some b r f g = go (has_any (passing p n)) (sym f ∙ t.is)
    where
      go : (a : Bool) → Some b ≡ then_some a (best_of c s (passing p n)) → Some r ≡ then_some a (select_of selector s current (passing p n))
      go false q = absurd (none-some _ (sym q))
      go true q =
          let k : b ≡ best_of c s (passing p n) = cc in
          ap (λ (y : Option ℕ). Some y) (select.scan-select selector s current c (passing p n) r e (select.scan-end c s (passing p n) b r (record { is = k }) g))

pub ruleset answering = (answer-none, answer-some)
