-- The laws of the scan over numbers, by which a caller uses `numbers::offer` and `numbers::chosen`; and that after the same slices it chooses as the scan over choices does.
use Rattle.std.specs.Prelude.{ℕ, ◌<◌, Bool, true, false, cond, ◌≡◌, refl, List, [], ◌∷◌, ◌++◌, eqb, Option, Some, None}
use Rattle.std.specs.Bool.{then_some}
use Rattle.std.proofs.Common.{sym, ◌∙◌, arith, ne_eqb}
use Rattle.std.proofs.Math.Path.{ap}
use Rattle.basis.specs.All.{All, all_snoc}
use Rattle.basis.specs.Choice.{by-test}
use Rattle.select.specs.declared.class.Starts.{Starts}
use Rattle.select.specs.declared.class.Class.{Class}
use Rattle.select.specs.declared.class.Class.TheVariants.{OfOne, OfTwo, OverlapOfOne, OverlapOfTwo}
use Rattle.select.specs.declared.table.Choice.{Choice}
use Rattle.select.specs.declared.table.Choice.TheVariants.{One, Two, Any, Nothing}
use Rattle.select.specs.declared.table.Choices.{Choices}
use Rattle.select.specs.declared.numbers.ChoiceCodes.{ChoiceCodes}
use Rattle.select.specs.declared.numbers.BestNumbers.{BestNumbers}
use Rattle.select.specs.declared.best.Best.{Best}
use Rattle.select.specs.Select.{class_of, place_of, suits_of, first_that, or_else, choose, pick_of, no_number, chosen_of, Scanned}
use Rattle.select.specs.SelectLaws.{first_more, scan-end}
use Rattle.select.specs.Numbers.{choice_code, choice_codes, suits_code, choose_code, pick_code, no_numbers, kept_number, offer_numbers, chosen_number, number_of, best_numbers, NumbersScanned}

abbrev Under : Option ℕ → Type 0
Under (Some j) = j < no_number
Under None = Unit

first_under : (p : ℕ → Bool) (l : List ℕ) → All (λ j. j < no_number) l → Under (first_that p l)
unfolding first_that
first_under p [] b = tt
first_under p (j ∷ l) b = by-test (p j) (λ e. rw e b.0) (λ e. rw e (first_under p l b.1))

not-number : (j : ℕ) → j < no_number → eqb j no_number ≡ false
not-number j h = ne_eqb j no_number (λ e. omega arith)

-- one choice, one candidate more
kept_more : (a : Option ℕ) (code j k : ℕ) → Under a → kept_number (number_of a) code j k ≡ number_of (or_else a (then_some (suits_code code k) j))
unfolding kept_number or_else
kept_more (Some i) code j k h = rw (not-number i h)
kept_more None code j k h = go (suits_code code k)
  where
    go : (t : Bool) → cond t j no_number ≡ number_of (then_some t j)
    go true = refl
    go false = refl

module _ (c : ChoiceCodes) (s : Starts) where
  pub numbers-none : (b : BestNumbers) → b ≡ no_numbers → NumbersScanned c s [] b
  unfolding best_numbers no_numbers choose_code first_that
  numbers-none b e = record { below = tt; is = e }

  pub numbers-offer : (l : List ℕ) (b b' : BestNumbers) (j k : ℕ) → NumbersScanned c s l b → j < no_number → k ≡ place_of (class_of s j) → b' ≡ offer_numbers b c j k → NumbersScanned c s (l ++ (j ∷ [])) b'
  unfolding best_numbers offer_numbers choose_code
  numbers-offer l b b' j k h u e f =
      let more : (code : ℕ) → kept_number (number_of (choose_code s code l)) code j k ≡ number_of (choose_code s code (l ++ (j ∷ []))) =
      λ code. kept_more (choose_code s code l) code j k (first_under (λ i. suits_code code (place_of (class_of s i))) l h.below)
      ∙ rw e (ap number_of (sym (first_more (λ i. suits_code code (place_of (class_of s i))) l j))) in
      record {
        below = all_snoc (λ i. i < no_number) l j h.below u;
        is = f ∙ rw h.is (rw (more c.first, more c.second, more c.third));
      }

  -- what is chosen after the scan is what the definition picks
  pub numbers-end : (l : List ℕ) (b : BestNumbers) (r : Option ℕ) → NumbersScanned c s l b → r ≡ chosen_number b → r ≡ pick_code c s l
  unfolding best_numbers pick_code choose_code chosen_number or_else
  numbers-end l b r h e =
      e ∙ ap chosen_number h.is
      ∙ go (choose_code s c.first l) (choose_code s c.second l) (choose_code s c.third l) (under c.first) (under c.second) (under c.third)
    where
      under : (code : ℕ) → Under (choose_code s code l)
      under code = first_under (λ i. suits_code code (place_of (class_of s i))) l h.below

      go : (x y z : Option ℕ) → Under x → Under y → Under z → chosen_number (record { first = number_of x; second = number_of y; third = number_of z }) ≡ or_else x (or_else y z)
      go (Some i) y z u v w = rw (not-number i u)
      go None (Some i) z u v w = rw (not-number i v)
      go None None (Some i) u v w = rw (not-number i w)
      go None None None u v w = refl

-- by these a scan over numbers is proved: nothing offered, a candidate offered, the answer
pub ruleset number_scans = (numbers-none, numbers-offer, numbers-end)

-- ---- the codes of a choice and a class say what these say
pub suits-agree : (c : Choice) (k : Class) → suits_code (choice_code c) (place_of k) ≡ suits_of c k
unfolding suits_code suits_of
suits-agree Any k = refl
suits-agree Nothing k = refl
suits-agree One OfOne = refl
suits-agree One OfTwo = refl
suits-agree One OverlapOfOne = refl
suits-agree One OverlapOfTwo = refl
suits-agree Two OfOne = refl
suits-agree Two OfTwo = refl
suits-agree Two OverlapOfOne = refl
suits-agree Two OverlapOfTwo = refl

choose-agree : (s : Starts) (c : Choice) (l : List ℕ) → choose_code s (choice_code c) l ≡ choose s c l
unfolding choose_code choose first_that
choose-agree s c [] = refl
choose-agree s c (j ∷ l) = rw (suits-agree c (class_of s j), choose-agree s c l)

-- so what is picked by codes is what is picked
pub pick-agree : (c : Choices) (s : Starts) (l : List ℕ) → pick_code (choice_codes c) s l ≡ pick_of c s l
unfolding pick_code pick_of
pick-agree c s l = rw (choose-agree s c.first l, choose-agree s c.second l, choose-agree s c.third l)

-- and after the same slices, each with its class and below `no_number`, both scans choose alike
pub scans-agree : (c : Choices) (s : Starts) (l : List ℕ) (b : BestNumbers) (b' : Best) → NumbersScanned (choice_codes c) s l b → Scanned c s l b' → chosen_number b ≡ chosen_of b'
scans-agree c s l b b' h h' = numbers-end (choice_codes c) s l b (chosen_number b) h refl ∙ pick-agree c s l ∙ sym (scan-end c s l b' (chosen_of b') h' refl)
