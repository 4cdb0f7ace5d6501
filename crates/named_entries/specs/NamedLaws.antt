-- Number 16 in its place, for any table: what a call with the setting's numbers answers is turned into what the call that names the setting answers.
use Rattle.std.specs.Prelude.{ℕ, zero, suc, ◌<◌, Bool, not, cond, ◌&&◌, ◌≡◌, ◌⊎◌, T, eqb}
use Rattle.std.proofs.Math.Bool.{true, false}
use Rattle.std.proofs.Math.Path.{refl, ap}
use Rattle.std.proofs.Common.{sym, ◌∙◌, inl, inr, arith}
use mathlib.Core.List.{List, [], ◌∷◌, ◌++◌}
use Rattle.std.proofs.Math.Dec.{ltb}
use borrow.Author.Tests.{ltb-true, eqb-true, ne_eqb}
use Rattle.basis.specs.Choice.{by-test, and_left, T-left, T-right, true_of}
use Rattle.basis.specs.Refuse.{Row, row, first_of, answer}
use Rattle.settings.specs.Settings.{Held, lengths_fault, known}
use Rattle.named_entries.specs.Named.{named_rows, unknown_fault, early}

-- the number of the call that names the setting, by that of the call with the setting's numbers
abbrev pub number_by : Bool → ℕ → ℕ
number_by unknown n = cond unknown 16 n

module _ (entered : List ℕ) (e : ℕ) where
  -- a number other than 4 stays
  pub other-stays : (n : ℕ) → (n ≡ 4 → ⊥) → unknown_fault entered e n ≡ false
  unfolding unknown_fault
  other-stays n h = rw (ne_eqb n 4 h)

  -- and every number where the setting is known
  pub known-stays : (n : ℕ) → known entered e ≡ true → unknown_fault entered e n ≡ false
  unfolding unknown_fault
  known-stays n k = rw k (go (eqb n 4))
    where
      go : (b : Bool) → (b && false) ≡ false
      go true = refl
      go false = refl

-- ---- the number

module _ (h : Held) (e : ℕ) (sized : lengths_fault h ≡ false) (later : List Row) where
  abbrev unknown : ℕ → Bool
  unknown n = unknown_fault h.entered e n

  -- the rows from number 4 on, with 16 before them
  last-number : (fault : Bool) → (known h.entered e ≡ false → fault ≡ true)
      → number_by (unknown (first_of (row fault 4 ∷ later))) (first_of (row fault 4 ∷ later)) ≡ first_of (row (not (known h.entered e)) 16 ∷ row fault 4 ∷ later)
  unfolding first_of unknown_fault
  last-number fault out =
      by-test (known h.entered e)
      (λ k. rw (known-stays h.entered e (first_of (row fault 4 ∷ later)) k, k))
      (λ k. rw (out k, k))

  front-number : (front : List Row) (fault : Bool) → T (early front) → (known h.entered e ≡ false → fault ≡ true)
      → number_by (unknown (first_of (front ++ (row fault 4 ∷ later)))) (first_of (front ++ (row fault 4 ∷ later)))
      ≡ first_of (front ++ (row (not (known h.entered e)) 16 ∷ row fault 4 ∷ later))
  unfolding first_of
  front-number [] fault own out = last-number fault out
  front-number (row true n ∷ front) fault own out =
      let less : n < 4 = ltb-true n 4 (true_of (ltb n 4) (T-right (ltb 0 n) (ltb n 4) (T-left (ltb 0 n && ltb n 4) (early front) own))) in
      rw (other-stays h.entered e n (λ q. omega arith))
  front-number (row false n ∷ front) fault own out = front-number front fault (T-right (ltb 0 n && ltb n 4) (early front) own) out

  module _ (front : List Row) (fault : Bool) (own : T (early front)) (out : known h.entered e ≡ false → fault ≡ true)
      (n : ℕ) (is : n ≡ first_of (front ++ (row fault 4 ∷ later))) (u : Bool) (told : u ≡ unknown_fault h.entered e n) where
    named-number : number_by u n ≡ first_of (named_rows h e front (row fault 4 ∷ later))
    unfolding first_of
    named-number = ap (λ (b : Bool). number_by b n) told ∙ ap (λ (k : ℕ). number_by (unknown k) k) is ∙ front-number front fault own out ∙ rw sized

    pub is-16 : u ≡ true → 16 ≡ first_of (named_rows h e front (row fault 4 ∷ later))
    is-16 q = ap (λ (b : Bool). number_by b n) (sym q) ∙ named-number

    pub is_same : u ≡ false → n ≡ first_of (named_rows h e front (row fault 4 ∷ later))
    is_same q = ap (λ (b : Bool). number_by b n) (sym q) ∙ named-number

pub was-4 : (entered : List ℕ) (e n : ℕ) (u : Bool) → u ≡ unknown_fault entered e n → u ≡ true → n ≡ 4
unfolding unknown_fault
was-4 entered e n u told q = eqb-true n 4 (and_left (eqb n 4) (not (known entered e)) (sym told ∙ q))

-- lists of other lengths are refused first
pub is-1 : (h : Held) (e : ℕ) (front back : List Row) → lengths_fault h ≡ true → 1 ≡ first_of (named_rows h e front back)
unfolding first_of
is-1 h e front back f = rw f

-- where the setting is unknown, the number is 16 or one before it
pub unknown-number : (front back : List Row) → T (early front) → (first_of (front ++ (row true 16 ∷ back)) ≡ 16) ⊎ (first_of (front ++ (row true 16 ∷ back)) < 4)
unfolding first_of
unknown-number [] back own = inl refl
unknown-number (row true n ∷ front) back own = inr (ltb-true n 4 (true_of (ltb n 4) (T-right (ltb 0 n) (ltb n 4) (T-left (ltb 0 n && ltb n 4) (early front) own))))
unknown-number (row false n ∷ front) back own = unknown-number front back (T-right (ltb 0 n && ltb n 4) (early front) own)

-- ---- the answer and the lent memory, by the one number or the other

pub answer-number : {A : Type 0} (f : ℕ → A) (refusal : A → ℕ) (n : ℕ) (a r : A) → ((k : ℕ) → refusal (f k) ≡ k) → refusal a ≡ 0 → r ≡ answer f n a → refusal r ≡ n
unfolding answer
answer-number f refusal zero a r h z e = ap refusal e ∙ z
answer-number f refusal (suc n) a r h z e = ap refusal e ∙ h (suc n)

pub answer-same : {A : Type 0} (f : ℕ → A) (n m : ℕ) (a r : A) → n ≡ m → r ≡ answer f n a → r ≡ answer f m a
answer-same f n m a r e q = q ∙ ap (λ (k : ℕ). answer f k a) e

-- what was lent is as it was, by either number
pub answer-still : {A : Type 0} (x y left : A) (n m : ℕ) → n ≡ 4 → 16 ≡ m → left ≡ answer (λ _. x) n y → left ≡ answer (λ _. x) m y
unfolding answer
answer-still x y left n m four sixteen q = q ∙ rw (four, ← sixteen)
