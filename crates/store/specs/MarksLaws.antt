-- Laws of marks: what the live ones are, and that marks of which none clash are live where they stand in front of zeros.
use Prim.Native.Nat.{ℕ, zero, suc, ◌+◌, ◌-◌, ◌/◌, ◌%◌, ◌≤◌, ◌<◌}
use Rattle.std.specs.Prelude.{true, false, not, ◌≡◌, List, [], ◌∷◌, ◌++◌, length, get_or, take, replicate, eqb, leb, ltb}
use Rattle.std.proofs.Common.{sym, ◌∙◌, length-append, take-suc, get_or-append-add}
use Rattle.std.proofs.Math.Path.{refl, ap}
use native.Mathlib.Omega.{arith}
use Rattle.std.proofs.Math.Nat.{mod-eq_of_lt, div-eq_of_lt, mul-add-mod_self_left, mul-add-div}
use Rattle.std.proofs.lemmas.List.{length-replicate}
use Rattle.std.proofs.Math.ListN.{get_or-append}
use Rattle.std.proofs.Math.Seq.{take-length}
use borrow.Author.Tests.{lt-ltb, le-leb, ltb-true, leb-true, eqb-true, ne_eqb, not-true}
use Rattle.basis.specs.Choice.{by-test, clash, and_left, and_right, or_left, or_right}
use Rattle.store.specs.Keys.{keyed, without}
use Rattle.store.specs.KeysLaws.{keyed-snoc, without-none}
use Rattle.store.specs.Marks.{mark_of, handle_of, place_of, named, fresh, then_live, lives_to, lives_of, filled}

-- ---- the parts of a mark

module _ (t h : ℕ) (small : h < 2047) where
  rest : h + 1 < 2048
  rest = omega arith

  mark-rest : mark_of t h % 2048 ≡ h + 1
  unfolding mark_of
  mark-rest = mul-add-mod_self_left 2048 t (h + 1) ∙ mod-eq_of_lt rest

  pub mark-handle : handle_of (mark_of t h) ≡ h
  unfolding handle_of
  mark-handle = ap (λ (n : ℕ). n - 1) mark-rest ∙ omega arith

  pub mark-place : place_of (mark_of t h) ≡ t
  unfolding place_of mark_of
  mark-place = mul-add-div {m = 2048} (omega arith) t (h + 1) ∙ rw (div-eq_of_lt rest) (omega arith)

  mark-quotient : mark_of t h / 2048 ≡ t
  unfolding place_of
  mark-quotient = mark-place

  pub mark-named : (cap : ℕ) → h < cap → t < cap → named cap (mark_of t h) ≡ true
  unfolding named
  mark-named cap a b = rw (mark-rest, mark-quotient, lt-ltb 0 (h + 1) (omega arith), le-leb (h + 1) cap (omega arith), lt-ltb t cap b)

-- ---- what a mark that is named names

module _ (cap m : ℕ) (e : named cap m ≡ true) where
  pub named_some : 0 < m % 2048
  unfolding named
  named_some = ltb-true 0 (m % 2048) (and_left _ _ e)

  pub named-most : m % 2048 ≤ cap
  unfolding named
  named-most = leb-true (m % 2048) cap (and_left _ _ (and_right (ltb 0 (m % 2048)) _ e))

  pub named-handle : handle_of m < cap
  unfolding handle_of
  named-handle = let a = named_some in let b = named-most in omega arith

  pub named-place : place_of m < cap
  unfolding place_of named
  named-place = ltb-true (m / 2048) cap (and_right (leb (m % 2048) cap) _ (and_right (ltb 0 (m % 2048)) _ e))

pub zero-named : (cap : ℕ) → named cap 0 ≡ false
unfolding named
zero-named cap = refl

-- ---- fresh

module _ (cap : ℕ) (l : List ℕ) (m : ℕ) where
  pub fresh-yes : named cap m ≡ true → keyed handle_of l (handle_of m) ≡ false → keyed place_of l (place_of m) ≡ false → fresh cap l m ≡ true
  unfolding fresh
  fresh-yes a b c = rw (a, b, c)

  pub fresh-unnamed : named cap m ≡ false → fresh cap l m ≡ false
  unfolding fresh
  fresh-unnamed a = rw a

  pub fresh-handle : keyed handle_of l (handle_of m) ≡ true → fresh cap l m ≡ false
  unfolding fresh
  fresh-handle a = by-test (named cap m) (λ e. rw (e, a)) (λ e. rw e)

  pub fresh-place : keyed place_of l (place_of m) ≡ true → fresh cap l m ≡ false
  unfolding fresh
  fresh-place a = by-test (named cap m) (λ e. by-test (keyed handle_of l (handle_of m)) (λ f. rw (e, f)) (λ f. rw (e, f, a))) (λ e. rw e)

  module _ (e : fresh cap l m ≡ true) where
    is-named : named cap m ≡ true
    unfolding fresh
    is-named = and_left _ _ e

    is-new : keyed handle_of l (handle_of m) ≡ false
    unfolding fresh
    is-new = not-true _ (and_left _ _ (and_right (named cap m) _ e))

    is-clear : keyed place_of l (place_of m) ≡ false
    unfolding fresh
    is-clear = not-true _ (and_right (not (keyed handle_of l (handle_of m))) _ (and_right (named cap m) _ e))

-- ---- marks of which none clash: each names a handle and a place that no other does

abbrev pub Proper : ℕ → List ℕ → Type 0
Proper cap [] = Unit {0}
Proper cap (m ∷ l) = (named cap m ≡ true) × ((keyed handle_of l (handle_of m) ≡ false) × ((keyed place_of l (place_of m) ≡ false) × Proper cap l))

other : (a b : ℕ) → eqb a b ≡ false → eqb b a ≡ false
other a b e = ne_eqb b a (λ q. borrow.Author.Tests.eqb-false a b e (sym q))

-- a key that neither a list nor one more element has
none-snoc : (key : ℕ → ℕ) (l : List ℕ) (m x : ℕ) → keyed key l (key x) ≡ false → eqb (key x) (key m) ≡ false → keyed key (l ++ (m ∷ [])) (key x) ≡ false
none-snoc key l m x a b = keyed-snoc key l m (key x) ∙ rw (a, other (key x) (key m) b)

pub proper-snoc : (cap : ℕ) (l : List ℕ) (m : ℕ) → Proper cap l → fresh cap l m ≡ true → Proper cap (l ++ (m ∷ []))
unfolding keyed
proper-snoc cap [] m p e = (is-named cap [] m e, (refl, (refl, tt)))
proper-snoc cap (x ∷ l) m p e =
    let a : named cap m ≡ true = is-named cap (x ∷ l) m e in
    let b = is-new cap (x ∷ l) m e in
    let c = is-clear cap (x ∷ l) m e in
    let b₁ : eqb (handle_of x) (handle_of m) ≡ false = or_left _ _ b in
    let b₂ : keyed handle_of l (handle_of m) ≡ false = or_right (eqb (handle_of x) (handle_of m)) _ b in
    let c₁ : eqb (place_of x) (place_of m) ≡ false = or_left _ _ c in
    let c₂ : keyed place_of l (place_of m) ≡ false = or_right (eqb (place_of x) (place_of m)) _ c in (
      p.0,
      (
        none-snoc handle_of l m x p.1.0 b₁,
        (none-snoc place_of l m x p.1.1.0 c₁, proper-snoc cap l m p.1.1.1 (fresh-yes cap l m a b₂ c₂)),
      ),
    )

pub proper-without : (cap : ℕ) (l : List ℕ) (h : ℕ) → Proper cap l → Proper cap (without handle_of l h)
unfolding without
proper-without cap [] h p = tt
proper-without cap (m ∷ l) h p =
    let q : Proper cap (without handle_of l h) = proper-without cap l h p.1.1.1 in
    by-test (eqb (handle_of m) h)
    (λ e. rw e q)
    (λ e.
    rw e
    (p.0, (without-none handle_of handle_of l h (handle_of m) p.1.0, (without-none handle_of place_of l h (place_of m) p.1.1.0, q))))

pub lives-proper : (cap : ℕ) (held : List ℕ) (p : ℕ) → Proper cap (lives_to cap held p)
unfolding lives_to then_live
lives-proper cap held zero = tt
lives-proper cap held (suc p) =
    let l : List ℕ = lives_to cap held p in
    let m : ℕ = get_or held p 0 in
    by-test (fresh cap (lives_to cap held p) (get_or held p 0))
    (λ e. rw e (proper-snoc cap (lives_to cap held p) (get_or held p 0) (lives-proper cap held p) e))
    (λ e. rw e (lives-proper cap held p))

pub lives-most : (cap : ℕ) (held : List ℕ) (p : ℕ) → length (lives_to cap held p) ≤ p
unfolding lives_to then_live
lives-most cap held zero = omega arith
lives-most cap held (suc p) =
    let q : length (lives_to cap held p) ≤ p = lives-most cap held p in
    by-test (fresh cap (lives_to cap held p) (get_or held p 0))
    (λ e. rw (e, length-append (lives_to cap held p) (get_or held p 0 ∷ [])) (omega arith))
    (λ e. rw e (omega arith))

-- ---- no mark clashes with those before it

-- the key of each element is a key of the list
keyed-at : (key : ℕ → ℕ) (l : List ℕ) (k : ℕ) → k < length l → keyed key l (key (get_or l k 0)) ≡ true
unfolding keyed
keyed-at key [] k h = absurd (omega arith)
keyed-at key (x ∷ l) zero h = rw (borrow.Author.Tests.eq-eqb (key x) (key x) refl)
keyed-at key (x ∷ l) (suc k) h = by-test (eqb (key x) (key (get_or l k 0))) (λ e. rw e) (λ e. rw e (keyed-at key l k (omega arith)))

apart : (key : ℕ → ℕ) (l : List ℕ) (x k : ℕ) → k < length l → keyed key l (key x) ≡ false → eqb (key x) (key (get_or l k 0)) ≡ false
apart key l x k h e =
    by-test (eqb (key x) (key (get_or l k 0)))
    (λ f.
    let q : key x ≡ key (get_or l k 0) = eqb-true _ _ f in
    let g : keyed key l (key x) ≡ true = rw q (keyed-at key l k h) in
    clash (keyed key l (key x)) g e)
    (λ f. f)

pub proper-at : (cap : ℕ) (l : List ℕ) (k : ℕ) → Proper cap l → k < length l → fresh cap (take k l) (get_or l k 0) ≡ true
unfolding keyed
proper-at cap [] k p h = absurd (omega arith)
proper-at cap (x ∷ l) zero p h = fresh-yes cap [] x p.0 refl refl
proper-at cap (x ∷ l) (suc k) p h =
    let i : k < length l = omega arith in
    let e : fresh cap (take k l) (get_or l k 0) ≡ true = proper-at cap l k p.1.1.1 i in
    fresh-yes cap (x ∷ take k l) (get_or l k 0) (is-named cap (take k l) (get_or l k 0) e)
    (rw (apart handle_of l x k i p.1.0) (is-new cap (take k l) (get_or l k 0) e))
    (rw (apart place_of l x k i p.1.1.0) (is-clear cap (take k l) (get_or l k 0) e))

-- ---- marks in front of zeros

module _ (cap : ℕ) (l z : List ℕ) (p : Proper cap l) where
  lives-front : (k : ℕ) → k ≤ length l → lives_to cap (l ++ z) k ≡ take k l
  unfolding lives_to then_live
  lives-front zero h = refl
  lives-front (suc k) h =
      rw (lives-front k (omega arith), get_or-append l z 0 k h, proper-at cap l k p h)
      (sym (take-suc l k 0 h))

  past_more : (k : ℕ) → lives_to cap (l ++ z) k ≡ l → get_or (l ++ z) k 0 ≡ 0 → lives_to cap (l ++ z) (suc k) ≡ l
  unfolding lives_to then_live
  past_more k e f = rw (e, f, fresh-unnamed cap l 0 (zero-named cap))

  lives-past : ((k : ℕ) → length l ≤ k → get_or (l ++ z) k 0 ≡ 0) → (n : ℕ) → lives_to cap (l ++ z) (length l + n) ≡ l
  lives-past e zero = ap (lives_to cap (l ++ z)) (omega arith) ∙ lives-front (length l) (omega arith) ∙ take-length l
  lives-past e (suc n) =
      let s : length l + suc n ≡ suc (length l + n) = omega arith in
      ap (lives_to cap (l ++ z)) s ∙ past_more (length l + n) (lives-past e n) (e (length l + n) (omega arith))

pub zeros-at : (n k : ℕ) → ◌≡◌ {A = ℕ} (get_or (replicate n 0) k 0) 0
zeros-at zero k = refl
zeros-at (suc n) zero = refl
zeros-at (suc n) (suc k) = zeros-at n k

past-zeros : (l : List ℕ) (n k : ℕ) → length l ≤ k → get_or (l ++ replicate n 0) k 0 ≡ 0
past-zeros l n k h =
    let i : k ≡ length l + (k - length l) = omega arith in
    ap (λ (j : ℕ). get_or (l ++ replicate n 0) j 0) i ∙ get_or-append-add l (replicate n 0) (k - length l) 0 ∙ zeros-at n (k - length l)

-- such marks are the live ones
pub lives-filled : (cap : ℕ) (l : List ℕ) → Proper cap l → length l ≤ cap → lives_of cap (filled 0 cap l) ≡ l
unfolding filled
lives-filled cap l p h =
    let e : length l + (cap - length l) ≡ cap = omega arith in
    rw e at (lives-past cap l (replicate (cap - length l) 0) p (past-zeros l (cap - length l)) (cap - length l))

pub length-filled : {A : Type 0} (none : A) (n : ℕ) (items : List A) → length items ≤ n → length (filled none n items) ≡ n
unfolding filled
length-filled none n items h = length-append items (replicate (n - length items) none) ∙ rw (length-replicate (n - length items) none) (omega arith)

-- zeros are the empty store
pub lives-none : (cap : ℕ) (held : List ℕ) (p : ℕ) → ((k : ℕ) → k < p → get_or held k 0 ≡ 0) → lives_to cap held p ≡ []
unfolding lives_to then_live
lives-none cap held zero z = refl
lives-none cap held (suc p) z = rw (lives-none cap held p (λ k h. z k (omega arith)), z p (omega arith), fresh-unnamed cap [] 0 (zero-named cap))
