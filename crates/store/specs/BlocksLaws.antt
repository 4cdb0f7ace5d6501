-- Laws of places in a flat list, for any width and any element type.
use Prim.Native.Nat.{ℕ, zero, suc, ◌+◌, ◌-◌, ◌*◌, ◌≤◌, ◌<◌}
use Rattle.std.specs.Prelude.{◌≡◌, refl, get_or, ltb}
use Rattle.std.proofs.Math.Path.{sym, ap}
use Rattle.std.proofs.Common.{◌∙◌, mul-suc, mul-le-mul_left, mul-zero, length-drop, take_at, take-take, ltb-true, ltb-false}
use mathlib.Core.List.{List, [], ◌∷◌, ◌++◌, append_assoc, flat_map}
use native.Mathlib.Omega.{arith}
use Rattle.std.proofs.Math.ListN.{length, take, drop, length-append}
use Rattle.std.proofs.Math.Seq.{paste, take_all, take-append-le, drop-append-le, drop_at, drop-drop, length-take-le, drop-append-add}
use Rattle.std.proofs.lemmas.List.Edits.{length-paste}
use Rattle.basis.specs.Choice.{by-test}
use Rattle.basis.specs.All.{All}
use Rattle.store.specs.Blocks.{block}

-- a product as omega reads it
times-suc : (w n : ℕ) → w * suc n ≡ w * n + w
times-suc w n = mul-suc w n

times-le : (w : ℕ) {a b : ℕ} → a ≤ b → w * a ≤ w * b
times-le w h = mul-le-mul_left w h

module _ {A : Type 0} where
  drop_past : (xs ys : List A) (n k : ℕ) → length xs ≡ n → n ≤ k → drop k (xs ++ ys) ≡ drop (k - n) ys
  drop_past xs ys n k e h =
      let q : k ≡ length xs + (k - n) = omega arith in
      ap (λ (i : ℕ). drop i (xs ++ ys)) q ∙ drop-append-add xs ys (k - n)

  -- a part of a front is a part of the list
  same-take : (w a b : ℕ) (l : List A) → a + w ≤ b → take w (drop a (take b l)) ≡ take w (drop a l)
  same-take w zero b l h = take-take w b l (omega arith)
  same-take w (suc a) zero l h = absurd (omega arith)
  same-take w (suc a) (suc b) [] h = refl
  same-take w (suc a) (suc b) (x ∷ l) h = same-take w a b l (omega arith)

module _ {A : Type 0} (w : ℕ) where
  pub length-block : (l : List A) (n t : ℕ) → w * n ≤ length l → t < n → length (block w l t) ≡ w
  unfolding block
  length-block l n t h q =
      let k : w * suc t ≤ w * n = times-le w q in
      let e : w * suc t ≡ w * t + w = times-suc w t in
      length-take-le w (drop (w * t) l) (rw (length-drop (w * t) l) (omega arith))

  -- ---- one place written: that place, and every other
  module _ (l : List A) (t : ℕ) (x : List A) (e : length x ≡ w) (h : w * suc t ≤ length l) where
    at_most : w * t ≤ length l
    at_most = let u : w * suc t ≡ w * t + w = times-suc w t in omega arith

    pub block-paste-at : block w (paste l (w * t) x w) t ≡ x
    unfolding block
    block-paste-at =
        let k : length (take (w * t) l) ≡ w * t = length-take-le (w * t) l at_most in
        let m : take w x ≡ x = take_all w x (omega arith) in
        rw (append_assoc (take (w * t) l) (take w x) (drop (w * t + w) l), drop_at (take (w * t) l) (take w x ++ drop (w * t + w) l) (w * t) k, m) (take_at x (drop (w * t + w) l) w e)

    block-paste-before : (p : ℕ) → p < t → block w (paste l (w * t) x w) p ≡ block w l p
    unfolding block
    block-paste-before p q =
        let k : length (take (w * t) l) ≡ w * t = length-take-le (w * t) l at_most in
        let i : w * suc p ≤ w * t = times-le w q in
        let j : w * suc p ≡ w * p + w = times-suc w p in
        let r : w * p ≤ length (take (w * t) l) = omega arith in
        let f : w ≤ length (drop (w * p) (take (w * t) l)) = rw (length-drop (w * p) (take (w * t) l)) (omega arith) in
        rw (
          append_assoc (take (w * t) l) (take w x) (drop (w * t + w) l),
          drop-append-le (w * p) (take (w * t) l) (take w x ++ drop (w * t + w) l) r,
          take-append-le w (drop (w * p) (take (w * t) l)) (take w x ++ drop (w * t + w) l) f,
        )
        (same-take w (w * p) (w * t) l (omega arith))

    block-paste-after : (p : ℕ) → t < p → block w (paste l (w * t) x w) p ≡ block w l p
    unfolding block
    block-paste-after p q =
        let i : w * suc t ≤ w * p = times-le w q in
        let j : w * suc t ≡ w * t + w = times-suc w t in
        let n : length (take (w * t) l ++ take w x) ≡ w * t + w
        = length-append (take (w * t) l) (take w x) ∙ rw (length-take-le (w * t) l at_most, take_all w x (omega arith), e) in
        let r : w * t + w + (w * p - (w * t + w)) ≡ w * p = omega arith in
        rw (
          drop_past (take (w * t) l ++ take w x) (drop (w * t + w) l) (w * t + w) (w * p) n (omega arith),
          drop-drop (w * p - (w * t + w)) (w * t + w) l,
          r,
        )

    pub block-paste-other : (p : ℕ) → (p ≡ t → ⊥) → block w (paste l (w * t) x w) p ≡ block w l p
    block-paste-other p d =
        by-test (ltb p t)
        (λ f. block-paste-before p (ltb-true p t f))
        (λ f. let g : t ≤ p = ltb-false p t f in block-paste-after p (omega (arith, d)))

    pub length-paste-place : length (paste l (w * t) x w) ≡ length l
    length-paste-place = let u : w * suc t ≡ w * t + w = times-suc w t in length-paste l (w * t) x w (omega arith) (omega arith)

-- ---- items laid one after the other: each stands at the place of its number
module _ {A B : Type 0} (f : A → List B) (w : ℕ) where
  pub block-flat : (l : List A) (z : List B) (j : ℕ) (d : A) → All (λ a. length (f a) ≡ w) l → j < length l → block w (flat_map f l ++ z) j ≡ f (get_or l j d)
  unfolding block flat_map
  block-flat [] z j d wide h = absurd (omega arith)
  block-flat (x ∷ l) z zero d wide h = rw (mul-zero w, append_assoc (f x) (flat_map f l) z) (take_at (f x) (flat_map f l ++ z) w wide.0)
  block-flat (x ∷ l) z (suc j) d wide h =
      let t : w * suc j ≡ w * j + w = times-suc w j in
      let u : w * suc j - w ≡ w * j = omega arith in
      let e : drop (w * suc j) (f x ++ (flat_map f l ++ z)) ≡ drop (w * j) (flat_map f l ++ z)
      = drop_past (f x) (flat_map f l ++ z) w (w * suc j) wide.0 (omega arith) ∙ ap (λ (i : ℕ). drop i (flat_map f l ++ z)) u in
      rw (append_assoc (f x) (flat_map f l) z, e) (block-flat l z j d wide.1 (omega arith))

  pub length-flat : (l : List A) → All (λ a. length (f a) ≡ w) l → length (flat_map f l) ≡ w * length l
  unfolding flat_map
  length-flat [] wide = sym (mul-zero w)
  length-flat (x ∷ l) wide = length-append (f x) (flat_map f l) ∙ rw (wide.0, length-flat l wide.1, times-suc w (length l)) (omega arith)
