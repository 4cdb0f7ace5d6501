-- Rows of codes, numbers and an edition: mixed and taken apart again, and the other way round.
use Prim.Native.Nat.{ℕ, zero, suc, ◌+◌, ◌*◌, ◌≤◌}
use Rattle.std.specs.Prelude.{◌≡◌, refl}
use Rattle.std.proofs.Math.Path.{sym, ap}
use Rattle.std.proofs.Common.{◌∙◌, arith, drop-drop}
use mathlib.Core.List.{List, [], ◌∷◌, ◌++◌}
use Rattle.std.proofs.Math.Nat.{suc-mul}
use Rattle.std.proofs.Math.ListN.{length, take, drop, length-drop, take-append-drop}
use Rattle.std.proofs.Math.Seq.{take_at, drop_at, length-take-le}
use Rattle.record_form.specs.Form.{column, mix}

-- a list of no elements
nothing : {A : Type 0} (l : List A) → length l ≡ 0 → l ≡ []
nothing [] h = refl
nothing (x ∷ l) h = absurd (omega arith)

-- a row's three parts, and what follows it
module _ {A : Type 0} (c m : ℕ) (x y z r : List A) (lx : length x ≡ c) (ly : length y ≡ m) (lz : length z ≡ 1) where
  past-codes : drop c (x ++ (y ++ (z ++ r))) ≡ y ++ (z ++ r)
  past-codes = drop_at x (y ++ (z ++ r)) c lx

  past-numbers : drop (c + m) (x ++ (y ++ (z ++ r))) ≡ z ++ r
  past-numbers = sym (drop-drop m c (x ++ (y ++ (z ++ r)))) ∙ ap (drop m) past-codes ∙ drop_at y (z ++ r) m ly

  past_row : drop (c + m + 1) (x ++ (y ++ (z ++ r))) ≡ r
  past_row = sym (drop-drop 1 (c + m) (x ++ (y ++ (z ++ r)))) ∙ ap (drop 1) past-numbers ∙ drop_at z r 1 lz

  row-codes : take c (x ++ (y ++ (z ++ r))) ≡ x
  row-codes = take_at x (y ++ (z ++ r)) c lx

  row-numbers : take m (drop c (x ++ (y ++ (z ++ r)))) ≡ y
  row-numbers = ap (take m) past-codes ∙ take_at y (z ++ r) m ly

  row-date : take 1 (drop (c + m) (x ++ (y ++ (z ++ r)))) ≡ z
  row-date = ap (take 1) past-numbers ∙ take_at z r 1 lz

-- lists of n items of w elements each
module _ {A : Type 0} (w n : ℕ) (l : List A) (h : length l ≡ suc n * w) where
  first-item : length (take w l) ≡ w
  first-item = length-take-le w l (omega (arith, h, suc-mul n w))

  other_items : length (drop w l) ≡ n * w
  other_items = length-drop w l ∙ omega (arith, h, suc-mul n w)

-- the values of a row
abbrev stride : ℕ → ℕ → ℕ
stride c m = c + m + 1

module _ {A : Type 0} (c m : ℕ) where
  pub codes-back : (n : ℕ) (codes numbers dates : List A) → length codes ≡ n * c → length numbers ≡ n * m → length dates ≡ n * 1
      → column (stride c m) 0 c n (mix c m n codes numbers dates) ≡ codes
  unfolding column mix
  codes-back zero codes numbers dates h k l = sym (nothing codes (omega arith))
  codes-back (suc n) codes numbers dates h k l =
      let x = take c codes in
      let y = take m numbers in
      let z = take 1 dates in
      let r = mix c m n (drop c codes) (drop m numbers) (drop 1 dates) in
      let lx = first-item c n codes h in
      let ly = first-item m n numbers k in
      let lz = first-item 1 n dates l in
      let i : column (stride c m) 0 c n r ≡ drop c codes =
      codes-back n (drop c codes) (drop m numbers) (drop 1 dates) (other_items c n codes h) (other_items m n numbers k) (other_items 1 n dates l) in
      rw (past_row c m x y z r lx ly lz, row-codes c m x y z r lx ly lz, i) (take-append-drop c codes)

  pub numbers-back : (n : ℕ) (codes numbers dates : List A) → length codes ≡ n * c → length numbers ≡ n * m → length dates ≡ n * 1
      → column (stride c m) c m n (mix c m n codes numbers dates) ≡ numbers
  unfolding column mix
  numbers-back zero codes numbers dates h k l = sym (nothing numbers (omega arith))
  numbers-back (suc n) codes numbers dates h k l =
      let x = take c codes in
      let y = take m numbers in
      let z = take 1 dates in
      let r = mix c m n (drop c codes) (drop m numbers) (drop 1 dates) in
      let lx = first-item c n codes h in
      let ly = first-item m n numbers k in
      let lz = first-item 1 n dates l in
      let i : column (stride c m) c m n r ≡ drop m numbers =
      numbers-back n (drop c codes) (drop m numbers) (drop 1 dates) (other_items c n codes h) (other_items m n numbers k) (other_items 1 n dates l) in
      rw (past_row c m x y z r lx ly lz, row-numbers c m x y z r lx ly lz, i) (take-append-drop m numbers)

  pub dates-back : (n : ℕ) (codes numbers dates : List A) → length codes ≡ n * c → length numbers ≡ n * m → length dates ≡ n * 1
      → column (stride c m) (c + m) 1 n (mix c m n codes numbers dates) ≡ dates
  unfolding column mix
  dates-back zero codes numbers dates h k l = sym (nothing dates (omega arith))
  dates-back (suc n) codes numbers dates h k l =
      let x = take c codes in
      let y = take m numbers in
      let z = take 1 dates in
      let r = mix c m n (drop c codes) (drop m numbers) (drop 1 dates) in
      let lx = first-item c n codes h in
      let ly = first-item m n numbers k in
      let lz = first-item 1 n dates l in
      let i : column (stride c m) (c + m) 1 n r ≡ drop 1 dates =
      dates-back n (drop c codes) (drop m numbers) (drop 1 dates) (other_items c n codes h) (other_items m n numbers k) (other_items 1 n dates l) in
      rw (past_row c m x y z r lx ly lz, row-date c m x y z r lx ly lz, i) (take-append-drop 1 dates)

  pub rows_back : (n : ℕ) (vs : List A) → length vs ≡ n * stride c m
      → mix c m n (column (stride c m) 0 c n vs) (column (stride c m) c m n vs) (column (stride c m) (c + m) 1 n vs) ≡ vs
  unfolding column mix
  rows_back zero vs h = sym (nothing vs (omega arith))
  rows_back (suc n) vs h =
      let l : stride c m ≤ length vs = omega (arith, h, suc-mul n (stride c m)) in
      let x = take c vs in
      let y = take m (drop c vs) in
      let z = take 1 (drop (c + m) vs) in
      let rest = drop (stride c m) vs in
      let p = column (stride c m) 0 c n rest in
      let q = column (stride c m) c m n rest in
      let t = column (stride c m) (c + m) 1 n rest in
      let lx : length x ≡ c = length-take-le c vs (omega arith) in
      let ly : length y ≡ m = length-take-le m (drop c vs) (rw length-drop (omega arith)) in
      let lz : length z ≡ 1 = length-take-le 1 (drop (c + m) vs) (rw length-drop (omega arith)) in
      let i : mix c m n p q t ≡ rest = rows_back n rest (other_items (stride c m) n vs h) in
      rw (take_at x p c lx, drop_at x p c lx, take_at y q m ly, drop_at y q m ly, take_at z t 1 lz, drop_at z t 1 lz, i)
      (ap (λ (u : List A). x ++ (y ++ (z ++ u))) (sym (drop-drop 1 (c + m) vs))
      ∙ ap (λ (u : List A). x ++ (y ++ u)) (take-append-drop 1 (drop (c + m) vs) ∙ sym (drop-drop m c vs))
      ∙ ap (λ (u : List A). x ++ u) (take-append-drop m (drop c vs))
      ∙ take-append-drop c vs)
