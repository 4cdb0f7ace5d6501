-- Lists of cells make blocks of cells, a block that holds the box holds every hit, and what was found there is the lowest.
use Prim.Native.Nat.{ℕ, zero, suc, ◌+◌, ◌≤◌, ◌<◌}
use native.Mathlib.Omega.{arith}
use Rattle.std.proofs.Math.Decide.{dec_lt}
use Rattle.std.specs.Prelude.{Bool, ◌&&◌, List, ◌⊎◌, ◌≡◌, eqb, ltb, Float}
use Rattle.std.proofs.Math.Bool.{true, false, cond}
use Rattle.std.proofs.Common.{inl, inr, ◌∙◌}
use Rattle.std.proofs.Math.Path.{refl, sym}
use Rattle.std.specs.Float.Ieee.{le}
use borrow.Author.Tests.{lt-ltb, le-ltb, eqb-true, eqb-false, ne_eqb}
use Rattle.basis.specs.Sizes.{most_slices}
use Rattle.select.specs.Select.{no_number}
use Rattle.basis.specs.Choice.{by-test, and_left, and_right}
use Rattle.stitch_cell.specs.Lower.{lesser_of}
use Rattle.stitch_cell.specs.CellLaws.{cell-mono}
use Rattle.stitch_layout.specs.declared.layout.Layout.{Layout}
use Rattle.stitch_layout.specs.declared.layout.Query.{Query}
use Rattle.stitch_run.specs.Run.{free}
use Rattle.stitch_layout.specs.Slices.{x_of, y_of, group_of, list_of, column_of, line_of, home_of, starts_in, meets_of}
use Rattle.stitch_links.specs.Looks.{hit_of, lowest_of, cells_of}
use Rattle.stitch_links.specs.Looks.{Found, Block}
use Rattle.stitch_layout.specs.Ready.{Fit}

module _ (hit : ℕ → Bool) (n : ℕ) where
  pub found_none : (C : ℕ → Type 0) → ((j : ℕ) → C j → ⊥) → Found hit C n no_number
  found_none C e = record { most = omega arith; found = λ l. absurd (omega arith); passed = λ j a b c. absurd (e j c) }

  pub found_of : (C D : ℕ → Type 0) (r : ℕ) → ((j : ℕ) → D j → C j) → Found hit C n r → Found hit D n r
  found_of C D r e t = record { most = t.most; found = t.found; passed = λ j a b d. t.passed j a b (e j d) }

  -- the lesser of two finds, for what either covers
  pub found-both : (C D E : ℕ → Type 0) (a b : ℕ) → ((j : ℕ) → E j → C j ⊎ D j) → Found hit C n a → Found hit D n b → Found hit E n (lesser_of a b)
  unfolding lesser_of
  found-both C D E a b e s t = go (dec_lt b a)
    where
      under : (r : ℕ) → r ≤ a → r ≤ b → (j : ℕ) → j < n → j < r → C j ⊎ D j → hit j ≡ false
      under r p q j u v (inl x) = s.passed j u (omega arith) x
      under r p q j u v (inr x) = t.passed j u (omega arith) x

      go : Dec (b < a) → Found hit E n (cond (ltb b a) b a)
      go (yes h) = rw (lt-ltb b a h) (record { most = t.most; found = t.found; passed = λ j u v x. under b (omega arith) (omega arith) j u v (e j x) })
      go (no h) = rw (le-ltb b a (omega arith)) (record { most = s.most; found = s.found; passed = λ j u v x. under a (omega arith) (omega arith) j u v (e j x) })

-- ---- the plain definition
module _ (hit : ℕ → Bool) where
  pub lowest-none : (n : ℕ) → ((j : ℕ) → j < n → hit j ≡ false) → lowest_of hit n ≡ no_number
  unfolding lowest_of
  lowest-none zero h = refl
  lowest-none (suc n) h = rw (lowest-none n (λ j l. h j (omega arith)), h n (omega arith))

  pub lowest-at : (n r : ℕ) → n ≤ most_slices → r < n → hit r ≡ true → ((j : ℕ) → j < r → hit j ≡ false) → lowest_of hit n ≡ r
  unfolding lowest_of
  lowest-at zero r m l e p = absurd (omega arith)
  lowest-at (suc n) r m l e p = go (dec_lt r n) (λ k. lowest-at n r (omega arith) k e p)
    where
      go : Dec (r < n) → (r < n → lowest_of hit n ≡ r) → cond (eqb (lowest_of hit n) no_number) (cond (hit n) n no_number) (lowest_of hit n) ≡ r
      go (yes k) s = rw (s k, ne_eqb r no_number (λ q. omega arith))
      go (no k) s =
          let z : r ≡ n = omega arith in
          rw (lowest-none n (λ j q. p j (omega arith)), sym z, e)

  pub lowest-found : (n : ℕ) → n ≤ most_slices → Found hit (λ j. Unit {0}) n (lowest_of hit n)
  unfolding lowest_of
  lowest-found zero m = record { most = omega arith; found = λ l. absurd (omega arith); passed = λ j a b c. absurd (omega arith) }
  lowest-found (suc n) m = go (lowest-found n (omega arith))
    where
      go : Found hit (λ j. Unit {0}) n (lowest_of hit n) → Found hit (λ j. Unit {0}) (suc n) (cond (eqb (lowest_of hit n) no_number) (cond (hit n) n no_number) (lowest_of hit n))
      go t =
          by-test (eqb (lowest_of hit n) no_number)
          (λ e. by-test (hit n)
          (λ h. rw (e, h) (record { most = omega arith; found = λ l. (omega arith, h); passed = λ j a b c. t.passed j (omega arith) (omega (arith, eqb-true (lowest_of hit n) no_number e)) tt }))
          (λ h. rw (e, h) (record { most = omega arith; found = λ l. absurd (omega arith); passed = λ j a b c. last j h (λ k. t.passed j k (omega (arith, eqb-true (lowest_of hit n) no_number e)) tt) (dec_lt j n) a })))
          (λ e. rw e
          (record {
            most = t.most;
            found = λ l. (let f = t.found l in (omega (arith, f.0), f.1));
            passed = λ j a b c. t.passed j (omega (arith, (t.found (some e t.most)).0)) b tt;
          }))
        where
          last : (j : ℕ) → hit n ≡ false → (j < n → hit j ≡ false) → Dec (j < n) → j < suc n → hit j ≡ false
          last j h k (yes l) a = k l
          last j h k (no l) a = let z : j ≡ n = omega arith in rw z h

          some : eqb (lowest_of hit n) no_number ≡ false → lowest_of hit n ≤ most_slices → lowest_of hit n < no_number
          some e l = let z = eqb-false (lowest_of hit n) no_number e in omega arith

  pub lowest-is : (C : ℕ → Type 0) (n r : ℕ) → n ≤ most_slices → ((j : ℕ) → j < n → hit j ≡ true → C j) → Found hit C n r → r ≡ lowest_of hit n
  lowest-is C n r m e t = go (dec_lt r no_number)
    where
      before : (j : ℕ) → j < n → j < r → hit j ≡ false
      before j l k = by-test (hit j) (λ h. t.passed j l k (e j l h)) (λ h. h)

      go : Dec (r < no_number) → r ≡ lowest_of hit n
      go (yes k) = let f = t.found k in sym (lowest-at n r m f.0 f.1 (λ j q. before j (let z = f.0 in omega arith) q))
      go (no k) = let z : r ≡ no_number = omega (arith, t.most) in z ∙ sym (lowest-none n (λ j l. before j l (omega arith)))

-- ---- blocks of cells
module _ (points : List Float) (visited : List Bool) (w : Layout) (q : Query) where
  abbrev hit : ℕ → Bool
  hit = hit_of points visited w q

  other-group : (j : ℕ) → eqb (group_of w j) q.group ≡ false → hit j ≡ false
  unfolding meets_of
  other-group j e = rw e (no-two (free visited q.first j) (starts_in points q j))
    where
      no-two : (a b : Bool) → (a && (b && false)) ≡ false
      no-two true true = refl
      no-two true false = refl
      no-two false b = refl

  -- one cell: its list has every slice of it that is of the group
  pub found-cell : (cx cy h r : ℕ) → h ≡ list_of w.lists cx cy q.group → Found hit (λ j. home_of points w j ≡ h) w.count r → Found hit (Block points w cx (cx + 1) cy (cy + 1)) w.count r
  unfolding home_of
  found-cell cx cy h r e t =
      record {
        most = t.most;
        found = t.found;
        passed = λ j a b c. by-test (eqb (group_of w j) q.group) (λ g. t.passed j a b (on_list j c (eqb-true (group_of w j) q.group g))) (λ g. other-group j g);
      }
    where
      on_list : (j : ℕ) → Block points w cx (cx + 1) cy (cy + 1) j → group_of w j ≡ q.group → list_of w.lists (column_of points w j) (line_of points w j) (group_of w j) ≡ h
      on_list j c g =
          let x : column_of points w j ≡ cx = omega (arith, c.left, c.right) in
          let y : line_of points w j ≡ cy = omega (arith, c.bottom, c.top) in
          rw (x, y, g) (sym e)

  -- a block on top of another; a block beside another
  pub found-above : (x0 x1 y0 y a b : ℕ) → Found hit (Block points w x0 x1 y0 y) w.count a → Found hit (Block points w x0 x1 y (y + 1)) w.count b
      → Found hit (Block points w x0 x1 y0 (y + 1)) w.count (lesser_of a b)
  found-above x0 x1 y0 y a b s t = found-both hit w.count (Block points w x0 x1 y0 y) (Block points w x0 x1 y (y + 1)) (Block points w x0 x1 y0 (y + 1)) a b (λ j c. go j c (dec_lt (line_of points w j) y)) s t
    where
      go : (j : ℕ) → Block points w x0 x1 y0 (y + 1) j → Dec (line_of points w j < y) → Block points w x0 x1 y0 y j ⊎ Block points w x0 x1 y (y + 1) j
      go j c (yes l) = inl (record { left = c.left; right = c.right; bottom = c.bottom; top = l })
      go j c (no l) = inr (record { left = c.left; right = c.right; bottom = omega arith; top = c.top })

  pub found-beside : (x0 x y0 y1 a b : ℕ) → Found hit (Block points w x0 x y0 y1) w.count a → Found hit (Block points w x (x + 1) y0 y1) w.count b
      → Found hit (Block points w x0 (x + 1) y0 y1) w.count (lesser_of a b)
  found-beside x0 x y0 y1 a b s t = found-both hit w.count (Block points w x0 x y0 y1) (Block points w x (x + 1) y0 y1) (Block points w x0 (x + 1) y0 y1) a b (λ j c. go j c (dec_lt (column_of points w j) x)) s t
    where
      go : (j : ℕ) → Block points w x0 (x + 1) y0 y1 j → Dec (column_of points w j < x) → Block points w x0 x y0 y1 j ⊎ Block points w x (x + 1) y0 y1 j
      go j c (yes l) = inl (record { left = c.left; right = l; bottom = c.bottom; top = c.top })
      go j c (no l) = inr (record { left = omega arith; right = c.right; bottom = c.bottom; top = c.top })

  -- every hit lies in the cells between those of the box's sides: the cell is monotone
  hit-block : Fit points w → (j : ℕ) → j < w.count → hit j ≡ true
      → Block points w (cells_of w q).x0 ((cells_of w q).x1 + 1) (cells_of w q).y0 ((cells_of w q).y1 + 1) j
  unfolding meets_of
  hit-block f j l e =
      let m = and_right (free visited q.first j) _ e in
      let a = and_left (starts_in points q j) _ m in
      let b = and_left (((le q.left (x_of points j)) && (le (x_of points j) q.right)) && (le q.bottom (y_of points j))) _ a in
      let c = and_left ((le q.left (x_of points j)) && (le (x_of points j) q.right)) _ b in
      record {
        left = cell-mono w.x f.x q.left (x_of points j) (and_left (le q.left (x_of points j)) _ c);
        right = (let z = cell-mono w.x f.x (x_of points j) q.right (and_right (le q.left (x_of points j)) _ c) in omega arith);
        bottom = cell-mono w.y f.y q.bottom (y_of points j) (and_right ((le q.left (x_of points j)) && (le (x_of points j) q.right)) _ b);
        top = (let z = cell-mono w.y f.y (y_of points j) q.top (and_right (((le q.left (x_of points j)) && (le (x_of points j) q.right)) && (le q.bottom (y_of points j))) _ a) in omega arith);
      }

  pub block-lowest : (r : ℕ) → Fit points w → Found hit (Block points w (cells_of w q).x0 ((cells_of w q).x1 + 1) (cells_of w q).y0 ((cells_of w q).y1 + 1)) w.count r → r ≡ lowest_of hit w.count
  block-lowest r f t = lowest-is hit (Block points w (cells_of w q).x0 ((cells_of w q).x1 + 1) (cells_of w q).y0 ((cells_of w q).y1 + 1)) w.count r f.few (hit-block f) t
