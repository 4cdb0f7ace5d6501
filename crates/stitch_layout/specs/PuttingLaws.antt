-- What the loop keeps that puts slices on, and what each function below asks of it.
use Rattle.std.specs.Prelude.{ℕ, suc, ◌+◌, ◌-◌, ◌*◌, ◌/◌, ◌%◌, ◌≤◌, ◌<◌, List, ◌≡◌, refl, length, get_or, set, Float}
use Rattle.std.proofs.Common.{arith, subst, length-set}
use Rattle.std.proofs.lemmas.Nat.{and_le_r}
use Rattle.stitch_layout.specs.declared.layout.Layout.{Layout}
use Rattle.stitch_layout.specs.Slices.{list_of, home_of, group_of, column_of, line_of, meets_of, Alike}
use Rattle.stitch_layout.specs.Ready.{Masked, There, Both, Home, Fit, Empty, Before, Passed}
use Rattle.stitch_layout.specs.Links.{Next, Run, Linked, Linking, ever_free}
use Rattle.stitch_layout.specs.LinkingLaws.{linking-none, linking-more, linking-end, run_alone, run_more}

pub list-under : (lists cx cy g : ℕ) → Masked lists → list_of lists cx cy g < lists
unfolding list_of
list-under lists cx cy g m = let s = m.some in omega (arith, and_le_r ((cx % 4294967296 * 1327217885 + cy % 4294967296 * 1737350767 + g % 4 * 699050000) / 1048576) (lists - 1))

module _ (points : List Float) (w : Layout) where
  pub home-under : (j : ℕ) → Masked w.lists → home_of points w j < w.lists
  unfolding home_of
  home-under j m = list-under w.lists (column_of points w j) (line_of points w j) (group_of w j) m

  pub there : (j : ℕ) → Fit points w → j < w.count → There points j
  there j f l = record { inside = omega (arith, f.size) }

  pub home-there : (j : ℕ) → Fit points w → j < w.count → Home points w j
  home-there j f l =
      record { there = there j f l; lists = f.lists; x = f.x; y = f.y }

  -- ---- slices are put on
  pub record Putting (link₀ link : List ℕ) (i : ℕ) : Type 0 where
    pub fit : Fit points w
    pub left : i ≤ w.count
    pub linking : Linking (home_of points w) (meets_of points w) w.lists w.count i link
    pub same : length link ≡ length link₀

  pub putting-none : (link₀ : List ℕ) → Empty points w link₀ → Putting link₀ link₀ w.count
  putting-none link₀ e =
      record { fit = e.fit; left = omega arith; linking = linking-none (home_of points w) (meets_of points w) w.lists w.count link₀ e.size e.none; same = refl }

  pub putting-inside : (link₀ link : List ℕ) (i j h : ℕ) → Putting link₀ link i → h ≡ home_of points w j → h < length link
  putting-inside link₀ link i j h t e = omega (arith, t.linking.size, home-under j t.fit.lists)

  -- what stands at the head of slice i - 1's list, for its run
  pub putting-before : (link₀ link : List ℕ) (i h : ℕ) → Putting link₀ link i → 0 < i → h ≡ home_of points w (i - 1) → Before points w link (i - 1) (get_or link h 0)
  putting-before link₀ link i h t p e =
      let z : i ≡ suc (i - 1) = omega arith in
      let o = t.linking.heads h (rw e (home-under (i - 1) t.fit.lists)) in
      record {
        runs = record { fit = t.fit; size = t.linking.size; run = λ k a b. t.linking.runs k (omega arith) b };
        here = omega (arith, t.left);
        first = subst (λ (k : ℕ). Next ever_free (home_of points w) w.lists w.count (home_of points w (i - 1)) k (get_or link h 0)) z (subst (λ (k : ℕ). Next ever_free (home_of points w) w.lists w.count k i (get_or link h 0)) e o);
      }

  pub putting-more : (link₀ link : List ℕ) (i h last : ℕ) → Putting link₀ link i → 0 < i → h ≡ home_of points w (i - 1) → Run (home_of points w) (meets_of points w) w.lists w.count (i - 1) last
      → Putting link₀ (set (set (set link (w.lists + (i - 1)) (get_or link h 0)) h (w.lists + (i - 1))) (w.lists + (i - 1) + w.count) last) (i - 1)
  putting-more link₀ link i h last t p e r =
      record {
        fit = t.fit;
        left = omega (arith, t.left);
        linking = linking-more (home_of points w) (meets_of points w) w.lists w.count link i h last p t.left t.linking e (rw e (home-under (i - 1) t.fit.lists)) r;
        same = simp length-set t.same;
      }

  pub putting-end : (link₀ link : List ℕ) (i : ℕ) → Putting link₀ link i → i ≤ 0 → Linked ever_free (home_of points w) (meets_of points w) w.lists w.count link
  putting-end link₀ link i t p =
      let z : i ≡ 0 = omega arith in
      let l = t.linking in
      linking-end (home_of points w) (meets_of points w) w.lists w.count link (rw z at l)

  -- ---- the run of a slice that is put on
  module _ (link : List ℕ) (i next : ℕ) (t : Before points w link i next) where
    pub before-both : next < w.lists + w.count → Both points (next - w.lists) i
    before-both l = record { one = there (next - w.lists) t.runs.fit (omega (arith, t.first.higher)); other = there i t.runs.fit t.here }

    pub before-alone : (r : ℕ) → r ≡ w.lists + i → Run (home_of points w) (meets_of points w) w.lists w.count i r
    before-alone r e = rw e (run_alone (home_of points w) (meets_of points w) w.lists w.count i t.here)

    pub before_more : next < w.lists + w.count → Alike points w (next - w.lists) i → Run (home_of points w) (meets_of points w) w.lists w.count i (get_or link (next + w.count) 0)
    before_more l a =
        let z : w.lists + (next - w.lists) ≡ next = omega (arith, t.first.higher) in
        let r = t.runs.run (next - w.lists) (omega (arith, t.first.higher)) (omega (arith, t.first.higher)) in
        run_more (home_of points w) (meets_of points w) w.lists w.count i next (get_or link (next + w.count) 0) t.first l a (rw z at r)

  -- ---- the run of a slice that is passed
  module _ (link : List ℕ) (seen j : ℕ) (t : Passed points w link seen j) where
    pub passed-both : Both points seen j
    passed-both = record { one = there seen t.runs.fit t.before; other = there j t.runs.fit t.here }

    pub passed-alone : Run (home_of points w) (meets_of points w) w.lists w.count j (w.lists + j)
    passed-alone = run_alone (home_of points w) (meets_of points w) w.lists w.count j t.here

    pub passed-run : Run (home_of points w) (meets_of points w) w.lists w.count j (get_or link (w.lists + j + w.count) 0)
    passed-run = t.runs.run j (omega arith) t.here
