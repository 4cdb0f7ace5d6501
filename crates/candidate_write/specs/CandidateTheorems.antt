-- What holds of the candidates, for every outline and every order of cuts: no walk goes further than once round, and start and offset are what the next entry accepts.
use Prim.Native.Nat.{ℕ, zero, suc, ◌+◌, ◌-◌, ◌*◌, ◌≤◌, ◌<◌, zero-le}
use Rattle.std.specs.Prelude.{Bool, true, false, ◌≡◌, eqb, length, get_or, Float, Option, Some, None}
use Rattle.std.proofs.Common.{true≢false, sym, ◌∙◌, not-suc-le-zero, length-append, lt-ltb, eqb-true, eq-eqb}
use Rattle.std.proofs.Math.Path.{refl, ap}
use mathlib.Core.List.{List, [], ◌∷◌, ◌++◌, flat_map}
use native.Mathlib.Omega.{arith}
use Rattle.basis.specs.Choice.{by-test}
use Rattle.basis.specs.declared.number.Tolerance.{Tolerance}
use Rattle.outline.specs.declared.point.Vertex.{Vertex}
use Rattle.outline.specs.Points.{pos_of, points_agree}
use Rattle.outline.specs.Outline.{wrap}
use Rattle.outline.specs.OutlineLaws.{wrap-less}
use Rattle.view.specs.declared.data.ViewData.{ViewData}
use Rattle.view.specs.declared.create.Walk.{Walk}
use Rattle.view.specs.Create.{view_of, near_vertex, create_view}
use Rattle.candidate.specs.declared.at_cut.Candidate.{Candidate}
use Rattle.candidate.specs.Candidates.{Given, candidate, segment_at, marked_at, same_next, first_from, first_cut, has_cut, traverse_from, traverse_of, slice_of, piece_of, walk_of, walked, walk_at, candidate_at, kept, candidates_to, candidates_of, cand_count, numbers_of, cand_numbers}
use Rattle.candidate.specs.Ready.{Sound}
use Rattle.candidate.specs.SearchLaws.{segment-first, traverse-hit, traverse-miss, not_yet, first-here, first-later}
use Rattle.candidate.specs.PieceLaws.{together, apart, piece-once}
use Rattle.candidate_write.specs.ItemLaws.{kept-few}

-- ---- the search

-- a traverse count from 1 to vc that leads to a segment that passes
pub record Reaches (has : ℕ → Bool) (vc s r : ℕ) : Type 0 where
  pub least : 1 ≤ r
  pub most : r ≤ vc
  pub there : has (wrap vc (s + r)) ≡ true

module _ (has : ℕ → Bool) (vc s : ℕ) (inside : s < vc) (begins : has s ≡ true) where
  reach-from : (left k : ℕ) → vc ≤ left + k → 1 ≤ k → k ≤ vc → Reaches has vc s (traverse_from left has vc s k)
  unfolding traverse_from
  reach-from zero k f o h =
      let z : k ≡ vc = omega arith in
      let q : wrap vc (s + k) ≡ s = ap (λ (j : ℕ). wrap vc (s + j)) z ∙ wrap-less vc (s + vc) (omega arith) (omega arith) ∙ omega arith in
      record { least = o; most = h; there = ap has q ∙ begins }
  reach-from (suc left) k f o h =
      by-test (has (wrap vc (s + k)))
      (λ e. rw (traverse-hit has vc s left k e) (record { least = o; most = h; there = e }))
      (λ e. let l : k < vc = not_yet has vc s k (wrap vc (s + k)) inside h refl begins e in
      rw (traverse-miss has vc s left k e) (reach-from left (k + 1) (omega arith) (omega arith) (omega arith)))

-- a walk that begins on a segment with a cut has a traverse count from 1 to vc, and ends on a segment with a cut
pub walk-reaches : (g : Given) → Sound g → (p : ℕ) → p < g.count
    → Reaches (has_cut g.cut_at g.count) g.vc (segment_at g.cut_at p) (traverse_of g.vc g.cut_at g.count (segment_at g.cut_at p))
unfolding traverse_of
walk-reaches g sound p h =
    let b : first_cut g.cut_at g.count (segment_at g.cut_at p) < g.count = omega (arith, segment-first g.cut_at g.count p h) in
    reach-from (has_cut g.cut_at g.count) g.vc (segment_at g.cut_at p) (sound.inside p h) (lt-ltb _ _ b) (g.vc - 1) 1 (omega arith) (omega arith) (omega (arith, sound.whole.least))

-- ---- a piece

-- a piece whose ends were tested apart always gets its view
pub piece-view : (s : ℕ) (a b : Vertex) (t : Tolerance) → points_agree t (pos_of a) (pos_of b) ≡ false
    → piece_of s a b t ≡ candidate (view_of s 0 a a.bulge (pos_of b)) a b
unfolding slice_of
piece-view s a b t e = piece-once s a b t ∙ rw (apart s a b t e)

-- ---- how many: at most one for each cut

length_more : (g : Given) (p : ℕ) → length (candidates_to g (suc p)) ≡ length (candidates_to g p) + length (kept (candidate_at g p))
unfolding candidates_to
length_more g p = length-append (candidates_to g p) (kept (candidate_at g p))

pub count_most : (g : Given) → cand_count g ≤ g.count
unfolding candidates_of candidates_to
count_most g = go g.count
  where
    go : (p : ℕ) → length (candidates_to g p) ≤ p
    go zero = zero-le
    go (suc p) = omega (arith, length_more g p, go p, kept-few (candidate_at g p))

-- ---- start and offset

-- start below vc and offset at most vc
pub record Fitting (vc : ℕ) (v : ViewData) : Type 0 where
  pub starts : v.start_index < vc
  pub reaches : v.end_index_offset ≤ vc

-- so is every candidate of the list, and the list holds nothing else
abbrev pub EachFits : ℕ → List (Option Candidate) → Type 0
EachFits vc [] = Unit {0}
EachFits vc (None ∷ cs) = ⊥
EachFits vc (Some c ∷ cs) = Fitting vc c.view × EachFits vc cs

fits-append : (vc : ℕ) (xs ys : List (Option Candidate)) → EachFits vc xs → EachFits vc ys → EachFits vc (xs ++ ys)
fits-append vc [] ys e f = f
fits-append vc (None ∷ xs) ys e f = e
fits-append vc (Some c ∷ xs) ys e f = (e.0, fits-append vc xs ys e.1 f)

-- `create` with a traverse count of at most vc
create-fits : (o : List Float) (vc : ℕ) (w : Walk) (t : Tolerance) → w.start_index < vc → w.traverse_count ≤ vc → Fitting vc (create_view o vc w t)
unfolding create_view
create-fits o vc w t h k =
    by-test (near_vertex o vc w.intersect_index w.end_intersect t)
    (λ e. rw e (record { starts = h; reaches = omega arith }))
    (λ e. rw e (record { starts = h; reaches = k }))

piece-fits : (vc s : ℕ) (a b : Vertex) (t : Tolerance) → s < vc → EachFits vc (kept (piece_of s a b t))
unfolding piece_of
piece-fits vc s a b t h =
    by-test (points_agree t (pos_of a) (pos_of b))
    (λ e. rw (together s a b t e) (unfold slice_of in tt))
    (λ e. rw (apart s a b t e) (unfold slice_of in (record { starts = h; reaches = zero-le }, tt)))

module _ (g : Given) (sound : Sound g) (p : ℕ) (here : p < g.count) where
  walk-fits : EachFits g.vc (kept (walk_at g p))
  unfolding walk_at walked
  walk-fits = (create-fits g.outline g.vc (walk_of g p) g.tolerance (unfold walk_of in sound.inside p here) (unfold walk_of in (walk-reaches g sound p here).most), tt)

  candidate-fits : EachFits g.vc (kept (candidate_at g p))
  unfolding candidate_at
  candidate-fits =
      by-test (marked_at g.cut_at p) (λ e. rw e tt)
      (λ e. by-test (same_next g.cut_at g.count p)
      (λ f. rw (e, f) (piece-fits g.vc (segment_at g.cut_at p) _ _ g.tolerance (sound.inside p here)))
      (λ f. rw (e, f) walk-fits))

-- every candidate starts on a segment of the outline and reaches at most once around
pub candidates-fit : (g : Given) → Sound g → EachFits g.vc (candidates_of g)
unfolding candidates_of candidates_to
candidates-fit g sound = go g.count (omega arith)
  where
    go : (p : ℕ) → p ≤ g.count → EachFits g.vc (candidates_to g p)
    go zero h = tt
    go (suc p) h = fits-append g.vc (candidates_to g p) (kept (candidate_at g p)) (go p (omega arith)) (candidate-fits g sound p (omega arith))

-- the same of the numbers that go out, as the next entry looks at them
numbers_fit : (vc : ℕ) (cs : List (Option Candidate)) → EachFits vc cs → (k : ℕ) → k < length cs
    → (get_or (flat_map numbers_of cs) (2 * k) 0 < vc) × (get_or (flat_map numbers_of cs) (2 * k + 1) 0 ≤ vc)
unfolding flat_map
numbers_fit vc [] e k h = absurd (not-suc-le-zero h)
numbers_fit vc (None ∷ cs) e k h = absurd e
numbers_fit vc (Some c ∷ cs) e zero h = (e.0.starts, e.0.reaches)
numbers_fit vc (Some c ∷ cs) e (suc k) h =
    let m : 2 * suc k ≡ suc (suc (2 * k)) = omega arith in
    let n : 2 * suc k + 1 ≡ suc (suc (2 * k + 1)) = omega arith in
    let q = numbers_fit vc cs e.1 k (omega arith) in
    (rw m q.0, rw n q.1)

pub starts-below : (g : Given) → Sound g → (k : ℕ) → k < cand_count g → get_or (cand_numbers g) (2 * k) 0 < g.vc
starts-below g sound k h = (numbers_fit g.vc (candidates_of g) (candidates-fit g sound) k h).0

pub offsets-most : (g : Given) → Sound g → (k : ℕ) → k < cand_count g → get_or (cand_numbers g) (2 * k + 1) 0 ≤ g.vc
offsets-most g sound k h = (numbers_fit g.vc (candidates_of g) (candidates-fit g sound) k h).1

-- ---- the order of places is that of segments

-- cuts go by segment, so a cut whose next is on another segment is its segment's last: the walk begins there
pub last-of-segment : (g : Given) → Sound g → (p : ℕ) → same_next g.cut_at g.count p ≡ false
    → (q : ℕ) → p < q → q < g.count → segment_at g.cut_at q ≡ segment_at g.cut_at p → ⊥
unfolding same_next
last-of-segment g a p e q h k same =
    let n : p + 1 < g.count = omega arith in
    let x : segment_at g.cut_at (p + 1) ≡ segment_at g.cut_at p =
    omega (arith, a.ascend p (p + 1) (omega arith) n, a.ascend (p + 1) q (omega arith) k) in
    true≢false (sym (rw (lt-ltb (p + 1) g.count n, eq-eqb (segment_at g.cut_at (p + 1)) (segment_at g.cut_at p) x)) ∙ e)

first-none : (cut_at : List ℕ) (i p : ℕ) → first_from 0 cut_at i p < p + 0 → ⊥
unfolding first_from
first-none cut_at i p h = omega arith

first_on : (left : ℕ) (cut_at : List ℕ) (i p : ℕ) → first_from left cut_at i p < p + left → segment_at cut_at (first_from left cut_at i p) ≡ i
first_on zero cut_at i p h = absurd (first-none cut_at i p h)
first_on (suc left) cut_at i p h =
    by-test (eqb (segment_at cut_at p) i)
    (λ e. rw (first-here left i p cut_at e) (eqb-true _ _ e))
    (λ e. let later = first-later left i p cut_at e in
    rw later (first_on left cut_at i (p + 1) (omega (arith, later))))

-- a segment's first cut is on it
pub first-cut-on : (cut_at : List ℕ) (count i : ℕ) → first_cut cut_at count i < count → segment_at cut_at (first_cut cut_at count i) ≡ i
unfolding first_cut
first-cut-on cut_at count i h = first_on count cut_at i 0 (omega arith)

-- and no earlier cut is
pub first-cut-first : (cut_at : List ℕ) (count i q : ℕ) → q < count → q < first_cut cut_at count i → segment_at cut_at q ≡ i → ⊥
first-cut-first cut_at count i q h k e = omega (arith, rw e at (segment-first cut_at count q h))
