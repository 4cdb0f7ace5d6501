-- Laws of straight splits: how long they are, what stands where, and that a walk by them is that of the candidates.
use Rattle.std.specs.Prelude.{◌≡◌, ℕ, zero, suc, ◌+◌, ◌-◌, ◌*◌, ◌<◌, ◌≤◌, Bool, true, ◌&&◌, List, length, get_or, ◌==◌, nat_lt, slice_index_or, Float, Option}
use Rattle.std.proofs.Math.Path.{refl}
use Rattle.std.proofs.Common.{sym, ap, ◌∙◌, mul-suc, mul-le-mul_left, not-suc-le-zero, get_or-append-add}
use native.Mathlib.Omega.{arith}
use Rattle.std.proofs.Math.ListN.{get_or-append}
use Rattle.std.specs.Float.Ieee.{nan}
use borrow.Author.Tests.{lt-ltb, ltb-true, ltb-false, eqb-true, eq-eqb}
use Rattle.basis.specs.Choice.{by-test, and_left, and_right}
use Rattle.basis.specs.Number.{+0}
use Rattle.basis.specs.Items.{first_items}
use Rattle.basis.specs.ItemLaws.{items-length}
use Rattle.outline.specs.declared.point.Point.{Point}
use Rattle.outline.specs.declared.point.Vertex.{Vertex}
use Rattle.outline.specs.Points.{at_point}
use Rattle.outline.specs.Outline.{vertex_at, point_at}
use Rattle.view.specs.declared.create.Walk.{Walk}
use Rattle.cut.specs.declared.arrival.Case.{Case}
use Rattle.candidate.specs.declared.next.Next.{Next}
use Rattle.candidate.specs.declared.at_cut.Candidate.{Candidate}
use Rattle.candidate.specs.Candidates.{segment_at, start_part, split_vertex_at, whole_split, same_next, piece_of, walked, walk_at}
use Rattle.candidate.specs.Steps.{Place, LastPlace, NextCut, walk_by, WalkReady}
use Rattle.candidate.specs.PlaceLaws.{walk-ready, walk-of, piece-of}
use Rattle.straight_cut.specs.Splits.{running_at, cut_vertex, split_at, splits_of, straight_walk, straight_given, CutThere, WalkThere}

-- element j of item k
pub items_at : {A : Type 0} (f : ℕ → List A) (w : ℕ) → ((n : ℕ) → length (f n) ≡ w) → (d : A) (n k j : ℕ) → k < n → j < w → slice_index_or (first_items f n) (w * k + j) d ≡ slice_index_or (f k) j d
unfolding first_items
items_at f w wide d zero k j h b = absurd (not-suc-le-zero h)
items_at f w wide d (suc n) k j h b =
    let long = items-length f w wide n in
    by-test (nat_lt k n)
    (λ t. let l : k < n = ltb-true k n t in
    let m : w * suc k ≤ w * n = mul-le-mul_left w l in
    let s = mul-suc w k in
    get_or-append (first_items f n) (f n) d (w * k + j) (omega arith) ∙ items_at f w wide d n k j l b)
    (λ t. let c : k ≡ n = omega (arith, ltb-false k n t) in
    let e : w * k + j ≡ length (first_items f n) + j = ap (λ (i : ℕ). w * i + j) c ∙ ap (λ (i : ℕ). i + j) (sym long) in
    rw e (get_or-append-add (first_items f n) (f n) j d) ∙ ap (λ (i : ℕ). get_or (f i) j d) (sym c))

module _ (o : List Float) (cut_at : List ℕ) (cut : List Float) where
  wide : (n : ℕ) → length (split_at o cut_at cut n) ≡ 9
  unfolding split_at
  wide n = refl

  pub splits-length : (count : ℕ) → length (splits_of o cut_at cut count) ≡ 9 * count
  unfolding splits_of
  splits-length count = items-length (split_at o cut_at cut) 9 wide count

  -- the start part of every split has bulge +0
  running-flat : (p : ℕ) → (running_at o cut_at cut p).bulge ≡ +0
  unfolding running_at
  running-flat p = by-test (nat_lt 0 p && segment_at cut_at (p - 1) == segment_at cut_at p) (λ e. rw e) (λ e. rw e)

  -- behind a cut of the same segment it is that cut
  pub running-next : (count p : ℕ) → same_next cut_at count p ≡ true → running_at o cut_at cut (p + 1) ≡ cut_vertex cut p
  unfolding running_at same_next
  running-next count p e =
      let q : p + 1 - 1 ≡ p = omega arith in
      let s : segment_at cut_at (p + 1) ≡ segment_at cut_at p = eqb-true _ _ (and_right (nat_lt (p + 1) count) _ e) in
      rw (lt-ltb 0 (p + 1) (omega arith), q, eq-eqb (segment_at cut_at p) (segment_at cut_at (p + 1)) (sym s))

  module _ (count p : ℕ) (h : p < count) where
    number : (j : ℕ) → j < 9 → slice_index_or (splits_of o cut_at cut count) (9 * p + j) nan ≡ slice_index_or (split_at o cut_at cut p) j nan
    unfolding splits_of
    number j b = items_at (split_at o cut_at cut) 9 wide nan count p j h b

    part : (i j : ℕ) (v : Vertex) → 3 * i ≡ 9 * p + j → j + 2 < 9 → slice_index_or (split_at o cut_at cut p) j nan ≡ v.x → slice_index_or (split_at o cut_at cut p) (j + 1) nan ≡ v.y
        → slice_index_or (split_at o cut_at cut p) (j + 2) nan ≡ v.bulge → vertex_at (splits_of o cut_at cut count) i ≡ v
    unfolding vertex_at
    part i j v e b x y z =
        let l = splits_of o cut_at cut count in
        let f : 3 * i + 1 ≡ 9 * p + (j + 1) = omega arith in
        let g : 3 * i + 2 ≡ 9 * p + (j + 2) = omega arith in
        (λ t. record {
          x = (ap (λ (n : ℕ). get_or l n nan) e ∙ number j (omega arith) ∙ x) t;
          y = (ap (λ (n : ℕ). get_or l n nan) f ∙ number (j + 1) (omega arith) ∙ y) t;
          bulge = (ap (λ (n : ℕ). get_or l n nan) g ∙ number (j + 2) (omega arith) ∙ z) t;
        })

    pub start_is : start_part (splits_of o cut_at cut count) p ≡ running_at o cut_at cut p
    unfolding split_at
    start_is = part (3 * p) 0 (running_at o cut_at cut p) (omega arith) (omega arith) refl refl refl

    pub split-is : split_vertex_at (splits_of o cut_at cut count) p ≡ cut_vertex cut p
    unfolding split_at
    split-is = part (3 * p + 1) 3 (cut_vertex cut p) (omega arith) (omega arith) refl refl refl

    pub whole_is : whole_split (splits_of o cut_at cut count) p ≡ cut_vertex cut p
    unfolding split_at
    whole_is = part (3 * p + 2) 6 (cut_vertex cut p) (omega arith) (omega arith) refl refl refl

  -- the walk by straight splits
  pub walk_is : (count p : ℕ) (n : Next) (w : Walk) → p < count → n.cut < count → w ≡ straight_walk cut (segment_at cut_at p) p n → w ≡ walk_by cut (splits_of o cut_at cut count) (segment_at cut_at p) p n
  walk_is count p n w h k e =
      let b : (start_part (splits_of o cut_at cut count) n.cut).bulge ≡ +0 = ap (λ (v : Vertex). v.bulge) (start_is count n.cut k) ∙ running-flat n.cut in
      e ∙ sym (rw (whole_is count p h, b))

-- ---- what the code makes of a cut
pub cut_is : (cut : List Float) (p : ℕ) (q : Point) (v : Vertex) → q ≡ point_at cut (2 * p) → v ≡ record { x = q.x; y = q.y; bulge = +0 } → v ≡ cut_vertex cut p
cut_is cut p q v e f = f ∙ ap (λ (u : Point). at_point u +0) e

pub walk-made : (cut : List Float) (segment p : ℕ) (n : Next) (end : Point) (start : Vertex) → start ≡ cut_vertex cut p → end ≡ point_at cut (2 * n.cut)
    → ◌≡◌ {A = Walk}
    (record {
      start_index = segment;
      end_intersect = end;
      intersect_index = n.index;
      updated_start = start;
      traverse_count = n.traverse;
      split_bulge = +0;
    })
    (straight_walk cut segment p n)
walk-made cut segment p n end start e f = rw (e, f)

module _ (o : List Float) (cut_at : List ℕ) (cut : List Float) (s : Case) (p : ℕ) where
  abbrev count : ℕ
  count = s.hits + 2 * s.laps

  abbrev splits : List Float
  splits = splits_of o cut_at cut count

  -- the walk by straight splits is that of the candidates
  module _ (here : LastPlace (straight_given o cut_at cut s) p) (n : Next) (f : NextCut s.vc cut_at count p n) where
    pub walk-there : WalkThere cut p n
    walk-there =
        let k = here.place.sound in
        let h = here.place.here in
        let b = f.below in
        record { from = record { few = omega (arith, k.few); point = omega (arith, k.points) }; to = record { few = omega (arith, k.few); point = omega (arith, k.points) } }

    module _ (w : Walk) (e : w ≡ straight_walk cut (segment_at cut_at p) p n) where
      is : w ≡ walk_by cut splits (segment_at cut_at p) p n
      is = walk_is o cut_at cut count p n w here.place.here f.below e

      pub straight-ready : WalkReady o s.vc w
      straight-ready = walk-ready o cut_at cut splits s p here n f w is

      pub straight-walk : (r : Option Candidate) → r ≡ walked o s.vc w s.tolerance → r ≡ walk_at (straight_given o cut_at cut s) p
      straight-walk r q = walk-of o cut_at cut splits s p here n f w is r q

  -- the piece to the next cut too
  module _ (here : Place (straight_given o cut_at cut s) p) (x : Bool) (is : x ≡ same_next cut_at count p) (yes : x ≡ true) where
    next-there : p + 1 < count
    unfolding same_next
    next-there = ltb-true (p + 1) count (and_left (nat_lt (p + 1) count) _ (sym is ∙ yes))

    pub next-cut-there : CutThere cut (p + 1)
    next-cut-there = let k = here.sound in let h = next-there in record { few = omega (arith, k.few); point = omega (arith, k.points) }

    pub straight-piece : (a b : Vertex) (r : Option Candidate) → a ≡ cut_vertex cut p → b ≡ cut_vertex cut (p + 1) → r ≡ piece_of (segment_at cut_at p) a b s.tolerance
        → r ≡ piece_of (segment_at cut_at p) (start_part splits (p + 1)) (split_vertex_at splits (p + 1)) s.tolerance
    straight-piece a b r e f q =
        let a' = start_is o cut_at cut count (p + 1) next-there ∙ running-next o cut_at cut count p (sym is ∙ yes) in
        let b' = split-is o cut_at cut count (p + 1) next-there in
        piece-of (segment_at cut_at p) a b _ _ s.tolerance r q (e ∙ sym a') (f ∙ sym b')

pub ruleset walks = (walk-made, walk-there, straight-ready, straight-walk)

pub ruleset pieces = (next-cut-there, straight-piece)
