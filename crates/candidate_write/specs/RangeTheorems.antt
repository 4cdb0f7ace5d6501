-- The numbers of the candidates were all handed in: where those are in range, so are these, and the next entry accepts them.
use Prim.Native.Nat.{ℕ, zero, suc, ◌+◌, ◌-◌, ◌*◌, ◌≤◌, ◌<◌}
use Rattle.std.specs.Prelude.{true, ◌≡◌, ltb, eqb, length, Float, Option, None}
use Rattle.std.proofs.Math.Path.{refl, ap}
use Rattle.std.proofs.Common.{◌∙◌, arith}
use mathlib.Core.List.{List, ◌∷◌, ◌++◌, flat_map}
use Rattle.std.specs.Float.Ieee.{nan}
use borrow.Author.Tests.{ltb-true}
use Rattle.basis.specs.Choice.{by-test, and_left}
use Rattle.basis.specs.All.{all_of, all_append, all-at}
use Rattle.basis.specs.Number.{within, all_within}
use Rattle.basis.specs.declared.number.Tolerance.{Tolerance}
use Rattle.outline.specs.declared.point.Vertex.{Vertex}
use Rattle.outline.specs.Points.{pos_of, points_agree, vertex_numbers, point_numbers}
use Rattle.outline.specs.Outline.{Whole, wrap, vertex_at, outline_at, point_at}
use Rattle.outline.specs.OutlineLaws.{wrap-lt}
use Rattle.view.specs.declared.data.ViewData.{ViewData}
use Rattle.view.specs.declared.create.Walk.{Walk}
use Rattle.view.specs.View.{view_numbers}
use Rattle.view.specs.Create.{view_of, walk_view, near_vertex, bulge_before, create_view}
use Rattle.candidate.specs.declared.at_cut.Candidate.{Candidate}
use Rattle.candidate.specs.Candidates.{Given, segment_at, marked_at, start_part, split_vertex_at, whole_split, same_next, first_cut, traverse_of, slice_of, piece_of, walk_of, walked, walk_at, candidate_at, candidates_to, candidates_of, shape_of, probe_of, cand_shapes, probe_numbers}
use Rattle.candidate.specs.Ready.{Sound}
use Rattle.candidate_write.specs.ItemLaws.{Wide, flat-more, wide-shapes, wide-probes}
use Rattle.candidate.specs.PieceLaws.{together, piece-once}
use Rattle.candidate_write.specs.CandidateTheorems.{walk-reaches, piece-view}

module _ (l : List Float) (all : all_within l ≡ true) where
  -- a vertex that was read
  vertex-in : (i : ℕ) → 3 * i + 2 < length l → all_within (vertex_numbers (vertex_at l i)) ≡ true
  unfolding vertex_at all_of
  vertex-in i h =
      rw (all-at within l (3 * i) nan all (omega arith), all-at within l (3 * i + 1) nan all (omega arith), all-at within l (3 * i + 2) nan all h)

  -- a point that was read
  point-in : (i : ℕ) → i + 1 < length l → all_within (point_numbers (point_at l i)) ≡ true
  unfolding point_at all_of
  point-in i h = rw (all-at within l i nan all (omega arith), all-at within l (i + 1) nan all h)

outline-in : (o : List Float) (vc i : ℕ) → Whole o vc → all_within o ≡ true → all_within (vertex_numbers (outline_at o vc i)) ≡ true
unfolding outline_at
outline-in o vc i w all = vertex-in o all (wrap vc i) (omega (arith, wrap-lt vc i (omega arith)))

bulge-in : (v : Vertex) → all_within (vertex_numbers v) ≡ true → within v.bulge ≡ true
bulge-in v e = all-at within (vertex_numbers v) 2 nan e (omega arith)

pos-in : (v : Vertex) → all_within (vertex_numbers v) ≡ true → all_within (point_numbers (pos_of v)) ≡ true
unfolding all_of
pos-in v e = rw (all-at within (vertex_numbers v) 0 nan e (omega arith), all-at within (vertex_numbers v) 1 nan e (omega arith))

both-in : (xs ys : List Float) → all_within xs ≡ true → all_within ys ≡ true → all_within (xs ++ ys) ≡ true
both-in xs ys e f = all_append within xs ys ∙ rw (e, f)

view_in : (v : ViewData) → all_within (vertex_numbers v.updated_start) ≡ true → within v.updated_end_bulge ≡ true
    → all_within (point_numbers v.end_point) ≡ true → all_within (view_numbers v) ≡ true
view_in v e f h = both-in (vertex_numbers v.updated_start) (v.updated_end_bulge ∷ point_numbers v.end_point) e (unfold all_of in rw f h)

-- a candidate's shape and its two vertices
pub record NumbersIn (c : Option Candidate) : Type 0 where
  pub shape : all_within (shape_of c) ≡ true
  pub probe : all_within (probe_of c) ≡ true

nothing-in : NumbersIn None
unfolding all_of
nothing-in = record { shape = refl; probe = refl }

piece-in : (s : ℕ) (a b : Vertex) (t : Tolerance) → all_within (vertex_numbers a) ≡ true → all_within (vertex_numbers b) ≡ true → NumbersIn (piece_of s a b t)
piece-in s a b t e f =
    by-test (points_agree t (pos_of a) (pos_of b))
    (λ h. rw (piece-once s a b t, together s a b t h) (unfold slice_of in nothing-in))
    (λ h. rw (piece-view s a b t h)
    (record { shape = view_in (view_of s 0 a a.bulge (pos_of b)) e (bulge-in a e) (pos-in b f); probe = both-in (vertex_numbers a) (vertex_numbers b) e f }))

-- the end bulge of a walk that ends on a vertex: the updated start's or one of the outline's
before-in : (o : List Float) (vc : ℕ) (w : Walk) → Whole o vc → all_within o ≡ true → all_within (vertex_numbers w.updated_start) ≡ true
    → within (bulge_before o vc w) ≡ true
unfolding bulge_before
before-in o vc w whole all e =
    by-test (eqb (w.traverse_count - 1) 0) (λ h. rw h (bulge-in w.updated_start e))
    (λ h. rw h (bulge-in (outline_at o vc (w.intersect_index + (vc - 1))) (outline-in o vc _ whole all)))

create-in : (o : List Float) (vc : ℕ) (w : Walk) (t : Tolerance) → Whole o vc → all_within o ≡ true → all_within (vertex_numbers w.updated_start) ≡ true
    → all_within (point_numbers w.end_intersect) ≡ true → within w.split_bulge ≡ true → all_within (view_numbers (create_view o vc w t)) ≡ true
unfolding create_view
create-in o vc w t whole all e f h =
    by-test (near_vertex o vc w.intersect_index w.end_intersect t)
    (λ n. rw n (view_in (walk_view w (w.traverse_count - 1) (bulge_before o vc w)) e (before-in o vc w whole all e) f))
    (λ n. rw n (view_in (walk_view w w.traverse_count w.split_bulge) e h f))

-- all that was handed in is in range
pub record InRange (g : Given) : Type 0 where
  pub outline : all_within g.outline ≡ true
  pub cut : all_within g.cut ≡ true
  pub splits : all_within g.splits ≡ true

module _ (g : Given) (sound : Sound g) (range : InRange g) where
  -- each of the three vertices of a split
  split-in : (q j : ℕ) → q < g.count → j < 3 → all_within (vertex_numbers (vertex_at g.splits (3 * q + j))) ≡ true
  split-in q j h k = vertex-in g.splits range.splits (3 * q + j) (omega (arith, sound.nine))

  -- what a walk is made of: a split, the end's point and split, and vertices of the outline
  walk-in : (p : ℕ) → p < g.count → NumbersIn (walk_at g p)
  unfolding walk_at walked walk_of
  walk-in p here =
      let s = segment_at g.cut_at p in
      let r = walk-reaches g sound p here in
      let i = wrap g.vc (s + traverse_of g.vc g.cut_at g.count s) in
      let q = first_cut g.cut_at g.count i in
      let b : q < g.count = ltb-true q g.count r.there in
      let first = split-in p 2 here (omega arith) in
      record {
        shape =
            create-in g.outline g.vc (walk_of g p) g.tolerance sound.whole range.outline first
            (point-in g.cut range.cut (2 * q) (omega (arith, sound.points)))
            (bulge-in (start_part g.splits q) (vertex-in g.splits range.splits (3 * q) (omega (arith, sound.nine))));
        probe = both-in (vertex_numbers (whole_split g.splits p)) (vertex_numbers (outline_at g.outline g.vc (s + 1))) first (outline-in g.outline g.vc (s + 1) sound.whole range.outline);
      }

  next-below : (p : ℕ) → same_next g.cut_at g.count p ≡ true → p + 1 < g.count
  unfolding same_next
  next-below p e = ltb-true (p + 1) g.count (and_left (ltb (p + 1) g.count) _ e)

  candidate-in : (p : ℕ) → p < g.count → NumbersIn (candidate_at g p)
  unfolding candidate_at
  candidate-in p here =
      by-test (marked_at g.cut_at p) (λ e. rw e nothing-in)
      (λ e. by-test (same_next g.cut_at g.count p)
      (λ f. let n : p + 1 < g.count = next-below p f in
      rw (e, f)
      (piece-in (segment_at g.cut_at p) (start_part g.splits (p + 1)) (split_vertex_at g.splits (p + 1)) g.tolerance
      (vertex-in g.splits range.splits (3 * (p + 1)) (omega (arith, sound.nine)))
      (split-in (p + 1) 1 n (omega arith))))
      (λ f. rw (e, f) (walk-in p here)))

  flat_in : (f : Option Candidate → List Float) → Wide 6 f → ((p : ℕ) → p < g.count → all_within (f (candidate_at g p)) ≡ true)
      → (p : ℕ) → p ≤ g.count → all_within (flat_map f (candidates_to g p)) ≡ true
  unfolding candidates_to flat_map all_of
  flat_in f wide each zero h = refl
  flat_in f wide each (suc p) h =
      ap all_within (flat-more 6 f wide g p)
      ∙ both-in (flat_map f (candidates_to g p)) (f (candidate_at g p)) (flat_in f wide each p (omega arith)) (each p (omega arith))

  -- the candidates' shapes, and the vertices to be tested
  pub shapes-in : all_within (cand_shapes g) ≡ true
  unfolding candidates_of
  shapes-in = flat_in shape_of wide-shapes (λ p h. (candidate-in p h).shape) g.count (omega arith)

  pub probes-in : all_within (probe_numbers g) ≡ true
  unfolding candidates_of
  probes-in = flat_in probe_of wide-probes (λ p h. (candidate-in p h).probe) g.count (omega arith)
