-- The two vertices of a candidate of a straight outline were handed in: where the outline's numbers and the cuts' are readable, so are theirs.
use Rattle.std.specs.Prelude.{◌≡◌, ℕ, ◌+◌, ◌*◌, ◌<◌, true, List, nat_lt, Float}
use Rattle.std.proofs.Common.{sym, ◌∙◌, arith}
use Rattle.std.proofs.Math.Path.{subst}
use Rattle.std.specs.Float.Ieee.{nan}
use borrow.Author.Tests.{ltb-true}
use Rattle.basis.specs.declared.number.Tolerance.{Tolerance}
use Rattle.basis.specs.Choice.{by-test, and_left}
use Rattle.basis.specs.All.{all_of, all-at}
use Rattle.outline.specs.declared.point.Vertex.{Vertex}
use Rattle.outline.specs.Points.{pos_of, points_agree}
use Rattle.outline.specs.Outline.{wrap, vertex_at, outline_at, point_at}
use Rattle.outline.specs.OutlineLaws.{wrap-lt}
use Rattle.cut.specs.declared.arrival.Case.{Case}
use Rattle.candidate.specs.Candidates.{segment_at, marked_at, start_part, split_vertex_at, whole_split, same_next, slice_of, piece_of, walk_of, walked, walk_at, candidate_at}
use Rattle.candidate.specs.Ready.{Sound}
use Rattle.candidate.specs.PieceLaws.{together, apart}
use Rattle.straight_cut.specs.Microdegrees.{readable}
use Rattle.straight_cut.specs.Splits.{cut_vertex, splits_of, straight_given}
use Rattle.straight_cut.specs.SplitsLaws.{start_is, split-is, whole_is, running-next}
use Rattle.straight_cut.specs.Inside.{KnownProbe}

record Known (v : Vertex) : Type 0 where
  at_x : readable v.x ≡ true
  at_y : readable v.y ≡ true

piece-known : (s : ℕ) (a b : Vertex) (t : Tolerance) → Known a → Known b → KnownProbe (piece_of s a b t)
unfolding piece_of
piece-known s a b t k l =
    by-test (points_agree t (pos_of a) (pos_of b))
    (λ e. rw (together s a b t e) (unfold slice_of in tt))
    (λ e. rw (apart s a b t e) (unfold slice_of in (record { a-ok = k.at_x; b-ok = l.at_x }, record { a-ok = k.at_y; b-ok = l.at_y })))

module _ (o : List Float) (cut_at : List ℕ) (cut : List Float) (s : Case) (sound : Sound (straight_given o cut_at cut s)) (own : all_of readable o ≡ true) (cuts : all_of readable cut ≡ true) where
  abbrev count : ℕ
  count = s.hits + 2 * s.laps

  cut-known : (p : ℕ) → p < count → Known (cut_vertex cut p)
  unfolding point_at
  cut-known p h = let k = sound.points in record { at_x = all-at readable cut (2 * p) nan cuts (omega arith); at_y = all-at readable cut (2 * p + 1) nan cuts (omega arith) }

  own-known : (i : ℕ) → Known (outline_at o s.vc i)
  unfolding outline_at vertex_at
  own-known i =
      let w = sound.whole in
      let b : wrap s.vc i < s.vc = wrap-lt s.vc i (omega (arith, w.least)) in
      record { at_x = all-at readable o (3 * wrap s.vc i) nan own (omega (arith, w.triples)); at_y = all-at readable o (3 * wrap s.vc i + 1) nan own (omega (arith, w.triples)) }

  walk-known : (p : ℕ) → p < count → KnownProbe (walk_at (straight_given o cut_at cut s) p)
  unfolding walk_at walked walk_of
  walk-known p h =
      let a : Known (whole_split (splits_of o cut_at cut count) p) = subst Known (sym (whole_is o cut_at cut count p h)) (cut-known p h) in
      let b = own-known (segment_at cut_at p + 1) in
      (record { a-ok = a.at_x; b-ok = b.at_x }, record { a-ok = a.at_y; b-ok = b.at_y })

  next_known : (p : ℕ) → p < count → same_next cut_at count p ≡ true → KnownProbe (piece_of (segment_at cut_at p) (start_part (splits_of o cut_at cut count) (p + 1)) (split_vertex_at (splits_of o cut_at cut count) (p + 1)) s.tolerance)
  next_known p h e =
      let n : p + 1 < count = (unfold same_next in ltb-true (p + 1) count (and_left (nat_lt (p + 1) count) _ e)) in
      let a = start_is o cut_at cut count (p + 1) n ∙ running-next o cut_at cut count p e in
      let b = split-is o cut_at cut count (p + 1) n in
      piece-known (segment_at cut_at p) _ _ s.tolerance (subst Known (sym a) (cut-known p h)) (subst Known (sym b) (cut-known (p + 1) n))

  pub probe-known : (p : ℕ) → p < count → KnownProbe (candidate_at (straight_given o cut_at cut s) p)
  unfolding candidate_at
  probe-known p h =
      by-test (marked_at cut_at p) (λ e. rw e tt)
      (λ e. by-test (same_next cut_at count p) (λ f. rw (e, f) (next_known p h f)) (λ f. rw (e, f) (walk-known p h)))
