-- A piece and the constructor's own test of its ends.
use Rattle.std.specs.Prelude.{ℕ, true, false, ◌≡◌, Some, None}
use Rattle.std.proofs.Math.Path.{refl}
use Rattle.basis.specs.declared.number.Tolerance.{Tolerance}
use Rattle.outline.specs.declared.point.Vertex.{Vertex}
use Rattle.outline.specs.Points.{pos_of, points_agree}
use Rattle.view.specs.Create.{view_of, single_view}
use Rattle.candidate.specs.Candidates.{slice_of, piece_of}

module _ (s : ℕ) (a b : Vertex) (t : Tolerance) where
  -- ends that agree have no view
  pub together : points_agree t (pos_of a) (pos_of b) ≡ true → single_view s a (pos_of b) t ≡ None
  unfolding single_view
  together e = rw e

  -- a piece whose ends were tested apart always gets its view
  pub apart : points_agree t (pos_of a) (pos_of b) ≡ false → single_view s a (pos_of b) t ≡ Some (view_of s 0 a a.bulge (pos_of b))
  unfolding single_view
  apart e = rw e

  -- a piece is what the constructor makes of it
  pub piece-once : piece_of s a b t ≡ slice_of (single_view s a (pos_of b) t) a b
  unfolding piece_of
  piece-once = refl
