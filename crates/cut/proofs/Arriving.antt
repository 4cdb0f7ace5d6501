-- Laws by which the code of one cut is proved: a callee's answer in place of its definition, and the bounds of a number of arrival.
use Prim.Native.Nat.{ℕ, ◌+◌, ◌-◌, ◌*◌, ◌/◌, ◌%◌, ◌≤◌}
use mathlib.Core.Bool.{false}
use mathlib.Core.Path.{◌≡◌}
use mathlib.Core.List.{List}
use native.Mathlib.Omega.{arith}
use lib.ListN.{get_or}
use lib.Dec.{eqb}
use lib.Ieee.{Float}
use borrow.Author.Tests.{lt-ltb, ne_eqb}
use Rattle.basis.specs.Choice.{cond_yes, cases}
use Rattle.outline.specs.Outline.{point_at, Segment}
use Rattle.basis.specs.declared.number.Tolerance.{Tolerance}
use Rattle.outline.specs.declared.point.Point.{Point}
use Rattle.cut.specs.declared.arrival.Cut.{Cut}
use Rattle.cut.specs.Cuts.{Given, which_of, hit_cut, moved, marked_end, lap_cut, cut_of, Which, Arrival, LapFit}

pub which-yes : (source : ℕ) → source ≡ 2 → Which source 1
unfolding which_of
which-yes source e = record { is = rw e; either = omega arith }

pub which-no : (source : ℕ) → (source ≡ 2 → ⊥) → Which source 0
unfolding which_of
which-no source e = record { is = rw (ne_eqb source 2 e); either = omega arith }

pub hit-of : (ha : List ℕ) (h : List Float) (source i w : ℕ) (p : Point) → Which source w → p ≡ point_at h (2 * i)
    → ◌≡◌ {A = Cut} (record { segment = get_or ha (2 * i + w) 0; mark = false; point = p }) (hit_cut ha h source i)
unfolding hit_cut
hit-of ha h source i w p k e = rw (k.is, e)

module _ (o : List Float) (vc source : ℕ) (la : List ℕ) (l : List Float) (t : Tolerance) where
  pub lap-of : (j end w : ℕ) (p : Point) (s m : ℕ) → Which source w → p ≡ point_at l (6 * j + 4 * end) → s ≡ moved o vc (get_or la (7 * j + 2 * end + w) 0) p t
      → m ≡ marked_end source (get_or la (7 * j + 4) 0) → ◌≡◌ {A = Cut} (record { segment = s; mark = eqb end m; point = p }) (lap_cut o vc source la l t j end)
  unfolding lap_cut
  lap-of j end w p s m d e f k = rw (f, k, d.is, e)

  -- the index read is the overlap's on this outline
  pub lap-inside : (j end w : ℕ) → Which source w → LapFit o vc source la l j end → Segment o vc (get_or la (7 * j + 2 * end + w) 0)
  lap-inside j end w d f = record { whole = f.whole; inside = rw d.is f.inside }

-- without overlaps every arrival is an intersection's
pub hits-alone : (g : Given) (n : ℕ) (r : Cut) → Arrival g n → g.laps ≡ 0 → r ≡ hit_cut g.hit_at g.hit g.source n → r ≡ cut_of g n
unfolding cut_of
hits-alone g n r a z e = cond_yes _ _ _ r (lt-ltb n g.hits (omega (arith, a.arrives))) e

-- past the intersections stands an overlap
pub lap-fit : (g : Given) (n : ℕ) → Arrival g n → g.hits ≤ n → LapFit g.outline g.vc g.source g.lap_at g.lap ((n - g.hits) / 2) ((n - g.hits) % 2)
lap-fit g n a k =
    record {
      whole = a.ready.whole;
      either = omega arith;
      few = omega arith;
      indexed = omega arith;
      pointed = omega arith;
      inside = a.ready.laps_inside ((n - g.hits) / 2) ((n - g.hits) % 2) (omega arith) (omega arith);
    }

pub ruleset parts = (which-yes, which-no, hit-of, lap-of, lap-inside, hits-alone, lap-fit, cases)
