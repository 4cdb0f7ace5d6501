-- Laws of what stands on the span.
use Rattle.std.specs.Prelude.{ℕ, ◌≡◌, List, Float}
use Rattle.std.proofs.Common.{sym, subst, arith}
use Rattle.outline.specs.declared.point.Point.{Point}
use Rattle.outline.specs.Outline.{Segment}
use Rattle.view.specs.declared.create.Walk.{Walk}
use Rattle.view.specs.Create.{WalkFit}
use Rattle.view_span.specs.declared.span.Ends.{Ends}
use Rattle.view_span.specs.declared.span.Span.{Span}
use Rattle.view_span.specs.Span.{EndsFit, SpanFit}
use Rattle.view_start.specs.declared.slice_points.Splits.{Splits}
use Rattle.view_start.specs.SlicePoints.{walk_over}
use Rattle.view_start.specs.NewStart.{round_ends, last_ends}

-- a walk over a span that leaves its segment
pub walk-fits : (o : List Float) (vc : ℕ) (e : Ends) (s : Span) (p : Splits) (w : Walk) → SpanFit o vc e s → (s.traverse_count ≡ 0 → ⊥) → w ≡ walk_over o vc e s p → WalkFit o vc w
unfolding walk_over
walk-fits o vc e s p w f n q = subst (WalkFit o vc) (sym q) (record { whole = f.fit.whole; inside = f.fit.ends; walks = omega (arith, n) })

-- the points of a new start
module _ (o : List Float) (vc i : ℕ) (p : Point) (e : Ends) (g : Segment o vc i) where
  pub round-ends : e ≡ round_ends i p → EndsFit o vc e
  round-ends q = subst (EndsFit o vc) (sym q) (record { whole = g.whole; starts = g.inside; ends = g.inside })

  pub last-ends : e ≡ last_ends o vc i p → EndsFit o vc e
  last-ends q = subst (EndsFit o vc) (sym q) (record { whole = g.whole; starts = g.inside; ends = omega arith })
