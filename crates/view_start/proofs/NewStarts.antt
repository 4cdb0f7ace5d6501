-- Laws by which the views from a new start are proved: what the span and the walk from it fit.
use Rattle.std.specs.Prelude.{ℕ, ◌<◌, ◌≡◌, List, Float}
use Rattle.basis.specs.declared.number.Tolerance.{Tolerance}
use Rattle.outline.specs.declared.point.Point.{Point}
use Rattle.outline.specs.Outline.{Segment}
use Rattle.view.specs.declared.create.Walk.{Walk}
use Rattle.view.specs.Create.{WalkFit}
use Rattle.view_span.specs.declared.span.Ends.{Ends}
use Rattle.view_span.specs.declared.span.Span.{Span}
use Rattle.view_span.specs.Span.{span_of}
use Rattle.view_span.specs.SpanLaws.{span_fits}
use Rattle.view_start.specs.WalkLaws.{round-ends, last-ends}
use Rattle.view_start.specs.NewStart.{round_ends}

pub round-inside : (o : List Float) (vc i : ℕ) (p : Point) (e : Ends) (t : Tolerance) (m : Span) → Segment o vc i → e ≡ round_ends i p → m ≡ span_of o vc e t → m.start_index < vc
round-inside o vc i p e t m g f q = (span_fits o vc e t m (round-ends o vc i p e g f) q).starts

pub round-fits : (o : List Float) (vc i : ℕ) (w : Walk) → Segment o vc i → w.intersect_index < vc → 0 < w.traverse_count → WalkFit o vc w
round-fits o vc i w g h k = record { whole = g.whole; inside = h; walks = k }

pub ruleset news = (round-ends, last-ends, round-inside, round-fits)
