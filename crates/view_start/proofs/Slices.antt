-- Laws by which the views between two points are proved: what a span and a walk over it fit.
use Rattle.std.specs.Prelude.{ℕ, List, Float}
use Rattle.std.proofs.Common.{arith}
use Rattle.outline.specs.Outline.{Near}
use Rattle.view_span.specs.declared.span.Ends.{Ends}
use Rattle.view_span.specs.declared.span.Span.{Span}
use Rattle.view_span.specs.Span.{SpanFit}
use Rattle.view_span.specs.SpanLaws.{span_fits}
use Rattle.view_start.specs.WalkLaws.{walk-fits}

pub near-start : (o : List Float) (vc : ℕ) (e : Ends) (s : Span) → SpanFit o vc e s → Near o vc s.start_index
near-start o vc e s f = record { whole = f.fit.whole; turn = record { twice = omega arith } }

pub ruleset slices = (span_fits, near-start, walk-fits)
