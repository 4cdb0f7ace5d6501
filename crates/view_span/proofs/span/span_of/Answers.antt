use Rattle.view_span.specs.SpanLaws.{start-lt}
use Rattle.view_span.proofs.span.span_of.Goals as goal

pub traverse_from-requires : goal.traverse_from-requires
traverse_from-requires c =
    record { fit = c.requires; inside = start-lt _ _ _ _ c.requires.starts c.start_index-i.ensures }
