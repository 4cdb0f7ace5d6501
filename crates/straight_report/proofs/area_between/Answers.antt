use Rattle.straight_report.specs.ReportLaws.{cut-outline}
use Rattle.straight_report.proofs.area_between.Goals as goal

pub area_of-requires : goal.area_of-requires
area_of-requires c = cut-outline c.requires
