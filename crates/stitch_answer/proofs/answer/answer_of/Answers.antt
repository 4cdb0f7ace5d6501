use Rattle.stitch_answer.proofs.AnswerLaws.{asking-ready, asking-answered}
use Rattle.stitch_answer.proofs.answer.answer_of.Goals as goal

pub by_groups-requires : goal.by_groups-requires
by_groups-requires c = asking-ready _ _ _ _ _ _ c.requires _ _ c.around.ensures

pub returns : goal.returns
returns c =
    asking-answered _ _ _ _ _ _ c.requires _ _ c.around.ensures _ _ _ c.by_groups.ensures
