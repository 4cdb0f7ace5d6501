use Rattle.prune_write.specs.WriteLaws.{finished-of}
use Rattle.prune_write.proofs.write.finish.Goals as goal

pub returns-clause-finished : goal.returns-clause-finished
returns-clause-finished c =
    finished-of _ _ _ _ _ _ _ _ _ c.requires c.write_twice-twice.ensures.wrote c.need_of.ensures c.clear_rest.ensures.cleared c.pruned_at.ensures
