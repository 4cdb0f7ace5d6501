use Rattle.candidate_write.specs.Lent.{same_on}
use Rattle.candidate_write.proofs.Writing.{rest-fit, written_of}
use Rattle.candidate_write.proofs.write.write_candidates.Goals as goal

pub clear_rest-requires : goal.clear_rest-requires
clear_rest-requires c = rest-fit _ _ _ _ _ c.count.ensures c.requires.ready c.write_items-m.ensures.written

pub returns : goal.returns
returns c =
    record {
      same = same_on _ _ _ c.write_items-m.ensures.same c.clear_rest.ensures.same;
      written = written_of _ _ _ _ _ _ c.count.ensures c.write_items-m.ensures.written c.clear_rest.ensures.written;
    }
