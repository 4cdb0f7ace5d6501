use Rattle.fields.specs.Fields.{num_of}
use Rattle.record.specs.Record.{outline1_from, outline2_from, slices_from, codes_from, shapes_from, dates_from}
use Rattle.record_read.proofs.Gathering.{gathered-map, gathered-same, dates-fit}
use Rattle.record_read.proofs.body.fill_lists.Goals as goal

pub gather-requires-3-clause-taken : goal.gather-requires-3-clause-taken
gather-requires-3-clause-taken c = dates-fit c.args.values.now _ _ c.requires.short

pub returns-clause-filled : goal.returns-clause-filled
unfolding outline1_from outline2_from codes_from shapes_from dates_from
returns-clause-filled c =
    let values = c.args.values.now in
    let from = slices_from c.args.p in
    record {
      first = c.copy_numbers.ensures;
      second = c.copy_numbers-2.ensures;
      codes = gathered-same values from c.gather.ensures;
      shapes = gathered-map num_of values from c.gather-2.ensures;
      dates = gathered-same values from c.gather-3.ensures;
    }
