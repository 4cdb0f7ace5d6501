use Rattle.std.proofs.Common.{rules}
use Rattle.record_values.proofs.Mixing.{placed-none, mixing-codes, mixing-numbers, mixing-date, placed-more, mixing-end}
use Rattle.record_values.proofs.values.mix_slices.Goals as goal

pub loop-k-init : goal.loop-k-init
loop-k-init c = search (rules, placed-none)

pub copy-requires : goal.copy-requires
copy-requires c = search (rules, mixing-codes)

pub copy_bits-requires : goal.copy_bits-requires
copy_bits-requires c = search (rules, mixing-numbers)

pub bounds-slice_edition-k : goal.bounds-slice_edition-k
bounds-slice_edition-k c = search (rules, mixing-date)

pub loop-k-preserved : goal.loop-k-preserved
loop-k-preserved c = placed-more c.loop-k.invariant c.loop-k-test.true c.copy.ensures c.copy_bits.ensures _ c.wide.ensures

pub returns : goal.returns
returns c = search (rules, mixing-end)
