use Rattle.std.proofs.Common.{◌≡◌, ◌+◌, slice_get, Some, refl, rules, of_calls}
use native.Mathlib.Omega.{arith}
use Rattle.std.proofs.lemmas.Option.{slice_get_read}
use Rattle.fields.proofs.Copying.{copying-none, copying-more}
use Rattle.fields.proofs.copy.copy_by.Goals as goal

pub loop-j-init : goal.loop-j-init
loop-j-init g c = copying-none _ _ _ _ _ _

pub change-requires : goal.change-requires
change-requires g c =
    let x = c.index-source-from.result in
    let k : slice_get c.args.source.now (c.args.from + c.loop-j.j) ≡ Some x =
    slice_get_read c.args.source.now _ _ x refl (omega (arith, c.requires.places.source)) c.index-source-from.is in
    search (rules, of_calls, c.requires.taken)

pub loop-j-preserved : goal.loop-j-preserved
loop-j-preserved g c = copying-more _ _ c.requires.places c.loop-j.invariant c.loop-j-test.true c.index-source-from.is c.change.ensures
