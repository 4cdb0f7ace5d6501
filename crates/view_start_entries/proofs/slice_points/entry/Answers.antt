use Rattle.view_start_entries.specs.SliceEntry.{slice_laws}
use Rattle.basis.specs.RefusalLaws.{looks}
use Rattle.basis.specs.RefuseLaws.{answers}
use borrow.Author.Rules.{rules}
use Rattle.view_start_entries.proofs.slice_points.entry.Goals as goal

pub returns-in-Err : goal.returns-in-Err
returns-in-Err c = search (rules, answers, slice_laws, looks)

pub from_slice_points-requires : goal.from_slice_points-requires
from_slice_points-requires c = search (rules, answers, slice_laws, looks)

pub returns-in-Ok : goal.returns-in-Ok
returns-in-Ok c = search (rules, answers, slice_laws, looks)
