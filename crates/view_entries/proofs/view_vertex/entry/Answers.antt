use Rattle.basis.specs.RefusalLaws.{looks}
use Rattle.basis.specs.RefuseLaws.{answers}
use Rattle.view_entries.specs.ViewVertex.{vertex_laws}
use borrow.Author.Rules.{rules}
use Rattle.view_entries.proofs.view_vertex.entry.Goals as goal

pub returns-in-Err : goal.returns-in-Err
returns-in-Err c = search (rules, answers, vertex_laws, looks)

pub get_vertex-requires : goal.get_vertex-requires
get_vertex-requires c = search (rules, answers, vertex_laws, looks)

pub returns-in-Ok : goal.returns-in-Ok
returns-in-Ok c = search (rules, answers, vertex_laws, looks)
