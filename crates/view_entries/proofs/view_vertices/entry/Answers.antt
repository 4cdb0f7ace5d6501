use Rattle.std.proofs.Common.{rules, arith, sym, ap, ◌∙◌}
use Rattle.basis.specs.RefusalLaws.{looks, found-none, found-some, found-number}
use Rattle.basis.specs.Answers.{count_refused}
use Rattle.view_entries.specs.ViewVertices.{list-accepted, list-refused, list_laws}
use Rattle.view_entries.proofs.view_vertices.entry.Goals as goal

pub returns-in-Err : goal.returns-in-Err
returns-in-Err c =
    list-refused _ _ _ _ _ c.refusal.ensures _ (found-some _ _ c.in-Err.is)
    (c.count_refused.ensures ∙ ap count_refused (c.number.ensures ∙ sym (found-number _ _ c.in-Err.is)))

pub write_vertices-requires : goal.write_vertices-requires
write_vertices-requires c = search (rules, list_laws, looks)

pub overflow_add-v : goal.overflow_add-v
overflow_add-v c =
    let fit = list-accepted _ _ _ c.args.vertices.now _ c.refusal.ensures _ (found-none _ _ c.in-Ok.is) c.from-v.ensures in
    record { fits = omega (arith, fit.view.reaches, fit.view.whole.most) }

pub returns-in-Ok : goal.returns-in-Ok
returns-in-Ok c = search (rules, list_laws, looks)
