use Rattle.std.proofs.Common.{arith, ap, ◌∙◌, sym}
use Rattle.basis.specs.Answers.{count_refused}
use Rattle.basis.specs.Refusals.{found}
use Rattle.basis.specs.RefusalLaws.{found-some, found-none}
use Rattle.record_write.proofs.Keeping.{keep-fault, kept-sized, room-fault, no-fault, kept-all, write-refused, write-given}
use Rattle.record_write.proofs.write.write_form.Goals as goal

pub returns-in-Err : goal.returns-in-Err
returns-in-Err c =
    let some = found-some _ _ c.in-Err.is in
    write-refused _ _ _ _ _ _ _ (keep-fault _ _ _ _ _ c.held_refusal.ensures some) some
    (c.count_refused.ensures ∙ ap count_refused (c.number.ensures ∙ sym (ap found c.in-Err.is)))

pub length_of-n-requires : goal.length_of-n-requires
length_of-n-requires c = kept-sized _ _ _ _ 0 c.held_refusal.ensures (found-none _ _ c.in_default.is) c.requires

pub returns-then-bytes-n : goal.returns-then-bytes-n
returns-then-bytes-n c =
    write-refused _ _ _ _ _ 9 _
    (room-fault _ _ _ _ _ c.held_refusal.ensures (found-none _ _ c.in_default.is) c.length_of-n.ensures c.if-bytes-n.true) (λ z. omega arith)
    (c.count_refused-then-bytes-n.ensures ∙ ap count_refused c.number-then-bytes-n.ensures)

pub write_kept-requires : goal.write_kept-requires
write_kept-requires c = kept-all _ _ _ _ _ c.held_refusal.ensures (found-none _ _ c.in_default.is) c.length_of-n.ensures c.requires c.if-bytes-n.false

pub returns : goal.returns
returns c =
    let ok = found-none _ _ c.in_default.is in
    let none = no-fault _ _ _ _ _ c.held_refusal.ensures ok c.length_of-n.ensures c.if-bytes-n.false in
    let keeps = kept-all _ _ _ _ _ c.held_refusal.ensures ok c.length_of-n.ensures c.requires c.if-bytes-n.false in
    write-given _ _ _ _ _ _ _ _ none keeps c.length_of-n.ensures c.write_kept.ensures c.counted_as.ensures
