use Rattle.std.proofs.Common.{rules}
use Rattle.basis.specs.RefusalLaws.{found-some, found-none, found-same}
use Rattle.record_read.proofs.Reading.{frame-fault, head-there, count-fault, whole-fault, body-fit, read-refused, read-filled}
use Rattle.record_read.proofs.read.read_form.Goals as goal

pub returns-in_err-frame_refusal-clause-left : goal.returns-in_err-frame_refusal-clause-left
returns-in_err-frame_refusal-clause-left c =
    let some = found-some _ _ c.in_err-frame_refusal.was in
    read-refused _ (frame-fault c.requires _ c.frame_refusal.ensures _ some) some (found-same c.frame_refusal.result _ _ c.in_err-frame_refusal.was (search rules))

pub head_in-head-requires : goal.head_in-head-requires
head_in-head-requires c = head-there c.requires _ c.frame_refusal.ensures (found-none _ _ c.in_ok-frame_refusal.was)

pub returns-in_err-count_refusal-clause-left : goal.returns-in_err-count_refusal-clause-left
returns-in_err-count_refusal-clause-left c =
    let framed = found-none _ _ c.in_ok-frame_refusal.was in
    let some = found-some _ _ c.in_err-count_refusal.was in
    read-refused _ (count-fault c.requires _ c.frame_refusal.ensures framed c.head_in-head.ensures c.count_refusal.ensures _ some) some
    (found-same c.count_refusal.result _ _ c.in_err-count_refusal.was (search rules))

pub returns-in_err-room_refusal-clause-left : goal.returns-in_err-room_refusal-clause-left
returns-in_err-room_refusal-clause-left c =
    let framed = found-none _ _ c.in_ok-frame_refusal.was in
    let counted = found-none _ _ c.in_ok-count_refusal.was in
    let some = found-some _ _ c.in_err-room_refusal.was in
    read-refused _ (whole-fault c.requires _ c.frame_refusal.ensures framed c.head_in-head.ensures c.count_refusal.ensures _ counted c.room_refusal.ensures) some
    (found-same c.room_refusal.result _ _ c.in_err-room_refusal.was (search rules))

pub read_body-requires : goal.read_body-requires
read_body-requires c =
    let framed = found-none _ _ c.in_ok-frame_refusal.was in
    let counted = found-none _ _ c.in_ok-count_refusal.was in
    body-fit c.requires _ c.frame_refusal.ensures framed c.head_in-head.ensures c.count_refusal.ensures _ counted c.room_refusal.ensures (found-none _ _ c.in_ok-room_refusal.was)

pub returns-clause-left : goal.returns-clause-left
returns-clause-left c =
    let framed = found-none _ _ c.in_ok-frame_refusal.was in
    let counted = found-none _ _ c.in_ok-count_refusal.was in
    let roomy = found-none _ _ c.in_ok-room_refusal.was in
    read-filled _ _ (whole-fault c.requires _ c.frame_refusal.ensures framed c.head_in-head.ensures c.count_refusal.ensures _ counted c.room_refusal.ensures) roomy
    c.head_in-head.ensures
    (body-fit c.requires _ c.frame_refusal.ensures framed c.head_in-head.ensures c.count_refusal.ensures _ counted c.room_refusal.ensures roomy) c.read_body.ensures.filled (search rules)
