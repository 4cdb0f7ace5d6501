use Rattle.cut_order.proofs.Writing.{overwriting, room-known}
use borrow.Author.Rules.{rules}
use Rattle.cut_order.proofs.write.write_order.Goals as goal

pub order_cuts-requires : goal.order_cuts-requires
order_cuts-requires c = search (rules, overwriting)

pub write_items-requires : goal.write_items-requires
write_items-requires c =
    room-known _ _ _ _ _ _ c.order_cuts.ensures c.requires.roomy (search rules) (search rules)

pub returns : goal.returns
returns c = search (rules, overwriting)
