use borrow.Author.Rules.{rules}
use Rattle.basis.specs.RefusalLaws.{looks}
use Rattle.stitch_entries.proofs.Ways.{finding}
use Rattle.stitch_entries.proofs.stitching.refusal.Goals as goal

pub returns-in_err-input_refusal : goal.returns-in_err-input_refusal
returns-in_err-input_refusal c = search (rules, finding, looks)

pub edition_refusal-requires : goal.edition_refusal-requires
edition_refusal-requires c = search (rules, finding, looks)

pub returns-in_err-edition_refusal : goal.returns-in_err-edition_refusal
returns-in_err-edition_refusal c = search (rules, finding, looks)

pub room_refusal-requires : goal.room_refusal-requires
room_refusal-requires c = search (rules, finding, looks)

pub returns : goal.returns
returns c = search (rules, finding, looks)
