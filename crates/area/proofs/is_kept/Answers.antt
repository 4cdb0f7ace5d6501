use borrow.Author.Rules.{rules}
use Rattle.area.proofs.Listing.{kept_by}
use Rattle.area.proofs.is_kept.Goals as goal

pub returns : goal.returns
returns c = search (rules, kept_by)
