use Rattle.verdict_entries.specs.ReopenEntry.{reopen_laws}
use borrow.Author.Rules.{rules}
use Rattle.verdict_entries.proofs.reopen.refused.Goals as goal

pub returns : goal.returns
returns c = search (rules, reopen_laws)
