use borrow.Author.Rules.{rules}
use mathlib.Core.Path.{sym, ap, ◌∙◌}
use Rattle.basis.specs.Answers.{count_refused}
use Rattle.basis.specs.RefusalLaws.{found-some, found-none, found-number}
use Rattle.candidate_entries.proofs.Finding.{looked, cand-ready, cand-refused, cand-given, cand-back}
use Rattle.candidate_entries.proofs.along.entry.Goals as goal

pub told_dated-requires : goal.told_dated-requires
told_dated-requires c =
    cand-ready _ _ c.args.edition _ _ (looked _ _ _ _ c.refusal.ensures) (found-none _ _ c.in-Ok.is)

pub returns-in-Err : goal.returns-in-Err
returns-in-Err c =
    cand-refused _ _ _ _ _ (looked _ _ _ _ c.refusal.ensures) _ (found-some _ _ c.in-Err.is) (c.count_refused.ensures ∙ ap count_refused (c.number.ensures ∙ sym (found-number _ _ c.in-Err.is)))

pub returns-in-Ok : goal.returns-in-Ok
returns-in-Ok c =
    cand-back _ _ _ _ _ _ _ _ _
    (cand-given _ _ _ _ _ (looked _ _ _ _ c.refusal.ensures) _ _ _ (found-none _ _ c.in-Ok.is) c.told_dated.ensures.written c.counted_as.ensures) (search rules) (search rules) (search rules)
