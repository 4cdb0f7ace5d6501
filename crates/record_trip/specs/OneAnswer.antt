-- What the contracts of the reader and the writer leave open: nothing. Two permitted answers, with what they leave in the lent lists, are equal.
use Rattle.std.specs.Prelude.{ℕ, ◌≡◌, List}
use Rattle.basis.specs.declared.answer.CountAnswer.{CountAnswer}
use Rattle.std.proofs.Common.{sym, ◌∙◌}
use Rattle.basis.specs.RefuseLaws.{one_answer}
use Rattle.slice.specs.Editions.{Editions}
use Rattle.stitch_run.specs.Stitch.{Given}
use Rattle.std.specs.Prelude.{Result, Ok, Err}
use Rattle.basis.specs.declared.refuse.Refusal.{Refusal}
use Rattle.record.specs.declared.head.Seen.{Seen}
use Rattle.record.specs.Numbers.{one_refusal}
use Rattle.record.specs.Record.{Lists, Read}
use Rattle.record_write.specs.Writer.{WriteLeft}

pub read_one : (b : List ℕ) (l : Lists) (r s : Result Seen Refusal) (x y : Lists) → Read b l r x → Read b l s y
    → (r ≡ s) × (x.outline1 ≡ y.outline1) × (x.outline2 ≡ y.outline2) × (x.slice_at ≡ y.slice_at) × (x.slice ≡ y.slice) × (x.slice_edition ≡ y.slice_edition)
read_one b l r s x y p q = (
  one_refusal r s _ p.answers q.answers (λ z. p.given z ∙ sym (q.given z)),
  one_answer x.outline1 y.outline1 _ p.first q.first,
  one_answer x.outline2 y.outline2 _ p.second q.second,
  one_answer x.slice_at y.slice_at _ p.codes q.codes,
  one_answer x.slice y.slice _ p.shapes q.shapes,
  one_answer x.slice_edition y.slice_edition _ p.dates q.dates,
)

pub write-one : (n : ℕ) (g : Given) (e : Editions) (bytes : List ℕ) (r : CountAnswer) (p : List ℕ) (s : CountAnswer) (q : List ℕ) → WriteLeft n g e bytes r p → WriteLeft n g e bytes s q
    → (r ≡ s) × (p ≡ q)
write-one n g e bytes r p s q x y = (one_answer r s _ x.answers y.answers, one_answer p q _ x.written y.written)
