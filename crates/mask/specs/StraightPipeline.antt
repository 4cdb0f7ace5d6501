-- Request K11 in the pipeline: what `mask_straight_slices` returns, `mask_stitch` accepts. Each call is taken by its contract, so this holds of the exported entries.
use Rattle.std.specs.Prelude.{ℕ, ◌*◌, ◌≤◌, ◌<◌, false, ◌≡◌, refl, List, length, take, get_or, replicate}
use Rattle.std.proofs.Common.{sym, ap, ◌∙◌, arith}
use Rattle.std.proofs.lemmas.List.{length-map, get_or-replicate}
use Rattle.basis.specs.Number.{+0}
use Rattle.basis.specs.RefuseLaws.{answer-zero, answer-accepted}
use Rattle.basis.specs.RoomLaws.{room-front}
use Rattle.cut_entries.specs.CutRowsLaws.{CutsPass, cuts-accepted}
use Rattle.candidate_write.specs.CandidateTheorems.{count_most}
use Rattle.slice.specs.Slice.{code_width, shape_width}
use Rattle.slice.specs.Ready as slice
use Rattle.slice.specs.Editions.{Editions, editions, edition_fault}
use Rattle.prune.specs.Prune.{pruned_of, slices_of, slice_codes, slice_shapes, slice_editions}
use Rattle.prune_write.specs.PruneTheorems.{slices-counted, editions-carried}
use Rattle.prune_entries.specs.declared.answer.PruneAnswer.{PruneAnswer}
use Rattle.prune_entries.specs.Answers.{prune_refused, prune_given}
use Rattle.stitch_run.specs.Stitch as stitch
use Rattle.stitch.specs.Lent.{Lists, Long}
use Rattle.stitch_entries.specs.declared.answer.StitchAnswer.{StitchAnswer}
use Rattle.stitch_entries.specs.Answers.{stitch_refused}
use Rattle.stitch_entries.specs.StitchEntry.{lengths_of, stitch_number}
use Rattle.settings.specs.Settings.{Held}
use Rattle.named_entries.specs.NamedStitch.{named_stitch_refusal, Holding, NamedStitch}
use Rattle.named_entries.specs.NamedTheorems.{stitch-number}
use Rattle.straight_side.specs.Side.{along_straight}
use Rattle.straight_slices.specs.Slices.{Given, first_cuts, second_cuts, pruning, need_all}
use Rattle.straight_slices.specs.Rows.{slices_number, SlicesLeft}
use Rattle.straight_slices.specs.RowsLaws.{Parts, first-pass, second-pass, accepted-parts}
use Rattle.straight_slices.specs.SlicesTheorems.{slices-sound, side-edition}
use Rattle.mask.specs.Accept.{SlicesMade, pruned-made, stitch-passes}

-- an accepted call: what was handed in and lent, the answer, and what was left. Beside each overlap stands the edition of outline 2, which its view is of
module _ (g : Given) (l : slice.Rooms) (r : PruneAnswer) (left : slice.Rooms) (holds : SlicesLeft g l r left) (accepted : r.refusal ≡ 0)
    (dated : g.lap_edition ≡ replicate g.job.laps g.job.edition2) where
  none : slices_number g l ≡ 0
  none = answer-zero prune_refused (λ a. a.refusal) (slices_number g l) _ r (λ k. refl) holds.answers accepted

  handed : Parts g
  handed = accepted-parts g l none

  one : CutsPass (first_cuts g)
  one = first-pass g handed

  two : CutsPass (second_cuts g)
  two = second-pass g handed

  given_is : r ≡ prune_given (pruned_of (pruning g))
  given_is = answer-accepted prune_refused (slices_number g l) _ r holds.answers none

  count-is : r.slices ≡ (pruned_of (pruning g)).slices
  count-is = ap (λ (a : PruneAnswer). a.slices) given_is

  made : SlicesMade g.job.vc1 g.job.vc2 (pruned_of (pruning g)).slices (pruned_of (pruning g)).starts (slice_codes (pruning g)) (slice_shapes (pruning g))
  made =
      let a = count_most (along_straight (first_cuts g)) in
      let b = count_most (along_straight (second_cuts g)) in
      pruned-made (pruning g) (slices-sound g handed)
      (record { first = omega (arith, one.few_hits, one.few_laps); second = omega (arith, one.few_hits, one.few_laps); laps = one.few_laps })

  -- as many slices of each list as were counted
  codes-are : take (code_width * r.slices) left.at ≡ slice_codes (pruning g)
  codes-are =
      room-front 0 code_width (need_all g.job) (slice_codes (pruning g)) l.at left.at (code_width * r.slices) (answer-accepted (λ _. l.at) (slices_number g l) _ left.at holds.at none)
      (made.fit.codes ∙ ap (λ (k : ℕ). code_width * k) (sym count-is))

  shapes-are : take (shape_width * r.slices) left.shape ≡ slice_shapes (pruning g)
  shapes-are =
      room-front +0 shape_width (need_all g.job) (slice_shapes (pruning g)) l.shape left.shape (shape_width * r.slices) (answer-accepted (λ _. l.shape) (slices_number g l) _ left.shape holds.shape none)
      (made.fit.shapes ∙ ap (λ (k : ℕ). shape_width * k) (sym count-is))

  editions-counted : length (slice_editions (pruning g)) ≡ r.slices
  editions-counted = length-map (slices_of (pruning g)) (λ s. s.edition) ∙ sym (slices-counted (pruning g)) ∙ sym count-is

  editions-are : take r.slices left.edition ≡ slice_editions (pruning g)
  editions-are =
      room-front 0 1 (need_all g.job) (slice_editions (pruning g)) l.edition left.edition r.slices (answer-accepted (λ _. l.edition) (slices_number g l) _ left.edition holds.edition none)
      editions-counted

  -- what the host hands on: the outlines, as many slices as were counted, their starts, and their editions beside those of the two outlines
  abbrev pub stitch_call : ℕ → stitch.Given
  stitch_call selector =
      stitch.given g.outline1 g.outline2 (take (code_width * r.slices) left.at) (take (shape_width * r.slices) left.shape)
      (stitch.plan_of g.job.vc1 g.job.vc2 r.slices r.starts selector g.job.tolerance)

  abbrev pub carried : Editions
  carried = editions g.job.edition1 g.job.edition2 (take r.slices left.edition)

  lap-edition : (j : ℕ) → j < g.job.laps → get_or g.lap_edition j 0 ≡ g.job.edition2
  lap-edition j h = ap (λ (e : List ℕ). get_or e j 0) dated ∙ get_or-replicate g.job.laps j g.job.edition2 0 h

  match-all : edition_fault carried (take (code_width * r.slices) left.at) ≡ false
  match-all =
      rw (editions-are, codes-are)
      (editions-carried g.job.edition1 g.job.edition2 (pruning g) (side-edition (first_cuts g) g.outline2 g.job.vc2 g.job.edition1)
      (side-edition (second_cuts g) g.outline1 g.job.vc1 g.job.edition2) lap-edition)

  slices-made : SlicesMade g.job.vc1 g.job.vc2 r.slices r.starts (take (code_width * r.slices) left.at) (take (shape_width * r.slices) left.shape)
  slices-made = rw (codes-are, shapes-are, given_is) made

  by-tolerances : (selector : ℕ) (x : Lists) → selector ≤ 1 → Long (stitch_call selector) x → stitch_number (stitch_call selector) carried x ≡ 0
  by-tolerances selector x choice long =
      stitch-passes (stitch_call selector) carried x
      (record {
        whole1 = (cuts-accepted (first_cuts g) one).ready.whole;
        whole2 = (cuts-accepted (second_cuts g) two).ready.whole;
        numbers1 = one.outline_within;
        numbers2 = two.outline_within;
        tolerance = one.tolerance;
        selector = choice;
        slices = slices-made;
        matched = record { each = ap length editions-are ∙ editions-counted; same = match-all };
        long = long;
      })

  -- a record that holds a setting with the tolerances
  module _ (h : Held) (k : ℕ) (there : Holding h k g.job.tolerance) where
    pub stitch-accepts : (selector : ℕ) (x : Lists) → selector ≤ 1 → Long (stitch_call selector) x → named_stitch_refusal h k (stitch_call selector) carried (lengths_of x) ≡ 0
    stitch-accepts selector x choice long = stitch-number h k there.sized there.there (stitch_call selector) carried (lengths_of x) ∙ by-tolerances selector x choice long

    -- so a host that lends what the needs say never sees a refusal in the middle
    pub never-refuses : (selector : ℕ) (x : Lists) (s : StitchAnswer) (y : Lists) → selector ≤ 1 → Long (stitch_call selector) x → NamedStitch h k (stitch_call selector) carried x s y → s.refusal ≡ 0
    never-refuses selector x s y choice long kept =
        ap (λ (a : StitchAnswer). a.refusal)
        (answer-accepted stitch_refused (named_stitch_refusal h k (stitch_call selector) carried (lengths_of x)) _ s kept.answers (stitch-accepts selector x choice long))
