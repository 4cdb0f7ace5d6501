-- The pipeline never refuses itself: what `mask_candidates` returns for both outlines, `mask_prune` accepts, and what `mask_prune` returns, `mask_stitch` accepts.
-- Each call is taken by its contract, so this holds of the exported entries.
use Rattle.std.specs.Prelude.{ℕ, ◌+◌, ◌*◌, ◌≤◌, ◌<◌, Bool, true, ◌≡◌, refl, List, length, take, get_or, replicate, Float}
use Rattle.std.proofs.Common.{sym, ap, subst, ◌∙◌}
use Rattle.std.proofs.Math.ListN.{length-replicate}
use Rattle.std.proofs.lemmas.List.{get_or-replicate}
use Rattle.basis.specs.Each.{places_below, places_at_most, choices_known}
use Rattle.basis.specs.RefuseLaws.{answer-accepted}
use Rattle.outline.specs.Outline.{Whole}
use Rattle.cut.specs.Cuts as cuts
use Rattle.cut.specs.Cuts.{which_of}
use Rattle.basis.specs.declared.answer.CountAnswer.{CountAnswer}
use Rattle.cut_entries.specs.CutRowsLaws.{CutsPass, cuts-accepted}
use Rattle.candidate_entries.specs.Candidates.{Lent, Sliced}
use Rattle.slice.specs.Slice.{code_width, shape_width}
use Rattle.slice.specs.Ready as slice
use Rattle.slice.specs.Editions.{Editions, editions}
use Rattle.prune.specs.Prune.{Cands, Given, call_of, cands, overlaps, given, need_of}
use Rattle.prune_entries.specs.declared.answer.PruneAnswer.{PruneAnswer}
use Rattle.prune_entries.specs.Answers.{prune_refused}
use Rattle.prune_entries.specs.PruneEntry.{prune_number, PruneLeft}
use Rattle.stitch_run.specs.Stitch as stitch
use Rattle.stitch.specs.Lent.{Lists, Long}
use Rattle.stitch_entries.specs.declared.answer.StitchAnswer.{StitchAnswer}
use Rattle.stitch_entries.specs.Answers.{stitch_refused}
use Rattle.stitch_entries.specs.StitchEntry.{lengths_of, stitch_number}
use Rattle.stitch_faults.specs.Matching.{Matched}
use Rattle.settings.specs.Settings.{Held}
use Rattle.named_entries.specs.NamedStitch.{named_stitch_refusal, Holding, NamedStitch}
use Rattle.named_entries.specs.NamedTheorems.{stitch-number}
use Rattle.mask.specs.Accept.{made-pass, cands-made, cands-dated, CandsPass, LapsPass, prune-passes, slices-made, slices-dated, slices-matched, stitch-passes}

-- ---- from the candidates to the slices

-- an accepted call of `mask_candidates`: what was handed in and lent, the answer, and what was left, by the contract of the entry
pub record Made (source : ℕ) : Type 0 where
  pub handed : cuts.Given
  pub of : handed.source ≡ source
  pub splits : List Float
  pub edition : ℕ
  pub lent : Lent
  pub answer : CountAnswer
  pub left : Lent
  pub holds : Sliced handed splits edition lent answer left
  pub accepted : answer.refusal ≡ 0

-- what the host hands on: as many items as were counted, and its yes or no for each
abbrev pub hand_on : {source : ℕ} → Made source → List ℕ → Cands
hand_on m inside =
    cands (take (2 * m.answer.count) m.left.at) (take (shape_width * m.answer.count) m.left.cand) (take m.answer.count m.left.edition) inside

-- one yes or no for each candidate
pub record Told (n : ℕ) (inside : List ℕ) : Type 0 where
  pub each : length inside ≡ n
  pub known : choices_known 1 0 inside ≡ true

-- and beside each overlap the edition of outline 2, which its view is of
abbrev pub prune_call : Made 1 → Made 2 → ℕ → ℕ → List ℕ → List ℕ → Given
prune_call one two mode opposing inside1 inside2 =
    given (call_of mode opposing one.handed.vc two.handed.vc one.answer.count two.answer.count one.handed.laps) (hand_on one inside1) (hand_on two inside2)
    (overlaps one.handed.lap_at one.handed.lap (replicate one.handed.laps two.edition))

passed : {source : ℕ} (m : Made source) → CutsPass m.handed
passed m = (made-pass m.handed m.splits m.edition m.lent m.answer m.left m.holds m.accepted).cuts

whole_of : {source : ℕ} (m : Made source) → Whole m.handed.outline m.handed.vc
whole_of m = (cuts-accepted m.handed (passed m)).ready.whole

dated : {source : ℕ} (m : Made source) → take m.answer.count m.left.edition ≡ replicate m.answer.count m.edition
dated m = cands-dated m.handed m.splits m.edition m.lent m.answer m.left m.holds m.accepted

-- each candidate that is handed on has the edition that it was cut from
dated-at : {source : ℕ} (m : Made source) (k : ℕ) → k < m.answer.count → get_or (take m.answer.count m.left.edition) k 0 ≡ m.edition
dated-at m k h = ap (λ (l : List ℕ). get_or l k 0) (dated m) ∙ get_or-replicate m.answer.count k m.edition 0 h

cands-pass : {source : ℕ} (m : Made source) (inside : List ℕ) → Told m.answer.count inside → CandsPass m.handed.vc m.answer.count (hand_on m inside)
cands-pass m inside t =
    record { made = cands-made m.handed m.splits m.edition m.lent m.answer m.left m.holds m.accepted; dated = ap length (dated m) ∙ length-replicate m.answer.count m.edition; told = t.each; known = t.known }

-- both calls had the same overlaps: each looked at their indexes on its own outline, and the second at their views
module _ (one : Made 1) (two : Made 2) (same : two.handed.lap_at ≡ one.handed.lap_at) where
  -- the rows of the indexes, at the place of each outline
  index-row : {source : ℕ} (m : Made source) (place : ℕ → ℕ) → places_below 7 (place (which_of m.handed.source)) m.handed.vc m.handed.lap_at ≡ true
      → places_below 7 (place (which_of source)) m.handed.vc m.handed.lap_at ≡ true
  index-row m place h = subst (λ (n : ℕ). places_below 7 (place (which_of n)) m.handed.vc m.handed.lap_at ≡ true) m.of h

  -- what the second call found of its overlaps holds of the first's
  of-first : (test : List ℕ → Bool) → test two.handed.lap_at ≡ true → test one.handed.lap_at ≡ true
  of-first test h = subst (λ (l : List ℕ). test l ≡ true) same h

  laps-pass : LapsPass one.handed.vc two.handed.vc one.handed.laps (overlaps one.handed.lap_at one.handed.lap (replicate one.handed.laps two.edition))
  unfolding which_of
  laps-pass =
      let p = passed one in
      let q = passed two in
      record {
        fit = record { few = p.few_laps; at = p.lap_at_length; shape = p.lap_length; edition = length-replicate one.handed.laps two.edition };
        codes = p.opposing;
        starts1 = index-row one (λ n. n) p.starts_below;
        starts2 = of-first (places_below 7 1 two.handed.vc) (index-row two (λ n. n) q.starts_below);
        ends1 = index-row one (λ n. 2 + n) p.ends_below;
        ends2 = of-first (places_below 7 3 two.handed.vc) (index-row two (λ n. 2 + n) q.ends_below);
        views = of-first (places_below 7 5 two.handed.vc) (q.view_starts two.of);
        reaches = of-first (places_at_most 7 6 two.handed.vc) (q.view_offsets two.of);
        numbers = p.lap_within;
      }

  -- whatever the mode, the outlines' own directions and the host's yes and no
  module _ (mode opposing : ℕ) (inside1 inside2 : List ℕ) (known : mode ≤ 3) (choice : opposing ≤ 1) (told1 : Told one.answer.count inside1) (told2 : Told two.answer.count inside2) where
    abbrev call : Given
    call = prune_call one two mode opposing inside1 inside2

    -- what `mask_candidates` returns, `mask_prune` accepts
    pub prune-accepts : (l : slice.Rooms) → slice.Roomy (need_of call.call) l → prune_number call l ≡ 0
    prune-accepts l roomy =
        prune-passes call l
        (record {
          sized1 = (passed one).sized;
          sized2 = (passed two).sized;
          mode = known;
          choice = choice;
          first = cands-pass one inside1 told1;
          second = cands-pass two inside2 told2;
          laps = laps-pass;
          roomy = roomy;
        })

    -- what `mask_prune` returns, `mask_stitch` accepts
    module _ (l : slice.Rooms) (r : PruneAnswer) (left : slice.Rooms) (roomy : slice.Roomy (need_of call.call) l) (holds : PruneLeft call l r left) where
      -- what the host hands on: the outlines, as many slices as were counted, their starts. It names a setting that has the tolerances
      abbrev pub stitch_call : ℕ → stitch.Given
      stitch_call selector =
          stitch.given one.handed.outline two.handed.outline (take (code_width * r.slices) left.at) (take (shape_width * r.slices) left.shape)
          (stitch.plan_of one.handed.vc two.handed.vc r.slices r.starts selector one.handed.tolerance)

      pub pruned : r.refusal ≡ 0
      pruned = ap (λ (a : PruneAnswer). a.refusal) (answer-accepted prune_refused (prune_number call l) _ r holds.answers (prune-accepts l roomy))

      -- their editions, beside those of the two outlines
      abbrev pub carried : ℕ → ℕ → Editions
      carried first second = editions first second (take r.slices left.edition)

      -- the editions that the outlines had when they were cut match, whatever the outlines are by now
      pub carried-match : (g : stitch.Given) → g.slices ≡ r.slices → g.slice_at ≡ take (code_width * r.slices) left.at → Matched g (carried one.edition two.edition)
      carried-match g n at =
          record {
            each = slices-dated call l r left holds pruned ∙ sym n;
            same =
                rw at
                (slices-matched call l r left holds pruned one.edition two.edition (dated-at one) (dated-at two) (λ j h. get_or-replicate one.handed.laps j two.edition 0 h));
          }

      by-tolerances : (selector : ℕ) (x : Lists) → selector ≤ 1 → Long (stitch_call selector) x → stitch_number (stitch_call selector) (carried one.edition two.edition) x ≡ 0
      by-tolerances selector x choice long =
          stitch-passes (stitch_call selector) (carried one.edition two.edition) x
          (record {
            whole1 = whole_of one;
            whole2 = whole_of two;
            numbers1 = (passed one).outline_within;
            numbers2 = (passed two).outline_within;
            tolerance = (passed one).tolerance;
            selector = choice;
            slices = slices-made call l r left holds pruned;
            matched = carried-match (stitch_call selector) refl refl;
            long = long;
          })

      -- a record that holds a setting with the tolerances
      module _ (h : Held) (k : ℕ) (there : Holding h k one.handed.tolerance) where
        pub stitch-accepts : (selector : ℕ) (x : Lists) → selector ≤ 1 → Long (stitch_call selector) x
            → named_stitch_refusal h k (stitch_call selector) (carried one.edition two.edition) (lengths_of x) ≡ 0
        stitch-accepts selector x choice long =
            stitch-number h k there.sized there.there (stitch_call selector) (carried one.edition two.edition) (lengths_of x) ∙ by-tolerances selector x choice long

        -- so a host that lends what the needs say never sees a refusal in the middle
        pub never-refuses : (selector : ℕ) (x : Lists) (s : StitchAnswer) (y : Lists) → selector ≤ 1 → Long (stitch_call selector) x
            → NamedStitch h k (stitch_call selector) (carried one.edition two.edition) x s y → (r.refusal ≡ 0) × (s.refusal ≡ 0)
        never-refuses selector x s y choice long kept = (
          pruned,
          ap (λ (a : StitchAnswer). a.refusal)
              (answer-accepted stitch_refused (named_stitch_refusal h k (stitch_call selector) (carried one.edition two.edition) (lengths_of x)) _ s kept.answers (stitch-accepts selector x choice long)),
        )
