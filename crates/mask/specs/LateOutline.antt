-- Request K3: "A late outline then cannot be read with old vertex numbers." Candidates are cut from two outlines and pruned; then a stitch is made of the slices, with
-- outlines, vertex counts and all else whatever they are by then. Each call is taken by its contract.
use Rattle.std.specs.Prelude.{ℕ, ◌*◌, ◌≤◌, ◌<◌, ◌≡◌, refl, List, take}
use Rattle.std.proofs.Common.{sym, subst, ◌∙◌}
use Rattle.basis.specs.RefuseLaws.{answer-zero}
use Rattle.slice.specs.Slice.{code_width, codes_at}
use Rattle.slice.specs.Ready as slice
use Rattle.slice.specs.Editions.{Editions, edition_of}
use Rattle.slice.specs.EditionLaws.{edition-at}
use Rattle.prune.specs.Prune.{need_of}
use Rattle.prune_entries.specs.declared.answer.PruneAnswer.{PruneAnswer}
use Rattle.prune_entries.specs.PruneEntry.{PruneLeft}
use Rattle.stitch_run.specs.Stitch as stitch
use Rattle.stitch.specs.Lent.{Lists}
use Rattle.stitch_entries.specs.declared.answer.StitchAnswer.{StitchAnswer}
use Rattle.stitch_entries.specs.Answers.{stitch_refused}
use Rattle.stitch_entries.specs.StitchEntry.{lengths_of, stitch_number}
use Rattle.stitch_faults.specs.Matching.{Matched, accepted-codes, accepted-edition}
use Rattle.settings.specs.Settings.{Held}
use Rattle.named_entries.specs.NamedStitch.{named_stitch_refusal, NamedStitch}
use Rattle.named_entries.specs.NamedTheorems.{accepted-stitch, never-14}
use Rattle.mask.specs.Pipeline.{Made, Told, prune_call, carried, carried-match}

module _ (one : Made 1) (two : Made 2) (same : two.handed.lap_at ≡ one.handed.lap_at) (mode opposing : ℕ) (inside1 inside2 : List ℕ) (known : mode ≤ 3) (choice : opposing ≤ 1)
    (told1 : Told one.answer.count inside1) (told2 : Told two.answer.count inside2) (l : slice.Rooms) (r : PruneAnswer) (left : slice.Rooms)
    (roomy : slice.Roomy (need_of (prune_call one two mode opposing inside1 inside2).call) l) (holds : PruneLeft (prune_call one two mode opposing inside1 inside2) l r left) where
  -- the editions of the slices, beside those that the outlines have at the stitch
  abbrev dated : ℕ → ℕ → Editions
  dated first second = carried one two same mode opposing inside1 inside2 known choice told1 told2 l r left roomy holds first second

  module _ (g : stitch.Given) (n : g.slices ≡ r.slices) (at : g.slice_at ≡ take (code_width * r.slices) left.at) where
    matched : Matched g (dated one.edition two.edition)
    matched = carried-match one two same mode opposing inside1 inside2 known choice told1 told2 l r left roomy holds g n at

    -- with the editions that the outlines had when they were cut 14 is never given, whatever else the call has, and whatever record and setting it names
    pub same-never-14 : (h : Held) (k : ℕ) (x : Lists) → named_stitch_refusal h k g (dated one.edition two.edition) (lengths_of x) ≡ 14 → ⊥
    same-never-14 h k x q = never-14 h k g (dated one.edition two.edition) (lengths_of x) matched q

    -- with any editions of the outlines: a slice of an accepted stitch is of an outline that still has the edition with which it was cut
    module _ (h : Held) (setting first second : ℕ) (x : Lists) (s : StitchAnswer) (y : Lists) (kept : NamedStitch h setting g (dated first second) x s y) (accepted : s.refusal ≡ 0) (i : ℕ)
        (below : i < g.slices) where
      number : stitch_number g (dated first second) x ≡ 0
      number =
          answer-zero stitch_refused (λ a. a.refusal) (stitch_number g (dated first second) x) _ s (λ k. refl) (accepted-stitch h setting g (dated first second) x s y kept accepted).answers accepted

      abbrev source : ℕ
      source = (codes_at g.slice_at i).source

      slice-current : edition_of first second source ≡ edition_of one.edition two.edition source
      slice-current =
          sym (accepted-edition g (dated first second) (lengths_of x) number i below)
          ∙ edition-at (dated one.edition two.edition) g.slice_at g.slices (accepted-codes g (dated first second) (lengths_of x) number) matched.same i below

      current : (k : ℕ) → source ≡ k → edition_of first second k ≡ edition_of one.edition two.edition k
      current k e = subst (λ (j : ℕ). edition_of first second j ≡ edition_of one.edition two.edition j) e slice-current

      -- so where an outline's edition is another, no slice of an accepted stitch is of that outline
      pub late-outline-1 : (first ≡ one.edition → ⊥) → source ≡ 1 → ⊥
      late-outline-1 late e = late (current 1 e)

      pub late-outline-2 : (second ≡ two.edition → ⊥) → source ≡ 2 → ⊥
      late-outline-2 late e = late (current 2 e)
