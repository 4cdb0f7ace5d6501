-- Laws by which the slices of both outlines are written: what each outline needs, and that both with the overlaps make the call of `mask_prune`.
use Prim.Native.Nat.{ℕ, ◌+◌, ◌*◌, ◌≤◌, zero-le}
use mathlib.Core.Path.{◌≡◌, sym, subst}
use native.Mathlib.Omega.{arith}
use Rattle.cut.specs.Cuts as cuts
use Rattle.candidate_write.specs.CandidateTheorems.{count_most}
use Rattle.slice.specs.Ready.{Rooms, Roomy}
use Rattle.prune.specs.declared.call.Call.{Call}
use Rattle.prune.specs.declared.mode.Part.{Part}
use Rattle.prune.specs.declared.mode.Parts.{Parts}
use Rattle.prune.specs.declared.counts.Ends.{Ends}
use Rattle.prune.specs.declared.counts.Pruned.{Pruned}
use Rattle.prune.specs.Prune.{kept_to, parts_for, overlaps}
use Rattle.prune_write.specs.Ready.{BothWritten, FinishFit, Finished, WrittenTo}
use Rattle.prune_put.specs.Ready.{Wrote}
use Rattle.prune_write.specs.WriteLaws.{both_of, written-to}
use Rattle.straight_side.specs.declared.keeping.Side.{Side}
use Rattle.straight_side.specs.Side.{along_straight, side_count}
use Rattle.straight_side.specs.Ready.{KeptRoom, Kept}
use Rattle.straight_slices.specs.Slices.{Given, first_cuts, second_cuts, first_side, second_side, first_cands, second_cands, pruning, most_call, need_all}
use Rattle.straight_slices.specs.Ready.{SidesRoom, Accepted}

-- there are no more candidates than cuts
first-few : (g : Given) → side_count (first_cuts g) ≤ g.job.hits + 2 * g.job.laps
first-few g = count_most (along_straight (first_cuts g))

second-few : (g : Given) → side_count (second_cuts g) ≤ g.job.hits + 2 * g.job.laps
second-few g = count_most (along_straight (second_cuts g))

-- ---- one outline behind the other
module _ (g : Given) (room : Rooms) (k : SidesRoom g room) where
  -- the code has the cuts of outline 1 as `own`, and those of outline 2 as `others`
  module _ (p : Part) (one : Side) (is : one ≡ first_side g.job p) (own : cuts.Given) (first : own ≡ first_cuts g) where
    pub first-room : KeptRoom own g.outline2 one room
    first-room =
        let r = k.roomy in
        subst (λ (s : Side). KeptRoom own g.outline2 s room) (sym is)
        (subst (λ (c : cuts.Given). KeptRoom c g.outline2 (first_side g.job p) room) (sym first)
        (record {
          both = k.first;
          low = zero-le;
          roomy = record { at = omega (arith, r.at); shape = omega (arith, r.shape); edition = omega (arith, r.edition) };
        }))

    module _ (n : ℕ) (room₁ : Rooms) (x₀ : Kept own g.outline2 one room n room₁) where
      x : Kept (first_cuts g) g.outline2 (first_side g.job p) room n room₁
      x =
          subst (λ (c : cuts.Given). Kept c g.outline2 (first_side g.job p) room n room₁) first
          (subst (λ (s : Side). Kept own g.outline2 s room n room₁) is x₀)

      module _ (q : Part) (two : Side) (is₂ : two ≡ second_side g.job q n) (others : cuts.Given) (second : others ≡ second_cuts g) where
        pub second-room : KeptRoom others g.outline1 two room₁
        second-room =
            let r = k.roomy in
            let f = first-few g in
            let c = k.first.accepted.ready in
            subst (λ (s : Side). KeptRoom others g.outline1 s room₁) (sym is₂)
            (subst (λ (d : cuts.Given). KeptRoom d g.outline1 (second_side g.job q n) room₁) (sym second)
            (record {
              both = k.second;
              low = omega (arith, x.few, c.few_hits, c.few_laps);
              roomy = record { at = omega (arith, r.at, x.few, x.size-at); shape = omega (arith, r.shape, x.few, x.size-shape); edition = omega (arith, r.edition, x.few, x.size-edition) };
            }))

        pub both-made : (ps : Parts) → ps ≡ parts_for (pruning g).call → p ≡ ps.first → q ≡ ps.second → (b : ℕ) (room₂ : Rooms) → Kept others g.outline1 two room₁ b room₂
            → BothWritten (pruning g).call (first_cands g) (second_cands g) room (record { first = n; second = b }) room₂
        both-made ps e u v b room₂ y₀ =
            let y : Kept (second_cuts g) g.outline1 (second_side g.job q n) room₁ b room₂ =
            subst (λ (d : cuts.Given). Kept d g.outline1 (second_side g.job q n) room₁ b room₂) second
            (subst (λ (s : Side). Kept others g.outline1 s room₁ b room₂) is₂ y₀) in
            both_of (pruning g).call (first_cands g) (second_cands g) room room₁ n ps room₂ b e
            (subst (λ (z : Part). Wrote (kept_to (first_cands g) z (side_count (first_cuts g))) (side_count (first_cuts g)) room 0 n room₁) u x)
            (subst (λ (z : Part). Wrote (kept_to (second_cands g) z (side_count (second_cuts g))) (side_count (second_cuts g)) room₁ n b room₂) v y)

-- ---- then the overlaps twice, and zero up to the need
module _ (g : Given) (call : Call) (l l₁ : Rooms) (kept : Ends) (k : Accepted g call l) (w : BothWritten (pruning g).call (first_cands g) (second_cands g) l kept l₁) where
  roomy₁ : Roomy (need_all g.job) l₁
  roomy₁ =
      let r = k.sides.roomy in
      record { at = omega (arith, r.at, w.wrote.size-at); shape = omega (arith, r.shape, w.wrote.size-shape); edition = omega (arith, r.edition, w.wrote.size-edition) }

  pub finish-fit : FinishFit call kept (overlaps g.lap_at g.lap g.lap_edition) l₁
  finish-fit =
      let c = k.sides.first.accepted.ready in
      let f = first-few g in
      let s = second-few g in
      subst (λ (x : Call). FinishFit x kept (overlaps g.lap_at g.lap g.lap_edition) l₁) (sym k.most)
      (record {
        few = record { first = omega (arith, c.few_hits, c.few_laps); second = omega (arith, c.few_hits, c.few_laps); laps = c.few_laps };
        laps = k.laps;
        within = omega (arith, w.wrote.few);
        roomy = roomy₁;
      })

  pub finish-written : (r : Pruned) (l₂ : Rooms) → Finished call kept (overlaps g.lap_at g.lap g.lap_edition) l₁ r l₂ → WrittenTo (pruning g) (need_all g.job) l r l₂
  finish-written r l₂ f₀ =
      let f : Finished (most_call g.job) kept (overlaps g.lap_at g.lap g.lap_edition) l₁ r l₂ =
      subst (λ (x : Call). Finished x kept (overlaps g.lap_at g.lap g.lap_edition) l₁ r l₂) k.most f₀ in
      let a = first-few g in
      let b = second-few g in
      written-to (pruning g).call (first_cands g) (second_cands g) (overlaps g.lap_at g.lap g.lap_edition) l l₁ kept (need_all g.job) f.twice f.between l₂ r (omega arith) roomy₁ w f.wrote
      f.rest f.answer
