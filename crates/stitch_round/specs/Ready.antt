-- What a caller has shown, and what the functions leave: one record for each contract.
use Rattle.std.specs.Prelude.{ℕ, ◌*◌, ◌≤◌, ◌<◌, Bool, cond, eqb, ltb, ◌≡◌, List, [], length, Float, Option, Some, None}
use Rattle.std.specs.Bool.{then_some}
use Rattle.outline.specs.declared.point.Vertex.{Vertex}
use Rattle.select.specs.declared.class.Starts.{Starts}
use Rattle.select.specs.declared.best.Best.{Best}
use Rattle.select.specs.declared.table.Choices.{Choices}
use Rattle.select.specs.Select.{best_of}
use Rattle.stitch_vertices.specs.Held.{chain_of}
use Rattle.stitch_run.specs.declared.plan.Plan.{Plan}
use Rattle.stitch_round.specs.declared.step.Step.{Step}
use Rattle.stitch_round.specs.declared.step.Step.TheVariants.{Onto, Ends}
use Rattle.stitch_layout.specs.declared.layout.Layout.{Layout}
use Rattle.stitch_links.specs.Ready.{Marked, ScanFit}
use Rattle.stitch_layout.specs.Ready.{There}
use Rattle.stitch_links.specs.Hung.{Hung}
use Rattle.stitch_answer.specs.Answer.{has_any}
use Rattle.stitch_run.specs.Run.{Next, onto, ends, closed, too_small, no_candidate, no_selection, Underway, passing, next_of}
use Rattle.stitch_run.specs.Stitch.{given, rules_of, how_of}
use Rattle.stitch_slices.specs.Ready.{Points}

-- ---- the scan

pub record BothThere (points : List Float) (visited : List Bool) (j : ℕ) : Type 0 where
  pub point : There points j
  pub mark : Marked visited j

pub record Scannable (points : List Float) (visited : List Bool) (p : Plan) : Type 0 where
  pub scan : ScanFit points visited p.slices
  pub selectors : p.selector < 2

-- the numbers below n that pass were met: where there was any, of each choice the first that suits
pub record Met (p : ℕ → Bool) (s : Starts) (c : Choices) (n : ℕ) (r : Option Best) : Type 0 where
  pub is : r ≡ then_some (has_any (passing p n)) (best_of c s (passing p n))

-- ---- a round

-- what a round comes to, as code says it
abbrev pub told_of : Next → Step
told_of (onto j) = Onto j
told_of (ends e) = Ends (how_of e)

-- slice j was chosen, for a chain of n vertices
unfoldable pub step_of : ℕ → ℕ → ℕ → Step
step_of n first j = cond (eqb j first) (cond (ltb n 3) (Ends (how_of too_small)) (Ends (how_of closed))) (Onto j)

-- what the selector answered, for a chain of n vertices
abbrev pub comes_to : ℕ → ℕ → Option (Option ℕ) → Step
comes_to n first None = Ends (how_of no_candidate)
comes_to n first (Some (Some j)) = step_of n first j
comes_to n first (Some None) = Ends (how_of no_selection)

pub record RoundFit (points : List Float) (visited : List Bool) (link : List ℕ) (w : Layout) (room : List Float) (n first : ℕ) (p : Plan) : Type 0 where
  pub scan : ScanFit points visited p.slices
  pub hung : Hung points visited first w link p.slices p.starts
  pub some : 0 < n
  pub fits : 3 * n ≤ length room
  pub selectors : p.selector < 2

-- a chain under way; its earlier rounds do not matter for the next
abbrev pub standing : ℕ → ℕ → List Vertex → List Bool → Underway (List Vertex)
standing first current vs visited = record { first = first; current = current; built = vs; visited = visited; past = [] }

-- the round of the definition, for whichever slices have these start points; and the invariant of the lists still holds
pub record Rounded (points : List Float) (visited : List Bool) (link : List ℕ) (w : Layout) (room : List Float) (n first current : ℕ) (p : Plan) (r : Step) : Type 0 where
  pub is : (o1 o2 : List Float) (at : List ℕ) (numbers : List Float) → Points (given o1 o2 at numbers p) points
      → r ≡ told_of (next_of (rules_of (given o1 o2 at numbers p)) (standing first current (chain_of room n) visited))
  pub hung : Hung points visited first w link p.slices p.starts
