-- Laws of a round: the candidates are the definition's, and so is the outcome.
use Prim.Native.Nat.{ℕ, ◌-◌, ◌<◌}
use mathlib.Core.Bool.{Bool, true, false, cond, ◌&&◌}
use mathlib.Core.Path.{◌≡◌, refl, sym, ap, ◌∙◌}
use mathlib.Core.List.{List, [], ◌∷◌}
use native.Mathlib.Omega.{arith}
use lib.Dec.{eqb, ltb}
use lib.Ieee.{Float}
use Rattle.outline.specs.declared.point.Point.{Point}
use Rattle.outline.specs.declared.point.Vertex.{Vertex}
use Rattle.outline.specs.Points.{pos_of, in_box}
use Rattle.outline.specs.Outline.{vertex_at}
use Rattle.std.specs.Prelude.{Option, Some, None}
use Rattle.stitch_vertices.specs.Held.{chain_of}
use Rattle.stitch_vertices.specs.RestLaws.{chain_length, chain-last}
use Rattle.stitch_run.specs.declared.plan.Plan.{Plan}
use Rattle.stitch_layout.specs.declared.layout.Layout.{Layout}
use Rattle.stitch_answer.specs.Answer.{near_end, answer_of, answer_at, Asking, Answered}
use Rattle.stitch_round.specs.declared.step.Step.{Step}
use Rattle.stitch_round.specs.declared.step.Step.TheVariants.{Onto, Ends}
use Rattle.stitch_run.specs.Run.{onto, ends, closed, too_small, passing, free, candidate, candidates_of, taken, answered, asked, next_of}
use Rattle.stitch_run.specs.Stitch.{given, Given, rules_of, offers_to, how_of}
use Rattle.stitch_run.specs.TallyLaws.{passing-same}
use Rattle.stitch_round.specs.Ready.{told_of, step_of, comes_to, RoundFit, standing, Rounded}
use Rattle.stitch_slices.specs.Ready.{Points}

-- the outcome of each answer
module _ (n first : ℕ) (a : Option (Option ℕ)) where
  pub step-none : a ≡ None → Ends 2 ≡ comes_to n first a
  unfolding how_of
  step-none e = ap (comes_to n first) (sym e)

  pub step-no : (z : Option ℕ) → a ≡ Some z → z ≡ None → Ends 3 ≡ comes_to n first a
  unfolding how_of
  step-no z e f = ap (λ (y : Option ℕ). comes_to n first (Some y)) (sym f) ∙ ap (comes_to n first) (sym e)

  pub step-chosen : (z : Option ℕ) (j : ℕ) (r : Step) → a ≡ Some z → z ≡ Some j → r ≡ step_of n first j → r ≡ comes_to n first a
  step-chosen z j r e f q = q ∙ ap (λ (y : Option ℕ). comes_to n first (Some y)) (sym f) ∙ ap (comes_to n first) (sym e)

module _ (points : List Float) (visited : List Bool) (link : List ℕ) (w : Layout) (room : List Float) (n first : ℕ) (p : Plan) (f : RoundFit points visited link w room n first p) where
  -- what a look by lists of cells needs
  pub round-asking : (w.lists ≡ 0 → ⊥) → Asking points visited link w first p
  round-asking h = record { scan = f.scan; selectors = f.selectors; hung = f.hung; some = omega arith }

  -- what the callees answer, in place of their definitions
  module _ (current : ℕ) (v : Vertex) (e : Point) (a : v ≡ vertex_at room (n - 1)) (b : e ≡ pos_of v) (r : Option (Option ℕ)) where
    pub round-scanned : r ≡ answer_at points visited first current e p → Answered points visited link w first current (pos_of (vertex_at room (n - 1))) p r
    round-scanned h = record { is = rw (b, a) at h; hung = f.hung }

    pub round-looked : (link' : List ℕ) → Answered points visited link' w first current e p r → Answered points visited link' w first current (pos_of (vertex_at room (n - 1))) p r
    round-looked link' h = rw (b, a) at h

-- the selector's answer, and the outcome of the round
module _ (points : List Float) (visited : List Bool) (room : List Float) (n first current : ℕ) (p : Plan) (some : 0 < n)
    (o1 o2 : List Float) (at : List ℕ) (numbers : List Float) (t : Points (given o1 o2 at numbers p) points) where
  abbrev g : Given
  g = given o1 o2 at numbers p

  abbrev end : Point
  end = pos_of (vertex_at room (n - 1))

  candidates-met : candidates_of (rules_of g) visited first (chain_of room n) ≡ passing (near_end points visited first end p.tolerance) p.slices
  unfolding candidates_of candidate rules_of offers_to
  candidates-met =
      let e = chain-last room n (vertex_at room (n - 1)) some refl in
      rw e (passing-same _ _ p.slices λ j h. ap (λ (q : Point). free visited first j && in_box p.tolerance end q) (sym (t.holds j h)))

  taken_is : (j : ℕ) → step_of n first j ≡ told_of (taken (rules_of g) first (chain_of room n) j)
  unfolding step_of taken rules_of how_of
  taken_is j = rw (chain_length room n) (go (eqb j first) (ltb n 3))
    where
      go : (a b : Bool) → cond a (cond b (Ends 1) (Ends 0)) (Onto j) ≡ told_of (cond a (ends (cond b too_small closed)) (onto j))
      go true true = refl
      go true false = refl
      go false b = refl

  answered-is : (z : Option ℕ) → comes_to n first (Some z) ≡ told_of (answered (rules_of g) first (chain_of room n) z)
  unfolding answered how_of
  answered-is (Some j) = taken_is j
  answered-is None = refl

  asked_is : (l : List ℕ) → comes_to n first (answer_of p.selector p.starts current l) ≡ told_of (asked (rules_of g) first current (chain_of room n) l)
  unfolding asked answer_of rules_of how_of
  asked_is [] = refl
  asked_is (j ∷ l) = answered-is _

  next-is : comes_to n first (answer_at points visited first current end p) ≡ told_of (next_of (rules_of g) (standing first current (chain_of room n) visited))
  unfolding next_of
  next-is = rw candidates-met (asked_is (passing (near_end points visited first end p.tolerance) p.slices))

pub round_is : (points : List Float) (visited : List Bool) (link link' : List ℕ) (w : Layout) (room : List Float) (n first current : ℕ) (p : Plan) (a : Option (Option ℕ)) (r : Step)
    → RoundFit points visited link w room n first p → Answered points visited link' w first current (pos_of (vertex_at room (n - 1))) p a → r ≡ comes_to n first a
    → Rounded points visited link' w room n first current p r
round_is points visited link link' w room n first current p a r f k e =
    record { is = λ o1 o2 at numbers t. e ∙ ap (comes_to n first) k.is ∙ next-is points visited room n first current p f.some o1 o2 at numbers t; hung = k.hung }

pub ruleset rounding = (round-asking, round-scanned, round-looked, round_is)
