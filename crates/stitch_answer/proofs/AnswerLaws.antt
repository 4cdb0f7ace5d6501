-- The candidates by a box are those of the end, so three looks give the selector's answer.
use Prim.Native.Nat.{ℕ, zero, suc}
use native.Mathlib.Omega.{arith}
use mathlib.Core.Bool.{Bool, ◌&&◌}
use mathlib.Core.List.{List}
use mathlib.Core.Path.{◌≡◌, refl, ap, ◌∙◌}
use Rattle.std.specs.Prelude.{Option}
use lib.Ieee.{Float, binary64, add, sub, le}
use Rattle.basis.specs.Choice.{and_assoc}
use Rattle.basis.specs.Number.{in_span}
use Rattle.basis.specs.declared.number.Tolerance.{Tolerance}
use Rattle.outline.specs.declared.point.Point.{Point}
use Rattle.outline.specs.Points.{in_box}
use Rattle.outline.specs.Outline.{point_at}
use Rattle.stitch_run.specs.declared.plan.Plan.{Plan}
use Rattle.stitch_run.specs.Run.{free, passing}
use Rattle.stitch_layout.specs.declared.layout.Layout.{Layout}
use Rattle.stitch_layout.specs.declared.layout.Query.{Query}
use Rattle.stitch_layout.specs.Slices.{x_of, y_of}
use Rattle.stitch_links.specs.Looks.{query_of}
use Rattle.stitch_links.specs.Hung.{hung-fit}
use Rattle.stitch_answer.specs.Answer.{near_end, answer_of, offered_of, Ready, Grouped, Asking, Answered}

module _ (points : List Float) (visited : List Bool) (first g : ℕ) (end : Point) (t : Tolerance) where
  offered-is : (j : ℕ) → offered_of points visited (query_of end t g first) j ≡ near_end points visited first end t j
  unfolding offered_of in_box in_span point_at
  offered-is j =
      ap (λ (b : Bool). free visited first j && b)
      (and_assoc (le (sub binary64 end.x t.x) (x_of points j) && le (x_of points j) (add binary64 end.x t.x)) (le (sub binary64 end.y t.y) (y_of points j)) (le (y_of points j) (add binary64 end.y t.y)))

  candidates-are : (n : ℕ) → passing (offered_of points visited (query_of end t g first)) n ≡ passing (near_end points visited first end t) n
  unfolding passing
  candidates-are zero = refl
  candidates-are (suc n) = rw (candidates-are n, offered-is n)

module _ (points : List Float) (visited : List Bool) (link : List ℕ) (w : Layout) (first : ℕ) (p : Plan) (a : Asking points visited link w first p) (end : Point) (q : Query) (e : q ≡ query_of end p.tolerance 0 first) where
  pub asking-ready : Ready points visited w q link p.selector p.starts
  asking-ready =
      rw e
      (record {
        ready = record { fit = hung-fit points visited first w link p.slices p.starts a.hung a.some a.scan; marks = omega (arith, a.scan.marks, a.hung.laid.count); linked = a.hung.linked a.some };
        known = record { few = a.selectors };
        classed = record { two = a.hung.laid.two; over = a.hung.laid.over };
      })

  pub asking-answered : (current : ℕ) (link' : List ℕ) (r : Option (Option ℕ)) → Grouped points visited w q p.selector p.starts current link' r → Answered points visited link' w first current end p r
  asking-answered current link' r k =
      let s = rw e at k in
      record {
        is = s.is ∙ ap (λ (n : ℕ). answer_of p.selector p.starts current (passing (offered_of points visited (query_of end p.tolerance 0 first)) n)) a.hung.laid.count
            ∙ ap (answer_of p.selector p.starts current) (candidates-are points visited first 0 end p.tolerance p.slices);
        hung = record { laid = a.hung.laid; linked = λ h. s.linked };
      }
