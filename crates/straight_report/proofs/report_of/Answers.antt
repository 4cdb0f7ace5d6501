use Prim.Native.Nat.{ℕ, ◌+◌, ◌^◌, ◌≤◌, ◌<◌}
use native.Mathlib.Omega.{arith}
use mathlib.Core.Path.{◌≡◌, sym, ap, ◌∙◌, subst}
use lib.Dec.{eqb}
use lib.ListN.{get_or}
use borrow.Author.Rules.{rules}
use Rattle.whole.specs.declared.two.Two.{Two}
use Rattle.whole.specs.Two.{value, two}
use Rattle.whole.specs.TwoLaws.{value-two}
use Rattle.basis.specs.Choice.{code_of}
use Rattle.whole.specs.TwoLaws.{byte-code}
use Rattle.straight.specs.Plane.{spots, area}
use Rattle.straight.specs.SumLaws.{code-most}
use Rattle.straight_report.specs.Report.{part, outlines}
use Rattle.straight_report.specs.MostTheorems.{area-most}
use Rattle.straight_report.specs.ReportLaws.{Going, going-none, going-cut, going_more, going_end, cut-outline, area-says, total-high, report-is}
use Rattle.straight_report.proofs.report_of.Goals as goal

nothing : (t : Two) → t.high ≡ 0 → t.low ≡ 0 → value t ≡ 0
nothing t h k = omega arith

low_fits : (t : Two) (n : ℕ) → t ≡ two n → t.low < 2 ^ 64
low_fits t n e = subst (λ (m : ℕ). m < 2 ^ 64) (sym (ap (λ (r : Two). r.low) e)) (omega arith)

pub loop-end-init : goal.loop-end-init
loop-end-init c =
    (subst (λ (n : ℕ). Going c.args.points.now c.args.ends.now 0 0 0 n) (sym (nothing c.from-total.result c.from-total.ensures.0 c.from-total.ensures.1)) (going-none c.requires), search rules)

pub area_between-a-requires : goal.area_between-a-requires
area_between-a-requires c =
    going-cut c.requires c.loop-end.invariant.0 c.loop-end-test.true

pub overflow_add-zero : goal.overflow_add-zero
overflow_add-zero c =
    record { fits = omega (arith, c.loop-end.invariant.0.at, c.loop-end.invariant.0.none-most, c.requires.few, c.from-zero.ensures, byte-code c.is_zero.result, code-most c.is_zero.result) }

pub add-total-requires : goal.add-total-requires
add-total-requires c =
    let a = c.area_between-a in
    total-high c.loop-end.total a.result.size c.loop-end.end-index c.loop-end.invariant.0.total-most (omega (arith, c.loop-end.invariant.0.at, c.requires.few))
    (subst (λ (n : ℕ). n ≤ 327680000000000000000) (sym (area-says a.result (area (spots (part c.args.points.now c.loop-end.from (get_or c.args.ends.now c.loop-end.end-index 0)))) a.ensures))
    (area-most (cut-outline (going-cut c.requires c.loop-end.invariant.0 c.loop-end-test.true))))

pub loop-end-preserved : goal.loop-end-preserved
loop-end-preserved c =
    let l = c.args.points.now in
    let ends = c.args.ends.now in
    let e = get_or ends c.loop-end.end-index 0 in
    let a = c.area_between-a in
    let z = area (spots (part l c.loop-end.from e)) in (
      subst (λ (n : ℕ). Going l ends (c.loop-end.end-index + 1) e (c.loop-end.zero + c.from-zero.result) n)
          (sym (ap value c.add-total.ensures ∙ value-two (value c.loop-end.total + value a.result.size)))
          (going_more c.requires c.loop-end.invariant.0 c.loop-end-test.true c.from-zero.result (value a.result.size)
          (c.from-zero.ensures ∙ byte-code c.is_zero.result ∙ ap code_of c.is_zero.ensures ∙ ap (λ (n : ℕ). code_of (eqb n 0)) (area-says a.result z a.ensures))
          (area-says a.result z a.ensures)),
      low_fits c.add-total.result (value c.loop-end.total + value a.result.size) c.add-total.ensures,
    )

pub returns : goal.returns
returns c =
    let g = going_end c.loop-end.invariant.0 c.loop-end-test.false in
    report-is c.loop-end.zero c.loop-end.total (outlines c.args.points.now 0 c.args.ends.now) c.loop-end.invariant.1 g.0 g.1
