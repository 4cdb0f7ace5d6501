-- Laws by which the verdict is proved: a callee's answer in place of its definition.
use Rattle.std.specs.Prelude.{ℕ, ◌+◌, ◌≤◌, Bool, false, not, ◌≡◌, List, Float}
use Rattle.std.proofs.Common.{sym, ◌∙◌, arith}
use Rattle.std.proofs.Math.Path.{ap}
use borrow.Author.Tests.{not-false}
use Rattle.outline.specs.Points.{pos_of}
use Rattle.outline.specs.Outline.{wrap, Segment}
use Rattle.outline.specs.OutlineLaws.{wrap-lt}
use Rattle.view.specs.declared.data.ViewData.{ViewData}
use Rattle.verdict.specs.declared.validate.ViewDataValidation.{ViewDataValidation}
use Rattle.view.specs.View.{Fit}
use Rattle.verdict.specs.Validate.{Asked, on_segment, end_index_of, end_verdict, start_verdict}

module _ (o : List Float) (vc : ℕ) where
  -- the segment on which a view ends
  pub end-segment : (v : ViewData) (i : ℕ) → Fit o vc v → i ≡ wrap vc (v.start_index + v.end_index_offset) → Segment o vc i
  end-segment v i f e = record { whole = f.whole; inside = omega (arith, wrap-lt vc (v.start_index + v.end_index_offset) (omega arith)) }

  pub start-yes : (v : ViewData) (hs he x : Bool) (i : ℕ) (r : ViewDataValidation) → x ≡ on_segment o vc v.start_index (pos_of v.updated_start) hs → not x ≡ false
      → i ≡ wrap vc (v.start_index + v.end_index_offset) → r ≡ end_verdict o vc v i he → r ≡ start_verdict o vc v hs he
  unfolding start_verdict end_index_of
  start-yes v hs he x i r e n j q = simp (sym e ∙ not-false x n) (q ∙ ap (λ (k : ℕ). end_verdict o vc v k he) j)

  pub asked-fit : (v : ViewData) → Asked o vc v → 2 ≤ vc → v.end_index_offset ≤ vc → Fit o vc v
  asked-fit v a l m = record { whole = record { triples = a.triples; least = l; most = a.most }; starts = a.starts l; reaches = m }

pub ruleset verdicts = (end-segment, start-yes, asked-fit)
