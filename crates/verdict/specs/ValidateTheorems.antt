-- What the verdict "valid" says of a view's numbers. No code is proved by it.
use Rattle.std.specs.Prelude.{ℕ, Bool, false, List, ltb, Float}
use Rattle.std.proofs.Math.Path.{◌≡◌}
use Rattle.std.proofs.Common.{arith, ltb-false}
use Rattle.basis.specs.Choice.{by-test}
use Rattle.view.specs.declared.data.ViewData.{ViewData}
use Rattle.view.specs.View.{Fit}
use Rattle.verdict.specs.declared.validate.ViewDataValidation.TheVariants as verdict
use Rattle.verdict.specs.Validate.{Asked, verdict_of}
use Rattle.verdict.specs.ValidateLaws.{asked-fit}

module _ (o : List Float) (vc : ℕ) (v : ViewData) (start_on end_on : Bool) (valid : verdict_of o vc v start_on end_on ≡ verdict.IsValid) where
  valid-long : ltb vc 2 ≡ false
  unfolding verdict_of
  valid-long = by-test (ltb vc 2) (λ t. let e : verdict.SourceHasNoSegments ≡ verdict.IsValid = rw t at valid in let z : ◌≡◌ {A = ℕ} 0 1 = cc in absurd (omega arith)) (λ f. f)

  valid-reach : ltb vc v.end_index_offset ≡ false
  unfolding verdict_of
  valid-reach =
      by-test (ltb vc v.end_index_offset)
      (λ t. let e : verdict.OffsetOutOfRange v.end_index_offset vc ≡ verdict.IsValid = rw (valid-long, t) at valid in let z : ◌≡◌ {A = ℕ} 0 1 = cc in absurd (omega arith))
      (λ f. f)

  -- the outline has segments, the start is below its vertex count and the offset at most that
  pub valid-fits : Asked o vc v → Fit o vc v
  valid-fits a = asked-fit o vc v a (ltb-false vc 2 valid-long) (ltb-false vc v.end_index_offset valid-reach)
