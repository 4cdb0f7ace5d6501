-- Laws of the span.
use Rattle.std.specs.Prelude.{ℕ, ◌+◌, ◌-◌, ◌≤◌, ◌<◌, Bool, true, false, ◌≡◌, refl, List, Float}
use Rattle.std.proofs.Common.{sym, arith}
use Rattle.std.proofs.Math.Path.{subst}
use Rattle.basis.specs.Choice.{by-test}
use Rattle.basis.specs.declared.number.Tolerance.{Tolerance}
use Rattle.outline.specs.OutlineLaws.{wrap-lt}
use Rattle.view_span.specs.declared.span.Ends.{Ends}
use Rattle.view_span.specs.declared.span.Span.{Span}
use Rattle.view_span.specs.Span.{EndsFit, SpanFit, start_index_of, ahead, decided, start_nearer, traverse, span_of}

-- a start is on a segment of the outline, moved or not
pub start-lt : (vc i k : ℕ) (b : Bool) → i < vc → k ≡ start_index_of vc i b → k < vc
unfolding start_index_of
start-lt vc i k true h e = subst (λ (n : ℕ). n < vc) (sym e) (wrap-lt vc (i + 1) (omega arith))
start-lt vc i k false h e = subst (λ (n : ℕ). n < vc) (sym e) h

-- a segment is less than once round ahead
pub ahead-lt : (vc a b : ℕ) → 0 < vc → ahead vc a b < vc
unfolding ahead
ahead-lt vc a b h = wrap-lt vc (b + (vc - a)) h

module _ (o : List Float) (vc : ℕ) (e : Ends) (t : Tolerance) where
  traverse-most : (i : ℕ) → 0 < vc → traverse o vc e t i ≤ vc
  unfolding traverse
  traverse-most i h =
      by-test (decided e (ahead vc i e.end_index) t)
      (λ d. by-test (start_nearer o vc i e) (λ n. rw (d, n) (omega arith)) (λ n. rw (d, n) (omega arith)))
      (λ d. rw d (omega (arith, ahead-lt vc i e.end_index h)))

  pub span_fits : (s : Span) → EndsFit o vc e → s ≡ span_of o vc e t → SpanFit o vc e s
  unfolding span_of
  span_fits s f q =
      subst (SpanFit o vc e) (sym q)
      (record { fit = f; starts = start-lt vc e.start_index _ _ f.starts refl; reaches = traverse-most _ (omega arith) })
