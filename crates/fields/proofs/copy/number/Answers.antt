use mathlib.Core.Path.{◌≡◌, ◌∙◌}
use mathlib.Core.Bool.{true, false}
use Prim.Native.Nat.{ℕ, ◌≤◌, ◌<◌, ◌%◌}
use lib.Ieee.{binary64, nan_bits}
use lib.Ieee.Bits.{nan_bits_above}
use borrow.Author.Rules.{rules}
use borrow.Author.Tests.{le-ltb, lt-ltb}
use Rattle.fields.specs.Fields.{num_of}
use Rattle.fields.proofs.copy.number.Goals as goal

no_nan : (w : ℕ) → w % 9223372036854775808 ≤ 9218868437227405312 → nan_bits binary64 w ≡ false
no_nan w h = nan_bits_above binary64 w ∙ le-ltb _ _ h

a-nan : (w : ℕ) → 9218868437227405312 < w % 9223372036854775808 → nan_bits binary64 w ≡ true
a-nan w h = nan_bits_above binary64 w ∙ lt-ltb _ _ h

pub float_from_bits-result : goal.float_from_bits-result
float_from_bits-result c = rw (no_nan _ c.if-pattern-le9218868437227405312.true) tt

pub returns-then-pattern-le9218868437227405312 : goal.returns-then-pattern-le9218868437227405312
unfolding num_of
returns-then-pattern-le9218868437227405312 c = rw (no_nan _ c.if-pattern-le9218868437227405312.true)

pub float_from_bits-result-2 : goal.float_from_bits-result-2
float_from_bits-result-2 c = rw (no_nan 9218868437227405312 (search rules)) tt

pub returns : goal.returns
unfolding num_of
returns c = rw (a-nan _ c.if-pattern-le9218868437227405312.false)
