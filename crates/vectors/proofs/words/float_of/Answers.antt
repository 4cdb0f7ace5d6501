use Rattle.std.proofs.Common.{◌≡◌, ℕ, ◌%◌, ◌≤◌, false, ◌∙◌, le-ltb}
use lib.Ieee.{binary64, nan_bits}
use lib.Ieee.Bits.{nan_bits_above}
use Rattle.vectors.proofs.words.float_of.Goals as goal

no_nan : (w : ℕ) → w % 9223372036854775808 ≤ 9218868437227405312 → nan_bits binary64 w ≡ false
no_nan w h = nan_bits_above binary64 w ∙ le-ltb _ _ h

pub float_from_bits-result : goal.float_from_bits-result
float_from_bits-result c = rw (no_nan _ c.if-word-le9218868437227405312.true) tt
