-- An f64 and its bit pattern, there and back.
use Rattle.std.specs.Prelude.{ℕ, ◌^◌, ◌<◌, Bool, true, false, not, cond, ◌≡◌, refl, List, [], ◌∷◌, map, T, Float}
use Rattle.std.proofs.Common.{sym, ap, ◌∙◌}
use Rattle.std.specs.Float.{binary64}
use Rattle.std.specs.Float.Ieee.{nan_bits, of_bits, to_bits, fits, is_nan}
use Rattle.std.specs.Float.Ieee.Bits.{of_bits-to_bits, of_bits-fits, to_bits-of_bits, to_bits-lt, nan_bits_is, is_false}
use Rattle.fields.specs.Fields.{infinity, num_of, bits_of}

-- a number that an f64 holds and that is no NaN
pub record Plain (x : Float) : Type 0 where
  pub held : T (fits binary64 x)
  pub number : T (not (is_nan x))

pub num-bits : (x : Float) → Plain x → num_of (bits_of x) ≡ x
unfolding num_of
num-bits x h =
    let e : of_bits binary64 (to_bits binary64 x) ≡ x = of_bits-to_bits binary64 x h.held in
    let k : nan_bits binary64 (to_bits binary64 x) ≡ false = nan_bits_is binary64 (to_bits binary64 x) ∙ ap is_nan e ∙ is_false (is_nan x) h.number in
    rw k e

pub bits_below : (x : Float) → Plain x → bits_of x < 256 ^ 8
bits_below x h = to_bits-lt binary64 x h.held

-- a pattern of 64 bits that is no NaN's
pub bits-num : (w : ℕ) → w < 256 ^ 8 → nan_bits binary64 w ≡ false → bits_of (num_of w) ≡ w
unfolding num_of
bits-num w h e =
    let k : is_nan (of_bits binary64 w) ≡ false = sym (nan_bits_is binary64 w) ∙ e in
    rw e (to_bits-of_bits binary64 w h (rw k tt))

pub nan-read : (w : ℕ) → nan_bits binary64 w ≡ true → num_of w ≡ infinity
unfolding num_of
nan-read w e = rw e

-- what is read is an f64
pub num-held : (w : ℕ) → T (fits binary64 (num_of w))
unfolding num_of
num-held w = go (nan_bits binary64 w)
  where
    go : (b : Bool) → T (fits binary64 (cond b infinity (of_bits binary64 w)))
    go true = of_bits-fits binary64 0x7ff0_0000_0000_0000
    go false = of_bits-fits binary64 w

pub data AllPlain : List Float → Type 0 where
  plain-none : AllPlain []
  plain-one : {x : Float} {xs : List Float} → Plain x → AllPlain xs → AllPlain (x ∷ xs)

pub nums-bits : {xs : List Float} → AllPlain xs → map num_of (map bits_of xs) ≡ xs
nums-bits plain-none = refl
nums-bits (plain-one {x} {xs} h r) = rw (num-bits x h, nums-bits r)
