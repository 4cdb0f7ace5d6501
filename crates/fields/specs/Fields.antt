-- Document 02, K1: "Little endian". A shape is a list of field widths in bytes; its fields stand one after another.
use Rattle.std.specs.Prelude.{ℕ, zero, suc, ◌+◌, ◌*◌, ◌%◌, ◌/◌, cond, List, [], ◌∷◌, ◌++◌, get_or, drop, Float}
use Rattle.std.specs.Float.{binary64}
use Rattle.std.specs.Float.Ieee.{nan_bits, of_bits, to_bits}

-- the bytes of a shape
unfoldable pub size : List ℕ → ℕ
size [] = 0
size (w ∷ ws) = w + size ws

-- a value's w bytes, the lowest first
unfoldable pub bytes_of : ℕ → ℕ → List ℕ
bytes_of zero v = []
bytes_of (suc w) v = v % 256 ∷ bytes_of w (v / 256)

-- the value of the first w bytes
unfoldable pub value_of : ℕ → List ℕ → ℕ
value_of zero b = 0
value_of (suc w) b = get_or b 0 0 + 256 * value_of w (drop 1 b)

-- what is written for the values of a shape's fields
unfoldable pub pack : List ℕ → List ℕ → List ℕ
pack [] vs = []
pack (w ∷ ws) [] = []
pack (w ∷ ws) (v ∷ vs) = bytes_of w v ++ pack ws vs

-- the values of the fields that stand at the front of b
unfoldable pub unpack : List ℕ → List ℕ → List ℕ
unpack [] b = []
unpack (w ∷ ws) b = value_of w b ∷ unpack ws (drop w b)

-- n rows of one shape, which are a shape again
unfoldable pub rows : ℕ → List ℕ → List ℕ
rows zero ws = []
rows (suc n) ws = ws ++ rows n ws

-- ---- numbers

abbrev pub infinity : Float
infinity = of_bits binary64 0x7ff0_0000_0000_0000

-- the f64 of a bit pattern. Every pattern of a NaN reads as +infinity, which is refused by the same numbers, 4 and 5
unfoldable pub num_of : ℕ → Float
num_of w = cond (nan_bits binary64 w) infinity (of_bits binary64 w)

abbrev pub bits_of : Float → ℕ
bits_of x = to_bits binary64 x
