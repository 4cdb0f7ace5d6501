-- Laws of one edge: its four numbers, and what it adds.
use Prim.Native.Nat.{ℕ, ◌+◌, ◌*◌}
use mathlib.Core.Path.{◌≡◌, refl, sym}
use mathlib.Core.Bool.{true, false, true≢false}
use mathlib.Core.List.{List}
use native.Mathlib.Nat.{le_refl}
use native.Mathlib.Omega.{arith}
use borrow.Author.Tests.{ltb-false}
use lib.Signed.{lt_z}
use lib.IntN.{ℤ, pos, negsuc, nat_abs, ◌*ℤ◌}
use Rattle.whole.specs.Fit.{Near, NotBelow}
use Rattle.whole.specs.FitLaws.{mul-near}
use Rattle.straight.specs.Ready.{Held, Edge, above}

-- the four numbers of an edge
pub from-x : {l : List ℤ} {i j : ℕ} → Edge l i j → Held l (2 * i)
from-x {l} {i} {j} h = record { inside = omega arith; close = h.close (2 * i) }

pub from-y : {l : List ℤ} {i j : ℕ} → Edge l i j → Held l (2 * i + 1)
from-y {l} {i} {j} h = record { inside = h.from; close = h.close (2 * i + 1) }

pub to-x : {l : List ℤ} {i j : ℕ} → Edge l i j → Held l (2 * j)
to-x {l} {i} {j} h = record { inside = omega arith; close = h.close (2 * j) }

pub to-y : {l : List ℤ} {i j : ℕ} → Edge l i j → Held l (2 * j + 1)
to-y {l} {i} {j} h = record { inside = h.to; close = h.close (2 * j + 1) }

pub twice-near : {m : ℕ} {z : ℤ} → Near m z → Near (2 * m) (pos 2 *ℤ z)
twice-near h = mul-near {a = pos 2} (record { near = le_refl 2 }) h

-- what is above 0
pub above-yes : (z : ℤ) → lt_z (pos 0) z ≡ true → NotBelow z × (nat_abs z ≡ above z)
above-yes (pos n) e = (record { least = refl }, refl)
above-yes (negsuc n) e = absurd (true≢false (sym e))

pub above-no : (z : ℤ) → lt_z (pos 0) z ≡ false → 0 ≡ above z
above-no (pos n) e = omega (arith, ltb-false 0 n e)
above-no (negsuc n) e = refl
