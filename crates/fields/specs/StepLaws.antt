-- Rows counted down: k steps of s, from p on, end at m or before. So does the first, and so do the others, from p + s on.
use Rattle.std.specs.Prelude.{ℕ, zero, suc, ◌+◌, ◌-◌, ◌*◌, ◌≤◌, ◌<◌, ◌≡◌}
use Rattle.std.proofs.Common.{arith, suc-mul}
use Rattle.std.proofs.Math.Nat.{mul-le-mul_right}

pub step-inside : (p k s m : ℕ) → 0 < k → p + k * s ≤ m → p + s ≤ m
step-inside p zero s m h i = absurd (omega arith)
step-inside p (suc k) s m h i = omega (arith, rw suc-mul at i)

pub step_left : (p k s m : ℕ) → 0 < k → p + k * s ≤ m → p + s + (k - 1) * s ≤ m
step_left p zero s m h i = absurd (omega arith)
step_left p (suc k) s m h i = let e : suc k - 1 ≡ k = omega arith in rw e (omega (arith, rw suc-mul at i))

-- Rows counted up: k steps of s, from p on, end at m or before. So does step i of them, and the next begins where it ends.
pub row_inside : (p i k s m : ℕ) → i < k → p + k * s ≤ m → p + i * s + s ≤ m
row_inside p i k s m h l = let e : (i + 1) * s ≤ k * s = mul-le-mul_right s (omega arith) in omega arith

pub row_next : (p i s : ℕ) → p + (i + 1) * s ≡ p + i * s + s
row_next p i s = omega arith
