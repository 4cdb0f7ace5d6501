use Prim.Native.Nat.{ℕ, ◌*◌, ◌/◌, ◌≤◌, ◌<◌}
use mathlib.Core.Path.{◌≡◌, sym, ◌∙◌}
use native.Mathlib.Omega.{arith}
use lib.Dec.{ltb}
use borrow.Author.Tests.{ltb-true, ltb-false, lt-ltb, le-ltb}
use Rattle.basis.specs.Choice.{by-test}

-- room by thirds, as the code asks
pub third : (room need r : ℕ) → r ≡ need → ltb (room / 3) r ≡ ltb room (3 * need)
third room need r e =
    by-test (ltb room (3 * need)) (λ t. let h : room < 3 * need = ltb-true room (3 * need) t in lt-ltb (room / 3) r (omega arith) ∙ sym t)
    (λ f. let h : 3 * need ≤ room = ltb-false room (3 * need) f in le-ltb (room / 3) r (omega arith) ∙ sym f)
