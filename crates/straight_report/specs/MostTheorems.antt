-- How large the doubled area of an accepted outline can be: 1,024 · 2 · 400,000,000² = 327,680,000,000,000,000,000, above 2^64.
use Rattle.std.specs.Prelude.{ℕ, zero, suc, ◌+◌, ◌≤◌, ◌<◌, refl, List, ltb, ℤ, pos, nat_abs, ◌-ℤ◌}
use Rattle.std.proofs.Common.{arith, add-one, le_refl, ◌∙◌, subst, ltb-true, ltb-false}
use Rattle.basis.specs.Choice.{by-test}
use Rattle.straight.specs.Plane.{spots, cross, area}
use Rattle.straight.specs.Ready.{Outline, spot_at, next, gain}
use Rattle.straight.specs.PartLaws.{Part, part_none, part_end}
use Rattle.straight.specs.SumLaws.{area-more, summed}
use Rattle.straight.specs.WordsLaws.{under, over}

-- what the edges up to i add, one way and the other
record Some (l : List ℤ) (i : ℕ) : Type 0 where
  pub up : ℕ
  pub down : ℕ
  pub sum : Part cross 320000000000000000 l i up down

some_more : {l : List ℤ} {n : ℕ} → Outline l n → (i : ℕ) → i < n → Some l i → Some l (i + 1)
some_more {l} {n} o i h s =
    record { up = s.up + gain (spot_at l i) (spot_at l (next i n)); down = s.down + gain (spot_at l (next i n)) (spot_at l i); sum = area-more o h refl s.sum refl refl }

some : {l : List ℤ} {n : ℕ} → Outline l n → (i : ℕ) → i ≤ n → Some l i
some o zero h = record { up = 0; down = 0; sum = part_none cross 320000000000000000 o }
some {l} o (suc i) h = subst (Some l) (add-one i) (some_more o i h (some o i (omega arith)))

apart-most : (a b m : ℕ) → a ≤ m → b ≤ m → nat_abs (pos a -ℤ pos b) ≤ m
apart-most a b m h k =
    by-test (ltb a b)
    (λ e. omega (arith, (under a b (ltb-true a b e)).0))
    (λ e. omega (arith, (over a b (ltb-false a b e)).0))

pub area-most : {l : List ℤ} {n : ℕ} → Outline l n → nat_abs (area (spots l)) ≤ 327680000000000000000
area-most {l} {n} o =
    let s = some o n (le_refl n) in
    subst (λ (z : ℤ). nat_abs z ≤ 327680000000000000000) (part_end cross 320000000000000000 o s.sum (le_refl n) ∙ summed l)
    (apart-most s.up s.down 327680000000000000000 (omega (arith, s.sum.up-most, o.most)) (omega (arith, s.sum.down-most, o.most)))
