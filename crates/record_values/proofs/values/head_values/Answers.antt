use borrow.Author.Rules.{rules}
use Prim.Native.Nat.{ℕ}
use mathlib.Core.Path.{◌≡◌}
use mathlib.Core.List.{[], ◌∷◌}
use Rattle.fields.specs.Fields.{bits_of}
use Rattle.record.specs.declared.head.Head.{Head}
use Rattle.record.specs.Record.{head_values}
use Rattle.record_values.proofs.values.head_values.Goals as goal

told : (n : ℕ) (h : Head) (x y : ℕ) → x ≡ bits_of h.plan.tolerance.x → y ≡ bits_of h.plan.tolerance.y
    → (80 ∷ 66 ∷ 82 ∷ n ∷ h.plan.vc1 ∷ h.plan.vc2 ∷ h.plan.selector ∷ x ∷ y
    ∷ h.edition1 ∷ h.edition2 ∷ h.plan.starts.pline2 ∷ h.plan.starts.pline1_overlapping ∷ h.plan.starts.pline2_overlapping ∷ h.plan.slices ∷ []) ≡ head_values n h
told n h x y e f = rw (e, f)

pub returns : goal.returns
returns c = search (rules, told)
