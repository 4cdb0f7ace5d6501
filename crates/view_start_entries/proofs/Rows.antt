-- Laws by which the refusals are proved: a table in parts, each looked at by a function of its own or as one row.
use Rattle.std.specs.Prelude.{ℕ, Bool, true, false, ◌≡◌, List, [], ◌∷◌, ◌++◌, Result, refl, T}
use Rattle.std.proofs.Common.{sym, ap, ◌∙◌}
use Rattle.basis.specs.declared.refuse.Refusal.{Refusal}
use Rattle.basis.specs.Refusals.{number_of, when, found}
use Rattle.basis.specs.Refuse.{Row, row, first_of}
use Rattle.basis.specs.RefuseLaws.{numbered, clear, first_found, first-later}

-- a number of the first part is the table's
pub part-found : (s t : List Row) (p r : ℕ) → p ≡ first_of s → (p ≡ 0 → ⊥) → r ≡ p → r ≡ first_of (s ++ t)
part-found s t p r e h q = q ∙ e ∙ sym (first_found s t (λ z. h (e ∙ z)))

-- where it has none, the second part's is
pub part-later : (s t : List Row) (p r : ℕ) → T (numbered s) → p ≡ first_of s → p ≡ 0 → r ≡ first_of t → r ≡ first_of (s ++ t)
part-later s t p r h e z q = q ∙ sym (first-later s t (clear s h (sym e ∙ z)))

-- a part of one row
pub one-row : (b c : Bool) (r : Refusal) (w : Result Unit Refusal) → w ≡ when b r → b ≡ c → found w ≡ first_of (row c (number_of r) ∷ [])
unfolding first_of
one-row true c r w q e = ap found q ∙ rw (sym e)
one-row false c r w q e = ap found q ∙ rw (sym e)
