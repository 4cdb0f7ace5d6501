-- What marks that were copied to the front of a list make of it.
use mathlib.Core.Path.{◌≡◌, refl, ap, ◌∙◌}
use mathlib.Core.List.{List}
use Prim.Native.Nat.{ℕ, ◌≤◌}
use native.Mathlib.Omega.{arith}
use native.Mathlib.Nat.{zero-add}
use lib.ListN.{length, drop}
use lib.Seq.{paste, length-paste, take-length}
use Rattle.basis.specs.Room.{cleared}
use Rattle.store.specs.Marks.{filled}
use Rattle.store.specs.Ready.{MarksFit, Front}
use Rattle.store.specs.ReadyLaws.{front-filled}

-- a copy from the front to the front
pub pasted-front : {A : Type 0} (src dst l : List A) → l ≡ paste dst 0 (drop 0 src) (length src) → Front src dst l (length src)
pasted-front src dst l e = record { count = refl; is = e ∙ rw (zero-add, take-length) }

pub pasted_length : {A : Type 0} (src dst l : List A) → l ≡ paste dst 0 (drop 0 src) (length src) → length src ≤ length dst → length l ≡ length dst
pasted_length src dst l e k = ap length e ∙ length-paste dst 0 (drop 0 src) (length src) (rw zero-add k) (omega arith)

pub marks-set : (held marks h₁ h₂ : List ℕ) (b : ℕ) → MarksFit held marks → h₁ ≡ paste held 0 (drop 0 marks) (length marks) → b ≡ length h₁ → h₂ ≡ cleared 0 (length marks) b h₁
    → h₂ ≡ filled 0 (length held) marks
marks-set held marks h₁ h₂ b f e c g =
    let p = f.fits in
    front-filled held 0 marks h₁ h₂ (length marks) b (pasted-front marks held h₁ e) (pasted_length marks held h₁ e p) p c g
