-- A refusal by its number, there and back.
use Rattle.std.specs.Prelude.{ℕ, cond, ◌≡◌, refl, eqb, Result, Ok, Err}
use Rattle.std.proofs.Common.{sym, ap, ◌∙◌}
use Rattle.basis.specs.declared.refuse.Refusal.{Refusal}
use Rattle.basis.specs.declared.refuse.Refusal.TheVariants.{Mark, Version, Size, Length, Outline, Code, UnknownSetting, SettingsFull, Tolerance, Number, Range, Loops, Index, Backward, Count, Starts, Edition, Room, Party, Full, Handle}
use Rattle.basis.specs.Refusals.{number_of, found}

-- the refusal of a number
unfoldable pub refusal_of : ℕ → Refusal
refusal_of n =
    cond (eqb n 11) Mark (cond (eqb n 12) Version (cond (eqb n 13) Size (cond (eqb n 1) Length (cond (eqb n 2) Outline (cond (eqb n 3) Code (cond (eqb n 16) UnknownSetting (cond (eqb n 17) SettingsFull (cond (eqb n 4) Tolerance (cond (eqb n 5) Number (cond (eqb n 18) Range (cond (eqb n 19) Loops (cond (eqb n 6) Index (cond (eqb n 15) Backward (cond (eqb n 7) Count (cond (eqb n 8) Starts (cond (eqb n 14) Edition (cond (eqb n 9) Room (cond (eqb n 22) Party (cond (eqb n 20) Full (Handle))))))))))))))))))))

pub numbered-back : (r : Refusal) → refusal_of (number_of r) ≡ r
unfolding refusal_of
numbered-back Mark = refl
numbered-back Version = refl
numbered-back Size = refl
numbered-back Length = refl
numbered-back Outline = refl
numbered-back Code = refl
numbered-back UnknownSetting = refl
numbered-back SettingsFull = refl
numbered-back Tolerance = refl
numbered-back Number = refl
numbered-back Range = refl
numbered-back Loops = refl
numbered-back Index = refl
numbered-back Backward = refl
numbered-back Count = refl
numbered-back Starts = refl
numbered-back Edition = refl
numbered-back Room = refl
numbered-back Party = refl
numbered-back Full = refl
numbered-back Handle = refl

-- two answers with one number are equal, if they are where the number is 0
pub one_refusal : {A : Type 0} (r s : Result A Refusal) (n : ℕ) → found r ≡ n → found s ≡ n → (n ≡ 0 → r ≡ s) → r ≡ s
one_refusal (Ok x) s n e f h = h (sym e)
one_refusal (Err t) (Ok y) n e f h = h (sym f)
one_refusal (Err t) (Err u) n e f h = ap Err (sym (numbered-back t) ∙ ap refusal_of (e ∙ sym f) ∙ numbered-back u)
