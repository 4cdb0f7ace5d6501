-- Laws of what a look at faults found: the number is 0 exactly where the call goes on.
use Prim.Native.Nat.{ℕ, ◌<◌}
use Rattle.std.specs.Prelude.{◌≡◌, Result, Ok, Err, ltb}
use Rattle.std.proofs.Common.{◌∙◌, arith, ltb-true}
use Rattle.std.proofs.Math.Path.{sym, ap}
use Rattle.std.proofs.Math.Dec.{T}
use Rattle.basis.specs.Choice.{true_of}
use Rattle.basis.specs.declared.refuse.Refusal.{Refusal}
use Rattle.basis.specs.declared.refuse.Refusal.TheVariants.{Mark, Version, Size, Length, Outline, Code, UnknownSetting, SettingsFull, Tolerance, Number, Range, Loops, Index, Backward, Count, Starts, Edition, Room, Party, Full, Handle}
use Rattle.basis.specs.Refusals.{number_of, found}

-- no refusal has the number 0, which is acceptance
numbered : (r : Refusal) → T (ltb 0 (number_of r))
numbered Mark = tt
numbered Version = tt
numbered Size = tt
numbered Length = tt
numbered Outline = tt
numbered Code = tt
numbered UnknownSetting = tt
numbered SettingsFull = tt
numbered Tolerance = tt
numbered Number = tt
numbered Range = tt
numbered Loops = tt
numbered Index = tt
numbered Backward = tt
numbered Count = tt
numbered Starts = tt
numbered Edition = tt
numbered Room = tt
numbered Party = tt
numbered Full = tt
numbered Handle = tt

not-zero : (n : ℕ) → T (ltb 0 n) → n ≡ 0 → ⊥
not-zero n h z = let l : 0 < n = ltb-true 0 n (true_of (ltb 0 n) h) in absurd (omega (arith, z, l))

pub number-some : (r : Refusal) → number_of r ≡ 0 → ⊥
number-some r = not-zero (number_of r) (numbered r)

-- a refusal was found, or none was
pub found-some : {A : Type 0} (w : Result A Refusal) (r : Refusal) → w ≡ Err r → found w ≡ 0 → ⊥
found-some w r h z = number-some r (sym (ap found h) ∙ z)

pub found-none : {A : Type 0} (w : Result A Refusal) (x : A) → w ≡ Ok x → found w ≡ 0
found-none w x h = ap found h

pub found-number : {A : Type 0} (w : Result A Refusal) (r : Refusal) → w ≡ Err r → found w ≡ number_of r
found-number w r h = ap found h

-- what `?` hands on is what it was given
pub found-same : {A B : Type 0} (w : Result A Refusal) (q : Result B Refusal) (r : Refusal) → w ≡ Err r → q ≡ Err r → found q ≡ found w
found-same w q r h k = ap found k ∙ sym (ap found h)

pub ruleset looks = (found-some, found-none, found-number, found-same)
