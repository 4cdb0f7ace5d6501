-- Elements copied, each as a function gives it, one store in each pass; and a part of a list overwritten by a part of another.
use Prim.Native.Nat.{ℕ, suc, ◌+◌, ◌-◌, ◌≤◌, ◌<◌}
use mathlib.Core.Path.{◌≡◌, refl, sym, ap, ◌∙◌}
use mathlib.Core.List.{List, [], ◌∷◌, ◌++◌, map, append_assoc}
use native.Mathlib.Omega.{arith}
use native.Mathlib.Numerals.{add-one}
use lib.ListN.{length, get_or, set, take, drop, length-drop}
use lib.Seq.{take-suc, drop-drop, get_or-drop, length-take-le, sets, length-sets}
use borrow.Rule.Slice.PartMut.{put_mid}
use Rattle.std.specs.Prelude.{Float, slice_get, Some}
use Rattle.std.specs.Float.{nan}
use Rattle.std.proofs.lemmas.List.Edits.{sets-eq}
use Rattle.std.proofs.lemmas.Option.{slice_get_within, get_or_from_slice_get}
use Rattle.basis.specs.StoreLaws.{sets-append}
use Rattle.fields.specs.Ready.{CopyAt, Each, each-none, each-one, CopiedBy, NoNan, Number}

each-length : {A B : Type 0} {R : A → B → Type 0} {xs : List A} {ys : List B} → Each R xs ys → length ys ≡ length xs
each-length each-none = refl
each-length (each-one r e) = ap suc (each-length e)

each-last : {A B : Type 0} {R : A → B → Type 0} {xs : List A} {ys : List B} {x : A} {y : B} → Each R xs ys → R x y → Each R (xs ++ (x ∷ [])) (ys ++ (y ∷ []))
each-last each-none r = each-one r each-none
each-last (each-one q e) r = each-one q (each-last e r)

-- where R is a function g
pub each-map : {A B : Type 0} (g : A → B) {xs : List A} {ys : List B} → Each (λ x y. y ≡ g x) xs ys → ys ≡ map g xs
each-map g each-none = refl
each-map g (each-one {x} {y} {xs} {ys} r e) = λ i. r i ∷ each-map g e i

pub record Copying {A B : Type 0} (R : A → B → Type 0) (src : List A) (from per : ℕ) (l : List B) (to : ℕ) (l' : List B) (j : ℕ) : Type 0 where
  pub within : j ≤ per
  pub long : length l' ≡ length l
  pub done : CopiedBy R src from j l to l'

pub copying-none : {A B : Type 0} (R : A → B → Type 0) (src : List A) (from per : ℕ) (l : List B) (to : ℕ) → Copying R src from per l to l 0
copying-none R src from per l to = record { within = omega arith; long = refl; done = record { items = []; each = each-none; state = refl } }

pub copying-more : {A B : Type 0} {R : A → B → Type 0} {src : List A} {from per : ℕ} {l : List B} {to : ℕ} {l' : List B} {j : ℕ} (x : A) (y : B)
    → CopyAt (length src) from per (length l) to → Copying R src from per l to l' j → j < per → x ≡ get_or src (from + j) x → R x y
    → Copying R src from per l to (set l' (to + j) y) (j + 1)
copying-more {A} {B} {R} {src} {from} {per} {l} {to} {l'} {j} x y ready c h e r =
    let ys = c.done.items in
    let k : j < length (drop from src) = rw length-drop (omega (arith, ready.source)) in
    let t : take (j + 1) (drop from src) ≡ take j (drop from src) ++ (x ∷ []) =
    rw add-one (take-suc (drop from src) j x k ∙ ap (λ (a : A). take j (drop from src) ++ (a ∷ [])) (get_or-drop from src j x ∙ sym e)) in
    let n : length ys ≡ j = each-length c.done.each ∙ length-take-le j (drop from src) (omega arith) in
    let s : sets l to (ys ++ (y ∷ [])) ≡ set l' (to + j) y = sets-append l to ys (y ∷ []) ∙ rw (n, ← c.done.state) in
    record {
      within = omega arith;
      long = ap length (sym s) ∙ length-sets l to (ys ++ (y ∷ []));
      done = record { items = ys ++ (y ∷ []); each = rw t (each-last c.done.each r); state = sym s };
    }

pub copying-end : {A B : Type 0} {R : A → B → Type 0} {src : List A} {from per : ℕ} {l : List B} {to : ℕ} {l' : List B} {j : ℕ}
    → Copying R src from per l to l' j → per ≤ j → CopiedBy R src from per l to l'
copying-end {A} {B} {R} {src} {from} {per} {l} {to} {l'} {j} c h =
    let e : j ≡ per = omega (arith, c.within) in rw e at c.done

pub copied-map : {A B : Type 0} (g : A → B) {src : List A} {from count : ℕ} {l : List B} {to : ℕ} {l' : List B}
    → CopiedBy (λ x y. y ≡ g x) src from count l to l' → l' ≡ sets l to (map g (take count (drop from src)))
copied-map g {l = l} {to = to} c = c.state ∙ ap (sets l to) (each-map g c.each)

-- a part of a list is overwritten by a part of another
pub copied : {A : Type 0} (src l ys : List A) (from count to : ℕ) → CopyAt (length src) from count (length l) to → ys ≡ take (from + count - from) (drop from src)
    → put_mid to (to + count - to) l ys ≡ sets l to (take count (drop from src))
copied src l ys from count to h e =
    let k : from + count - from ≡ count = omega arith in
    let m : to + count - to ≡ count = omega arith in
    let n : length (take count (drop from src)) ≡ count = length-take-le count (drop from src) (rw length-drop (omega (arith, h.source))) in
    let i : to + length (take count (drop from src)) ≤ length l = omega (arith, n, h.target) in
    rw (e, k, m) (sym (sets-eq (take count (drop from src)) l to i ∙ rw n (rw (← drop-drop count to l) (append_assoc (take to l) (take count (drop from src)) (drop count (drop to l))))))

-- no element of such a list is a NaN
pub all-numbers : (s : List Float) → NoNan s → (i : ℕ) (x : Float) → slice_get s i ≡ Some x → Number x
all-numbers s h i x e =
    let k : i < length s = slice_get_within s i x e in
    let f : get_or s i nan ≡ x = get_or_from_slice_get s i x nan e in
    record { number = rw f at (h i k) }
