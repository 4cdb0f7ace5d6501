-- A loop that writes item after item into lent room, each of w elements.
use Prim.Native.Nat.{ℕ, zero, suc, ◌+◌, ◌*◌, ◌≤◌}
use Rattle.std.specs.Prelude.{◌≡◌, refl, get_or}
use Rattle.std.proofs.Math.Path.{sym, ap}
use Rattle.std.proofs.Common.{◌∙◌, mul-suc, mul-zero, arith, take-suc, take_all}
use mathlib.Core.List.{List, ◌++◌, flat_map}
use Rattle.std.proofs.Math.Nat.{sub_self}
use Rattle.std.proofs.Math.Numerals.{add-one}
use Rattle.std.proofs.Math.ListN.{length, take, drop, length-append}
use Rattle.std.proofs.Math.Seq.{sets, sets-eq, length-sets, take_at, drop-append-add, drop-drop}
use Rattle.basis.specs.FlatLaws.{flat-snoc}
use Rattle.basis.specs.Items.{first_items}
use Rattle.basis.specs.Room.{room_of}

-- i items are written, and nothing beyond them
pub record Filling {A : Type 0} (f : ℕ → List A) (w : ℕ) (entry room : List A) (i : ℕ) : Type 0 where
  pub long : length room ≡ length entry
  pub done : room ≡ first_items f i ++ drop (w * i) entry

module _ {A : Type 0} (f : ℕ → List A) (w : ℕ) (wide : (n : ℕ) → length (f n) ≡ w) where
  pub items-length : (n : ℕ) → length (first_items f n) ≡ w * n
  unfolding first_items
  items-length zero = sym (mul-zero w)
  items-length (suc n) = length-append (first_items f n) (f n) ∙ rw (items-length n, wide n, mul-suc)

  module _ (entry : List A) where
    pub fill_none : Filling f w entry entry 0
    unfolding first_items
    fill_none = record { long = refl; done = rw (mul-zero w) }

    pub fill_more : (room room' : List A) (i : ℕ) → Filling f w entry room i → w * i + w ≤ length entry → room' ≡ sets room (w * i) (f i) → Filling f w entry room' (i + 1)
    unfolding first_items
    fill_more room room' i s fits e =
        let xs = first_items f i in
        let k : length xs ≡ w * i = items-length i in
        let t : take (w * i) room ≡ xs = ap (take (w * i)) s.done ∙ take_at xs (drop (w * i) entry) (w * i) k in
        let d : drop (w * i + w) room ≡ drop (w * i + w) entry =
        ap (drop (w * i + w)) s.done ∙ ap (λ (m : ℕ). drop (m + w) (xs ++ drop (w * i) entry)) (sym k) ∙ drop-append-add xs (drop (w * i) entry) w ∙ drop-drop w (w * i) entry in
        let b : w * i + length (f i) ≤ length room = rw (wide i, s.long) fits in
        let m : w * (i + 1) ≡ w * i + w = rw (add-one i, mul-suc) (omega arith) in
        let q : sets room (w * i) (f i) ≡ xs ++ f i ++ drop (w * i + w) entry = sets-eq (f i) room (w * i) b ∙ rw (wide i, t, d) in
        record { long = ap length e ∙ length-sets room (w * i) (f i) ∙ s.long; done = e ∙ q ∙ rw (m, add-one i) }

    -- at the end the room holds the items, by the room rule: the need is their number
    pub fill_end : (z : A) (room : List A) (i n : ℕ) → Filling f w entry room i → i ≡ n → room ≡ room_of z w n (first_items f n) entry
    unfolding room_of
    fill_end z room i n s e = s.done ∙ rw (e, items-length n, sub_self (w * n))

-- one item for each element of a list: taken by number, or along the list, they are the same
pub items-listed : {A B : Type 0} (f : B → List A) (l : List B) (d : B) (n : ℕ) → length l ≡ n → first_items (λ i. f (get_or l i d)) n ≡ flat_map f l
unfolding first_items flat_map
items-listed f l d n e = go n (omega arith) ∙ ap (flat_map f) (take_all n l (omega arith))
  where
    go : (m : ℕ) → m ≤ length l → first_items (λ i. f (get_or l i d)) m ≡ flat_map f (take m l)
    go zero h = refl
    go (suc m) h = rw (go m (omega arith), take-suc l m d (omega arith)) (sym (flat-snoc f (take m l) (get_or l m d)))
