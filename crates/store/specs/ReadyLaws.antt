-- Laws of what the functions over marks require and ensure, for the crates above too: flags, and items put down in front.
use Rattle.std.specs.Prelude.{ℕ, suc, ◌+◌, ◌-◌, ◌≤◌, ◌<◌, true, false, ◌≡◌, refl, get_or, set, replicate}
use Rattle.std.proofs.Common.{sym, ◌∙◌, add-one, length-append, take_at, drop-cons, ne_eqb}
use mathlib.Core.List.{List, [], ◌∷◌, ◌++◌, append-nil, append_assoc}
use native.Mathlib.Omega.{arith}
use Rattle.std.proofs.Math.ListN.{length, take, drop, drop_of_length-le}
use Rattle.std.proofs.lemmas.List.{set_at}
use Rattle.basis.specs.Room.{cleared}
use Rattle.store.specs.Marks.{filled}
use Rattle.store.specs.Ready.{told, Front}

-- ---- flags

pub told_none : (x : ℕ) → x ≡ 0 → told x ≡ false
unfolding told
told_none x e = rw e

pub told-some : (x : ℕ) → (x ≡ 0 → ⊥) → told x ≡ true
unfolding told
told-some x n = rw (ne_eqb x 0 n)

-- ---- items put down in front, one a turn

module _ {A : Type 0} (entry : List A) where
  pub front-none : Front [] entry entry 0
  front-none = record { count = refl; is = refl }

  pub front-more : (items l : List A) (k : ℕ) (v : A) → Front items entry l k → k < length entry → Front (items ++ (v ∷ [])) entry (set l k v) (k + 1)
  front-more items l k v f h =
      let d : drop k entry ≡ get_or entry k v ∷ drop (suc k) entry = drop-cons entry k v h in
      record {
        count = length-append items (v ∷ []) ∙ rw f.count;
        is = rw (f.is, d, add-one k) (set_at items (get_or entry k v) (drop (suc k) entry) v k f.count ∙ sym (append_assoc items (v ∷ []) (drop (suc k) entry)));
      }

  -- and zeros behind them
  pub front-filled : (none : A) (items l l' : List A) (k b : ℕ) → Front items entry l k → length l ≡ length entry → k ≤ length entry → b ≡ length l → l' ≡ cleared none k b l
      → l' ≡ filled none (length entry) items
  unfolding cleared filled
  front-filled none items l l' k b f n h c e =
      let t : take k l ≡ items = rw f.is (take_at items (drop k entry) k f.count) in
      let d : drop b l ≡ [] = drop_of_length-le l (let q : length l ≤ b = omega arith in q) in
      let g : b ≡ length entry = omega arith in
      e ∙ rw (t, d, append-nil (replicate (b - k) none), f.count, g)
