-- The loop of `put`: what is left to write after i bytes, over what is written, is the whole.
use Prim.Native.Nat.{ℕ, suc, ◌+◌, ◌-◌, ◌%◌, ◌/◌, ◌≤◌, ◌<◌}
use mathlib.Core.Path.{◌≡◌, refl, ◌∙◌}
use mathlib.Core.List.{List}
use native.Mathlib.Omega.{arith}
use lib.ListN.{length, set, length-set}
use lib.Seq.{sets}
use Rattle.fields.specs.Fields.{bytes_of}

pub record Putting (l : List ℕ) (at w v : ℕ) (l' : List ℕ) (i x : ℕ) : Type 0 where
  pub state : sets l' (at + i) (bytes_of (w - i) x) ≡ sets l at (bytes_of w v)
  pub inside : at + w ≤ length l
  pub long : length l' ≡ length l

pub putting-none : (l : List ℕ) (at w v : ℕ) → at + w ≤ length l → Putting l at w v l 0 v
putting-none l at w v h =
    let p : at + 0 ≡ at = omega arith in
    let q : w - 0 ≡ w = omega arith in
    record { state = rw (p, q); inside = h; long = refl }

pub putting-more : {l : List ℕ} {at w v : ℕ} {l' : List ℕ} {i x : ℕ} (y : ℕ)
    → Putting l at w v l' i x → i < w → y ≡ x % 256 → Putting l at w v (set l' (at + i) y) (i + 1) (x / 256)
unfolding bytes_of
putting-more {l} {at} {w} {v} {l'} {i} {x} y g h e =
    let k : w - i ≡ suc (w - (i + 1)) = omega arith in
    let p : at + (i + 1) ≡ suc (at + i) = omega arith in
    record {
      state = rw (p, e) (rw k at g.state);
      inside = g.inside;
      long = length-set l' (at + i) y ∙ g.long;
    }

pub putting-end : {l : List ℕ} {at w v : ℕ} {l' : List ℕ} {i x : ℕ} → Putting l at w v l' i x → w ≤ i → l' ≡ sets l at (bytes_of w v)
unfolding bytes_of
putting-end {w = w} {i = i} g h = let e : w - i ≡ 0 = omega arith in rw e at g.state
