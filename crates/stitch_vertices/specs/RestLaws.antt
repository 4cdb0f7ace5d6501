-- A chain and the room around it: its last vertex, its numbers, and the rest of a room that is lent on.
use Prim.Native.Nat.{ℕ, zero, suc, ◌+◌, ◌-◌, ◌*◌, ◌≤◌, ◌<◌}
use Rattle.std.specs.Prelude.{◌≡◌, length, take, drop, Float}
use Rattle.std.proofs.Math.Path.{refl, ap}
use Rattle.std.proofs.Common.{◌∙◌, length-drop, drop_of_length-le, take_at, drop_at, take_all, length-take-le}
use mathlib.Core.List.{List, ◌∷◌, ◌++◌, append_assoc, append-nil, flat_map, reverse, reverse-cons}
use native.Mathlib.Omega.{arith}
use Rattle.std.proofs.Math.Seq.{take-suc}
use Rattle.std.specs.Float.Ieee.{nan}
use Rattle.basis.specs.FlatLaws.{flat-snoc}
use Rattle.outline.specs.declared.point.Vertex.{Vertex}
use Rattle.outline.specs.Points.{vertex_numbers}
use Rattle.outline.specs.Outline.{vertex_at}
use Rattle.stitch_vertices.specs.Vertices.{drop_last}
use Rattle.stitch_vertices.specs.Held.{chain_of}

module _ (room : List Float) where
  pub chain_length : (n : ℕ) → length (chain_of room n) ≡ n
  unfolding chain_of
  chain_length zero = refl
  chain_length (suc n) = ap suc (chain_length n)

  -- one vertex fewer
  pub chain-less : (n : ℕ) → 0 < n → chain_of room (n - 1) ≡ drop_last (chain_of room n)
  unfolding chain_of drop_last
  chain-less zero h = absurd (omega arith)
  chain-less (suc n) h = let e : suc n - 1 ≡ n = omega arith in rw e

  -- the chain's last vertex is its head
  pub chain-last : (n : ℕ) (v : Vertex) → 0 < n → v ≡ vertex_at room (n - 1) → chain_of room n ≡ v ∷ chain_of room (n - 1)
  unfolding chain_of
  chain-last zero v h e = absurd (omega arith)
  chain-last (suc n) v h e = let q : suc n - 1 ≡ n = omega arith in rw (e, q)

  -- the room's front holds the numbers of the chain's vertices, from its first to its last
  pub chain-numbers : (n : ℕ) → 3 * n ≤ length room → take (3 * n) room ≡ flat_map vertex_numbers (reverse (chain_of room n))
  unfolding chain_of flat_map vertex_at
  chain-numbers zero h = refl
  chain-numbers (suc n) h =
      let e : 3 * suc n ≡ suc (suc (suc (3 * n))) = omega arith in
      let p : suc (3 * n) ≡ 3 * n + 1 = omega arith in
      let q : suc (suc (3 * n)) ≡ 3 * n + 2 = omega arith in
      rw e
      (take-suc room (suc (suc (3 * n))) nan (omega arith)
      ∙ rw (take-suc room (suc (3 * n)) nan (omega arith), take-suc room (3 * n) nan (omega arith), chain-numbers n (omega arith), q, p, reverse-cons) (simp (append_assoc, flat-snoc)))

-- ---- the rest of a list, from a on, is lent, and comes back as ys

module _ {A : Type 0} (a : ℕ) (l : List A) (fits : a ≤ length l) where
  pub rest-lent : take (length l - a) (drop a l) ≡ drop a l
  rest-lent = take_all (length l - a) (drop a l) (rw (length-drop a l) (omega arith))

  module _ (ys : List A) where
    back : ys ++ drop (length l - a) (drop a l) ≡ ys
    back =
        let j : length (drop a l) ≤ length l - a = rw (length-drop a l) (omega arith) in
        rw (drop_of_length-le (drop a l) j) (append-nil ys)

    pub rest-front : take a (take a l ++ (ys ++ drop (length l - a) (drop a l))) ≡ take a l
    rest-front = take_at (take a l) _ a (length-take-le a l fits)

    pub rest_back : drop a (take a l ++ (ys ++ drop (length l - a) (drop a l))) ≡ ys
    rest_back = drop_at (take a l) _ a (length-take-le a l fits) ∙ back
