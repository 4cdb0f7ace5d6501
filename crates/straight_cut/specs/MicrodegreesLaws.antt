-- The cases of the code that reads a whole number, and that what it reads is always in K8's range.
use Rattle.std.specs.Prelude.{◌≡◌, ℕ, zero, suc, ◌+◌, ◌*◌, ◌<◌, ◌≤◌, Bool, true, false, cond, ◌&&◌, T, List, [], ◌∷◌, length, ℤ, pos, negsuc, slice_index_or, slice_set, refl, Float}
use Rattle.std.proofs.Common.{zero-le, ◌∙◌, add-one, arith, leb→le, le→leb, lt→ltb, le_trans}
use Rattle.std.proofs.Math.Path.{sym, ap}
use Rattle.std.proofs.lemmas.List.Edits.{sets}
use Rattle.std.specs.Float.Ieee.{nan, binary64, le, lt, eq, of_int, to_signed, in_float}
use Rattle.std.specs.Float.{fin}
use Rattle.basis.specs.Choice.{by-test, and_right}
use Rattle.basis.specs.Room.{room_of}
use Rattle.basis.specs.All.{All, all_both, all-at}
use Rattle.basis.specs.Items.{first_items}
use Rattle.outline.specs.Outline.{vertex_at}
use Rattle.basis.specs.ItemLaws.{Filling, items-length, fill_none, fill_more, fill_end}
use Rattle.whole.specs.Fit.{Near}
use Rattle.straight_entries.specs.Range.{in_reach}
use Rattle.straight_entries.specs.RangeLaws.{reach_near}
use Rattle.straight_cut.specs.Microdegrees.{reach, is_whole, value_of, readable, whole_vertex, wholes_of, WholesFit, WholesRoom}

-- ---- whether it is whole
and_no : (t : Bool) → t && false ≡ false
and_no true = refl
and_no false = refl

and_yes : (t : Bool) → t && true ≡ t
and_yes true = refl
and_yes false = refl

-- an f64 holds each whole number of a mask
pub near-held : (z : ℤ) → Near 400000000 z → T (in_float binary64 z)
unfolding in_float
near-held (pos n) h = le→leb n _ (le_trans h.near (leb→le 400000000 _ tt))
near-held (negsuc n) h = lt→ltb n _ (le_trans h.near (leb→le 400000000 _ tt))

pub near-yes : (z : ℤ) (t : Bool) → t ≡ in_reach 400000000 z → t ≡ true → Near 400000000 z
near-yes z t q o = reach_near 400000000 z (sym q ∙ o)

module _ (x : Float) where
  module _ (z : ℤ) (h : le (fin true 1 (pos 63)) x ≡ true) (k : lt x (fin false 1 (pos 63)) ≡ true) (e : z ≡ to_signed 63 x) where
    near-is : (t : Bool) → t ≡ in_reach 400000000 z → in_reach 400000000 (to_signed 63 x) ≡ t
    near-is t q = ap (in_reach 400000000) (sym e) ∙ sym q

    pub whole-far : (t : Bool) → t ≡ in_reach 400000000 z → t ≡ false → false ≡ is_whole x
    unfolding is_whole reach
    whole-far t q o = sym ((λ i. (h i && k i) && (eq (of_int binary64 (to_signed 63 x)) x && (near-is t q ∙ o) i)) ∙ and_no (eq (of_int binary64 (to_signed 63 x)) x))

    pub whole-near : (t : Bool) → t ≡ in_reach 400000000 z → t ≡ true → (b : Float) → b ≡ of_int binary64 z → eq b x ≡ is_whole x
    unfolding is_whole reach
    whole-near t q o b f =
        (λ i. eq ((f ∙ ap (of_int binary64) e) i) x)
        ∙ sym ((λ i. (h i && k i) && (eq (of_int binary64 (to_signed 63 x)) x && (near-is t q ∙ o) i)) ∙ and_yes (eq (of_int binary64 (to_signed 63 x)) x))

  pub whole_above : le (fin true 1 (pos 63)) x ≡ true → lt x (fin false 1 (pos 63)) ≡ false → false ≡ is_whole x
  unfolding is_whole reach
  whole_above h k = sym (λ i. (h i && k i) && (eq (of_int binary64 (to_signed 63 x)) x && in_reach 400000000 (to_signed 63 x)))

  pub whole_below : le (fin true 1 (pos 63)) x ≡ false → false ≡ is_whole x
  unfolding is_whole reach
  whole_below h = sym (λ i. (h i && lt x (fin false 1 (pos 63))) && (eq (of_int binary64 (to_signed 63 x)) x && in_reach 400000000 (to_signed 63 x)))

  -- ---- which it is
  module _ (b : Bool) (e : b ≡ is_whole x) where
    pub value-yes : (z : ℤ) → b ≡ true → z ≡ to_signed 63 x → z ≡ value_of x
    unfolding value_of
    value-yes z t q = q ∙ sym (λ i. cond ((sym e ∙ t) i) (to_signed 63 x) (pos 0))

-- the value is within 400,000,000, whatever x is
pub value-near : (x : Float) → Near 400000000 (value_of x)
unfolding value_of is_whole
value-near x =
    by-test (is_whole x)
    (λ e. rw e (reach_near 400000000 (to_signed 63 x) (and_right (eq (of_int binary64 (to_signed 63 x)) x) _ (and_right (reach x) _ e))))
    (λ e. rw e (record { near = zero-le }))

-- ---- an outline, vertex after vertex
pub spot-put : (l m r : List ℤ) (at : ℕ) (x y a b : ℤ) → x ≡ a → y ≡ b → m ≡ slice_set l at x → r ≡ slice_set m (at + 1) y → r ≡ sets l at (a ∷ b ∷ [])
spot-put l m r at x y a b e f p q = rw (q, p, e, f, add-one at)

pub record Wholes (o : List Float) (vc : ℕ) (entry room : List ℤ) (i : ℕ) : Type 0 where
  pub ahead : i ≤ vc
  pub filling : Filling (whole_vertex o) 2 entry room i

module _ (o : List Float) (vc : ℕ) (entry : List ℤ) where
  pub wholes-none : Wholes o vc entry entry 0
  wholes-none = record { ahead = zero-le; filling = fill_none (whole_vertex o) 2 (λ n. refl) entry }

  pub wholes-fit : (room : List ℤ) (i : ℕ) → Wholes o vc entry room i → WholesRoom o vc entry → i < vc → WholesFit o i room (2 * i)
  unfolding vertex_at
  wholes-fit room i w k h =
      let t : length o ≡ 3 * vc = k.whole.triples in
      record {
        there = omega arith;
        x-ok = all-at readable o (3 * i) nan k.all (omega arith);
        y-ok = all-at readable o (3 * i + 1) nan k.all (omega arith);
        fits = omega (arith, w.filling.long, k.fits);
      }

  pub wholes-more : (room room' : List ℤ) (i : ℕ) → Wholes o vc entry room i → WholesRoom o vc entry → i < vc → room' ≡ sets room (2 * i) (whole_vertex o i) → Wholes o vc entry room' (i + 1)
  wholes-more room room' i w k h e = record { ahead = omega arith; filling = fill_more (whole_vertex o) 2 (λ n. refl) entry room room' i w.filling (omega (arith, k.fits)) e }

  pub wholes-end : (room : List ℤ) (i : ℕ) → Wholes o vc entry room i → vc ≤ i → room ≡ room_of (pos 0) 2 vc (wholes_of o vc) entry
  unfolding wholes_of
  wholes-end room i w h = fill_end (whole_vertex o) 2 (λ n. refl) entry (pos 0) room i vc w.filling (omega (arith, w.ahead))

pub ruleset wholes = (wholes-none, wholes-fit, wholes-more, wholes-end)

-- ---- what K8 asks of an outline: two numbers a vertex, each within 400,000,000
pub wholes-length : (o : List Float) (vc : ℕ) → length (wholes_of o vc) ≡ 2 * vc
unfolding wholes_of
wholes-length o vc = items-length (whole_vertex o) 2 (λ n. refl) vc

all_near : (o : List Float) (n : ℕ) → All (Near 400000000) (first_items (whole_vertex o) n)
unfolding first_items
all_near o zero = tt
all_near o (suc n) = all_both (Near 400000000) (first_items (whole_vertex o) n) (whole_vertex o n) (all_near o n) (value-near (vertex_at o n).x, (value-near (vertex_at o n).y, tt))

near-at : (l : List ℤ) (k : ℕ) → All (Near 400000000) l → Near 400000000 (slice_index_or l k (pos 0))
near-at [] k a = record { near = zero-le }
near-at (x ∷ l) zero a = a.0
near-at (x ∷ l) (suc k) a = near-at l k a.1

pub wholes-close : (o : List Float) (vc k : ℕ) → Near 400000000 (slice_index_or (wholes_of o vc) k (pos 0))
unfolding wholes_of
wholes-close o vc k = near-at (first_items (whole_vertex o) vc) k (all_near o vc)
