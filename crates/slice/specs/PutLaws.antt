-- Laws by which slices are written one after the other.
use Rattle.std.specs.Prelude.{ℕ, suc, ◌+◌, ◌*◌, ◌≡◌, refl, length, set, Float}
use Rattle.std.proofs.Common.{sym, ap, ◌∙◌, mul-add, arith, length-set, length-append}
use mathlib.Core.List.{List, [], ◌∷◌, ◌++◌, flat_map, map-append}
use Rattle.std.proofs.lemmas.List.{length-map}
use Rattle.std.proofs.lemmas.List.Edits.{sets}
use Rattle.std.proofs.Math.Seq.{length-sets}
use Rattle.basis.specs.StoreLaws.{sets-append, sets_then}
use Rattle.basis.specs.FlatLaws.{flat_append, flat-length}
use Rattle.outline.specs.Points.{point_numbers, vertex_numbers}
use Rattle.slice.specs.declared.data.Codes.{Codes}
use Rattle.slice.specs.declared.data.Shape.{Shape}
use Rattle.slice.specs.Slice.{code_width, shape_width, Slice, slice_of, code_list, shape_list, codes_of, shape_of, editions_of}
use Rattle.slice.specs.Ready.{Rooms, Placed}

-- ---- one slice

-- two codes and two behind them
pub codes-put : (c : Codes) (l l₁ l₂ : List ℕ) (at : ℕ) → l₁ ≡ sets l at (c.source ∷ c.inverted ∷ []) → l₂ ≡ sets l₁ (at + 2) (c.start ∷ c.offset ∷ []) → l₂ ≡ sets l at (code_list c)
codes-put c l l₁ l₂ at p q = q ∙ ap (λ (m : List ℕ). sets m (at + 2) (c.start ∷ c.offset ∷ [])) p ∙ sets_then l at 2 (c.source ∷ c.inverted ∷ []) (c.start ∷ c.offset ∷ []) refl

-- the updated start, the end bulge, the end point
pub shape-put : (s : Shape) (l l₁ l₂ : List Float) (at : ℕ) → l₁ ≡ sets l at (vertex_numbers s.updated_start)
    → l₂ ≡ sets (set l₁ (at + 3) s.end_bulge) (at + 4) (point_numbers s.end_point) → l₂ ≡ sets l at (shape_list s)
shape-put s l l₁ l₂ at p q =
    let e : at + 4 ≡ suc (at + 3) = omega arith in
    q ∙ rw e refl
    ∙ ap (λ (m : List Float). sets m (at + 3) (s.end_bulge ∷ point_numbers s.end_point)) p
    ∙ sets_then l at 3 (vertex_numbers s.updated_start) (s.end_bulge ∷ point_numbers s.end_point) refl

pub shape-long : (l l₁ l₂ : List Float) (at i j : ℕ) (xs ys : List Float) (b : Float) → l₁ ≡ sets l at xs → l₂ ≡ sets (set l₁ i b) j ys → length l₂ ≡ length l
shape-long l l₁ l₂ at i j xs ys b p q = ap length q ∙ length-sets (set l₁ i b) j ys ∙ length-set l₁ i b ∙ ap length p ∙ length-sets l at xs

-- ---- slices

pub codes-length : (xs : List Slice) → length (flat_map codes_of xs) ≡ code_width * length xs
codes-length = flat-length codes_of code_width (λ s. refl)

pub shapes-length : (xs : List Slice) → length (flat_map shape_of xs) ≡ shape_width * length xs
shapes-length = flat-length shape_of shape_width (λ s. refl)

pub placed-none : (l : Rooms) (m : ℕ) → Placed [] l m m l
unfolding flat_map
placed-none l m = record { counted = omega arith; at = refl; shape = refl; edition = refl }

pub placed_one : (c : Codes) (s : Shape) (e : ℕ) (l l' : Rooms) (n : ℕ) → l'.at ≡ sets l.at (code_width * n) (code_list c)
    → l'.shape ≡ sets l.shape (shape_width * n) (shape_list s) → l'.edition ≡ set l.edition n e → Placed (slice_of c s e ∷ []) l n (n + 1) l'
unfolding flat_map
placed_one c s e l l' n p q r = record { counted = refl; at = p; shape = q; edition = r }

-- some slices, and others behind them
run-then : {A : Type 0} (w : ℕ) (f : Slice → List A) (wide : (xs : List Slice) → length (flat_map f xs) ≡ w * length xs) (xs ys : List Slice) (l l' l'' : List A) (m k : ℕ)
    → k ≡ m + length xs → l' ≡ sets l (w * m) (flat_map f xs) → l'' ≡ sets l' (w * k) (flat_map f ys) → l'' ≡ sets l (w * m) (flat_map f (xs ++ ys))
run-then {A} w f wide xs ys l l' l'' m k n p q =
    let e : w * k ≡ w * m + length (flat_map f xs) = rw (n, mul-add w, wide xs) in
    q ∙ rw (e, p, ← sets-append l (w * m) (flat_map f xs) (flat_map f ys), ← flat_append f xs ys)

editions-then : (xs ys : List Slice) (l l' l'' : List ℕ) (m k : ℕ) → k ≡ m + length xs → l' ≡ sets l m (editions_of xs) → l'' ≡ sets l' k (editions_of ys)
    → l'' ≡ sets l m (editions_of (xs ++ ys))
editions-then xs ys l l' l'' m k n p q =
    let e : k ≡ m + length (editions_of xs) = rw length-map n in
    q ∙ rw (e, p, ← sets-append l m (editions_of xs) (editions_of ys)) (ap (sets l m) (sym (map-append (λ s. s.edition) xs ys)))

pub placed-then : (xs ys : List Slice) (l l' l'' : Rooms) (m k r : ℕ) → Placed xs l m k l' → Placed ys l' k r l'' → Placed (xs ++ ys) l m r l''
placed-then xs ys l l' l'' m k r a b =
    record {
      counted = rw length-append (omega (arith, a.counted, b.counted));
      at = run-then code_width codes_of codes-length xs ys l.at l'.at l''.at m k a.counted a.at b.at;
      shape = run-then shape_width shape_of shapes-length xs ys l.shape l'.shape l''.shape m k a.counted a.shape b.shape;
      edition = editions-then xs ys l.edition l'.edition l''.edition m k a.counted a.edition b.edition;
    }

-- the lists are as long as before
pub placed_at : (xs : List Slice) (l l' : Rooms) (m k : ℕ) → Placed xs l m k l' → length l'.at ≡ length l.at
placed_at xs l l' m k p = ap length p.at ∙ length-sets l.at (code_width * m) (flat_map codes_of xs)

pub placed-shape : (xs : List Slice) (l l' : Rooms) (m k : ℕ) → Placed xs l m k l' → length l'.shape ≡ length l.shape
placed-shape xs l l' m k p = ap length p.shape ∙ length-sets l.shape (shape_width * m) (flat_map shape_of xs)

pub placed-edition : (xs : List Slice) (l l' : Rooms) (m k : ℕ) → Placed xs l m k l' → length l'.edition ≡ length l.edition
placed-edition xs l l' m k p = ap length p.edition ∙ length-sets l.edition m (editions_of xs)

pub ruleset putting = (codes-put, shape-put, shape-long, placed_one)
