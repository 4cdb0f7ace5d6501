-- What stays place after place is what pruning keeps of the candidates' lists.
use Rattle.std.specs.Prelude.{Option, Some, None}
use Prim.Native.Nat.{ℕ, zero, suc, ◌+◌, ◌*◌, ◌<◌}
use mathlib.Core.Bool.{cond}
use mathlib.Core.Path.{◌≡◌, refl, sym, ap, ◌∙◌}
use mathlib.Core.List.{List, [], ◌∷◌, ◌++◌, flat_map, append-nil}
use native.Mathlib.Nat.{add-zero}
use native.Mathlib.Numerals.{add-one}
use native.Mathlib.Omega.{arith}
use lib.Dec.{eqb}
use lib.ListN.{length, get_or, replicate, length-append, get_or-append, get_or-replicate}
use lib.Seq.{get_or-append-add}
use lib.IntN.{ℤ}
use lib.Ieee.{Float, nan}
use Rattle.outline.specs.declared.point.Vertex.{Vertex}
use Rattle.outline.specs.Points.{vertex_numbers}
use Rattle.outline.specs.Outline.{vertex_at}
use Rattle.view.specs.declared.data.ViewData.{ViewData}
use Rattle.view.specs.View.{view_numbers}
use Rattle.slice.specs.Slice as slice
use Rattle.slice.specs.Slice.{shape_at}
use Rattle.candidate.specs.declared.at_cut.Candidate.{Candidate}
use Rattle.candidate.specs.Candidates.{Given, candidate, candidate_at, kept, candidates_to, candidates_of, numbers_of, shape_of, probe_of}
use Rattle.candidate_write.specs.ItemLaws.{wide-numbers, wide-shapes, wide-probes, flat-more, flat-length}
use Rattle.cut.specs.Cuts as cuts
use Rattle.prune.specs.declared.mode.Part.{Part}
use Rattle.prune.specs.Prune.{Cands, cands, cand_codes, cand_slice, kept_to}
use Rattle.straight_cut.specs.Microdegrees.{wholes_of}
use Rattle.straight_cut.specs.Inside.{inside_of, insides_of}
use Rattle.straight_cut.specs.InsideLaws.{insides-at}
use Rattle.straight_along.specs.Stays.{view_codes, view_shape, stays_of, stays_to}
use Rattle.straight_side.specs.Side.{along_straight, side_count, side_cands}

-- ---- a list with an item behind it: before the seam nothing is new, behind it stands the item
seam : {A : Type 0} (xs ys : List A) (k j i : ℕ) (d : A) → length xs ≡ k → i ≡ k + j → get_or (xs ++ ys) i d ≡ get_or ys j d
seam xs ys k j i d l e = let q : i ≡ length xs + j = omega arith in ap (λ (m : ℕ). get_or (xs ++ ys) m d) q ∙ get_or-append-add xs ys j d

module _ (xs ys : List Float) where
  shape-before : (k : ℕ) → 6 * k + 5 < length xs → shape_at (xs ++ ys) k ≡ shape_at xs k
  unfolding shape_at
  shape-before k h =
      (λ t. record {
        updated_start =
            record {
              x = get_or-append xs ys nan (6 * k) (omega arith) t;
              y = get_or-append xs ys nan (6 * k + 1) (omega arith) t;
              bulge = get_or-append xs ys nan (6 * k + 2) (omega arith) t;
            };
        end_bulge = get_or-append xs ys nan (6 * k + 3) (omega arith) t;
        end_point = record { x = get_or-append xs ys nan (6 * k + 4) (omega arith) t; y = get_or-append xs ys nan (6 * k + 5) (omega arith) t };
      })

  vertex-before : (i : ℕ) → 3 * i + 2 < length xs → vertex_at (xs ++ ys) i ≡ vertex_at xs i
  unfolding vertex_at
  vertex-before i h =
      (λ t. record {
        x = get_or-append xs ys nan (3 * i) (omega arith) t;
        y = get_or-append xs ys nan (3 * i + 1) (omega arith) t;
        bulge = get_or-append xs ys nan (3 * i + 2) (omega arith) t;
      })

  vertex-behind : (n j i : ℕ) (v : Vertex) → length xs ≡ n → 3 * i ≡ n + j → get_or ys j nan ≡ v.x → get_or ys (j + 1) nan ≡ v.y → get_or ys (j + 2) nan ≡ v.bulge → vertex_at (xs ++ ys) i ≡ v
  unfolding vertex_at
  vertex-behind n j i v l e x y z =
      (λ t. record {
        x = (seam xs ys n j (3 * i) nan l e ∙ x) t;
        y = (seam xs ys n (j + 1) (3 * i + 1) nan l (omega arith) ∙ y) t;
        bulge = (seam xs ys n (j + 2) (3 * i + 2) nan l (omega arith) ∙ z) t;
      })

shape_behind : (xs : List Float) (n : ℕ) (v : ViewData) → length xs ≡ 6 * n → shape_at (xs ++ view_numbers v) n ≡ view_shape v
unfolding shape_at
shape_behind xs n v l =
    let ys = view_numbers v in
    (λ t. record {
      updated_start =
          record {
            x = seam xs ys (6 * n) 0 (6 * n) nan l (omega arith) t;
            y = seam xs ys (6 * n) 1 (6 * n + 1) nan l refl t;
            bulge = seam xs ys (6 * n) 2 (6 * n + 2) nan l refl t;
          };
      end_bulge = seam xs ys (6 * n) 3 (6 * n + 3) nan l refl t;
      end_point = record { x = seam xs ys (6 * n) 4 (6 * n + 4) nan l refl t; y = seam xs ys (6 * n) 5 (6 * n + 5) nan l refl t };
    })

-- ---- what is kept of the first n depends on the first n alone
kept_same : (c d : Cands) (part : Part) (n : ℕ) → ((k : ℕ) → k < n → get_or d.inside k 0 ≡ get_or c.inside k 0) → ((k : ℕ) → k < n → cand_slice d part k ≡ cand_slice c part k) → kept_to d part n ≡ kept_to c part n
unfolding kept_to
kept_same c d part zero f g = refl
kept_same c d part (suc n) f g =
    let h = kept_same c d part n (λ k l. f k (omega arith)) (λ k l. g k (omega arith)) in
    let p = f n (omega arith) in
    let q = g n (omega arith) in
    (λ i. h i ++ cond (eqb (p i) part.keep) (q i ∷ []) [])

module _ (other : List ℤ) (edition : ℕ) (part : Part) where
  -- the candidates' lists
  abbrev listed : List ℕ → List Float → List Float → ℕ → Cands
  listed at shape probe n = cands at shape (replicate n edition) (insides_of other probe n)

  -- one candidate more
  module _ (at : List ℕ) (shape probe : List Float) (n : ℕ) (la : length at ≡ 2 * n) (ls : length shape ≡ 6 * n) (lp : length probe ≡ 6 * n) (v : ViewData) (a b : Vertex) where
    abbrev at⁺ : List ℕ
    at⁺ = at ++ (v.start_index ∷ v.end_index_offset ∷ [])

    abbrev shape⁺ : List Float
    shape⁺ = shape ++ view_numbers v

    abbrev probe⁺ : List Float
    probe⁺ = probe ++ (vertex_numbers a ++ vertex_numbers b)

    inside-before : (k : ℕ) → k < n → get_or (insides_of other probe⁺ (suc n)) k 0 ≡ get_or (insides_of other probe n) k 0
    inside-before k h =
        let ys = vertex_numbers a ++ vertex_numbers b in
        let e = vertex-before probe ys (2 * k) (omega arith) in
        let f = vertex-before probe ys (2 * k + 1) (omega arith) in
        insides-at other probe⁺ (suc n) k (omega arith) ∙ (λ i. inside_of other (e i) (f i)) ∙ sym (insides-at other probe n k h)

    inside-behind : get_or (insides_of other probe⁺ (suc n)) n 0 ≡ inside_of other a b
    inside-behind =
        let ys = vertex_numbers a ++ vertex_numbers b in
        let e = vertex-behind probe ys (6 * n) 0 (2 * n) a lp (omega arith) refl refl refl in
        let f = vertex-behind probe ys (6 * n) 3 (2 * n + 1) b lp (omega arith) refl refl refl in
        insides-at other probe⁺ (suc n) n (omega arith) ∙ (λ i. inside_of other (e i) (f i))

    slice-before : (k : ℕ) → k < n → cand_slice (listed at⁺ shape⁺ probe⁺ (suc n)) part k ≡ cand_slice (listed at shape probe n) part k
    unfolding cand_codes
    slice-before k h =
        let ys = v.start_index ∷ v.end_index_offset ∷ [] in
        let e = shape-before shape (view_numbers v) k (omega arith) in
        let f = get_or-replicate (suc n) k edition 0 (omega arith) ∙ sym (get_or-replicate n k edition 0 h) in
        (λ i. record {
          codes =
              record {
                source = part.source;
                inverted = part.inverted;
                start = get_or-append at ys 0 (2 * k) (omega arith) i;
                offset = get_or-append at ys 0 (2 * k + 1) (omega arith) i;
              };
          shape = e i;
          edition = f i;
        })

    slice-behind : cand_slice (listed at⁺ shape⁺ probe⁺ (suc n)) part n ≡ record { codes = view_codes part v; shape = view_shape v; edition = edition }
    unfolding cand_codes
    slice-behind =
        let ys = v.start_index ∷ v.end_index_offset ∷ [] in
        let e = shape_behind shape n v ls in
        let f = get_or-replicate (suc n) n edition 0 (omega arith) in
        (λ i. record {
          codes =
              record {
                source = part.source;
                inverted = part.inverted;
                start = seam at ys (2 * n) 0 (2 * n) 0 la (omega arith) i;
                offset = seam at ys (2 * n) 1 (2 * n + 1) 0 la refl i;
              };
          shape = e i;
          edition = f i;
        })

    kept-one : kept_to (listed at⁺ shape⁺ probe⁺ (suc n)) part (suc n) ≡ kept_to (listed at shape probe n) part n ++ stays_of other edition part (candidate v a b)
    unfolding kept_to stays_of
    kept-one =
        let h = kept_same (listed at shape probe n) (listed at⁺ shape⁺ probe⁺ (suc n)) part n inside-before slice-before in
        (λ i. h i ++ cond (eqb (inside-behind i) part.keep) (slice-behind i ∷ []) [])

  -- one place more, whatever it gives
  kept_next : (at : List ℕ) (shape probe : List Float) (n : ℕ) → length at ≡ 2 * n → length shape ≡ 6 * n → length probe ≡ 6 * n → (c : Option Candidate)
      → kept_to (listed (at ++ numbers_of c) (shape ++ shape_of c) (probe ++ probe_of c) (n + length (kept c))) part (n + length (kept c)) ≡ kept_to (listed at shape probe n) part n ++ stays_of other edition part c
  kept_next at shape probe n la ls lp None =
      unfold stays_of in
      (λ i. kept_to (listed (append-nil at i) (append-nil shape i) (append-nil probe i) (add-zero n i)) part (add-zero n i)) ∙ sym (append-nil (kept_to (listed at shape probe n) part n))
  kept_next at shape probe n la ls lp (Some c) =
      ap (λ (m : ℕ). kept_to (listed (at ++ (c.view.start_index ∷ c.view.end_index_offset ∷ [])) (shape ++ view_numbers c.view) (probe ++ (vertex_numbers c.from ++ vertex_numbers c.to)) m) part m) (add-one n)
      ∙ kept-one at shape probe n la ls lp c.view c.from c.to

  module _ (g : Given) where
    abbrev up_to : ℕ → Cands
    up_to p = listed (flat_map numbers_of (candidates_to g p)) (flat_map shape_of (candidates_to g p)) (flat_map probe_of (candidates_to g p)) (length (candidates_to g p))

    counted : (p : ℕ) → length (candidates_to g (suc p)) ≡ length (candidates_to g p) + length (kept (candidate_at g p))
    unfolding candidates_to
    counted p = length-append (candidates_to g p) (kept (candidate_at g p))

    stays-next : (p : ℕ) → stays_to other edition part g (suc p) ≡ stays_to other edition part g p ++ stays_of other edition part (candidate_at g p)
    unfolding stays_to
    stays-next p = refl

    kept-places : (p : ℕ) → kept_to (up_to p) part (length (candidates_to g p)) ≡ stays_to other edition part g p
    kept-places zero = unfold candidates_to kept_to stays_to in refl
    kept-places (suc p) =
        let c = candidate_at g p in
        let x = flat-more 2 numbers_of wide-numbers g p in
        let y = flat-more 6 shape_of wide-shapes g p in
        let z = flat-more 6 probe_of wide-probes g p in
        let n = counted p in
        let next =
        kept_next (flat_map numbers_of (candidates_to g p)) (flat_map shape_of (candidates_to g p)) (flat_map probe_of (candidates_to g p)) (length (candidates_to g p)) (flat-length 2 numbers_of wide-numbers g p)
        (flat-length 6 shape_of wide-shapes g p) (flat-length 6 probe_of wide-probes g p) c in
        (λ i. kept_to (listed (x i) (y i) (z i) (n i)) part (n i)) ∙ next ∙ ap (λ (l : List slice.Slice). l ++ stays_of other edition part c) (kept-places p) ∙ sym (stays-next p)

-- ---- of one outline
pub stays-kept : (g : cuts.Given) (other : List Float) (vc edition : ℕ) (part : Part)
    → stays_to (wholes_of other vc) edition part (along_straight g) (along_straight g).count ≡ kept_to (side_cands g other vc edition) part (side_count g)
unfolding side_cands candidates_of
stays-kept g other vc edition part = sym (kept-places (wholes_of other vc) edition part (along_straight g) (along_straight g).count)
