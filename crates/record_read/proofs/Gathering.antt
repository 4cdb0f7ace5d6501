-- A column gathered, element by element, each as R says.
use Prim.Native.Nat.{ℕ, zero, suc, ◌+◌, ◌-◌, ◌*◌, ◌≤◌, ◌<◌}
use mathlib.Core.Path.{◌≡◌, refl, sym, ap, subst, ◌∙◌}
use mathlib.Core.List.{List, [], ◌∷◌, ◌++◌, map, map-id, append_assoc, append-nil}
use native.Mathlib.Omega.{arith}
use native.Mathlib.Numerals.{add-one}
use native.Mathlib.Nat.{suc-mul}
use lib.ListN.{length, get_or, set, take, drop, length-append, length-drop}
use lib.Seq.{take-suc, drop-drop, get_or-drop, length-take-le, take-length, sets, length-sets}
use Rattle.basis.specs.StoreLaws.{sets-append}
use Rattle.fields.specs.Ready.{Each, each-none, each-one}
use Rattle.fields.specs.StepLaws.{row_inside}
use Rattle.record_form.specs.Form.{column, common_width, entry_width}
use Rattle.record.specs.RecordLaws.{length-column}
use Rattle.record_read.specs.Ready.{ColumnFit, DateFit, Short, GatheredBy}

each-length : {A B : Type 0} {R : A → B → Type 0} {xs : List A} {ys : List B} → Each R xs ys → length ys ≡ length xs
each-length each-none = refl
each-length (each-one r e) = ap suc (each-length e)

each-last : {A B : Type 0} {R : A → B → Type 0} {xs : List A} {ys : List B} {x : A} {y : B} → Each R xs ys → R x y → Each R (xs ++ (x ∷ [])) (ys ++ (y ∷ []))
each-last each-none r = each-one r each-none
each-last (each-one q e) r = each-one q (each-last e r)

-- where R is a function g
each-map : {A B : Type 0} (g : A → B) {xs : List A} {ys : List B} → Each (λ x y. y ≡ g x) xs ys → ys ≡ map g xs
each-map g each-none = refl
each-map g (each-one {x} {y} {xs} {ys} r e) = λ i. r i ∷ each-map g e i

-- a column of one row more
column-more : {A : Type 0} (stride offset per n : ℕ) (vs : List A)
    → column stride offset per (suc n) vs ≡ column stride offset per n vs ++ take per (drop (n * stride + offset) vs)
unfolding column
column-more stride offset per zero vs = let e : 0 * stride + offset ≡ offset = omega arith in rw e (append-nil (take per (drop offset vs)))
column-more stride offset per (suc n) vs =
    let e : stride + (n * stride + offset) ≡ suc n * stride + offset = omega (arith, suc-mul n stride) in
    let d : drop (n * stride + offset) (drop stride vs) ≡ drop (suc n * stride + offset) vs = drop-drop (n * stride + offset) stride vs ∙ ap (λ (k : ℕ). drop k vs) e in
    ap (λ x. take per (drop offset vs) ++ x) (column-more stride offset per n (drop stride vs) ∙ ap (λ x. column stride offset per n (drop stride vs) ++ take per x) d)
    ∙ sym (append_assoc (take per (drop offset vs)) (column stride offset per n (drop stride vs)) (take per (drop (suc n * stride + offset) vs)))

-- all of `row` rows are done, and j elements of the next
pub record Gathering {B : Type 0} (R : ℕ → B → Type 0) (vs : List ℕ) (offset per : ℕ) (l l' : List B) (row j : ℕ) : Type 0 where
  pub within : j ≤ per
  pub long : length l' ≡ length l
  pub items : List B
  pub each : Each R (column entry_width offset per row vs ++ take j (drop (row * entry_width + offset) vs)) items
  pub state : l' ≡ sets l 0 items

pub gathering-none : {B : Type 0} (R : ℕ → B → Type 0) (vs : List ℕ) (offset per : ℕ) (l : List B) → Gathering R vs offset per l l 0 0
unfolding column
gathering-none R vs offset per l = record { within = omega arith; long = refl; items = []; each = each-none; state = refl }

module _ {m n offset per count : ℕ} (fit : ColumnFit m 0 entry_width offset per count n) {i j : ℕ} (h : i < count) (k : j < per) where
  pub place : i * entry_width + offset + j < m
  place = omega (arith, row_inside 0 i count entry_width m h fit.inside, fit.part)

  pub target : i * per + j < n
  target = let all : 0 + count * per ≤ n = omega (arith, fit.target) in omega (arith, row_inside 0 i count per n h all)

pub gathering-more : {B : Type 0} {R : ℕ → B → Type 0} {vs : List ℕ} {offset per count : ℕ} {l l' : List B} {i j : ℕ} (y : B)
    → ColumnFit (length vs) 0 entry_width offset per count (length l) → Gathering R vs offset per l l' i j → i < count → j < per
    → R (get_or vs (i * entry_width + offset + j) 0) y → Gathering R vs offset per l (set l' (i * per + j) y) i (j + 1)
gathering-more {B} {R} {vs} {offset} {per} {count} {l} {l'} {i} {j} y fit c h k r =
    let at = i * entry_width + offset in
    let x = get_or vs (at + j) 0 in
    let C = column entry_width offset per i vs in
    let ys = c.items in
    let there = place fit h k in
    let inside : i * entry_width ≤ length vs = omega arith in
    let d : j < length (drop at vs) = rw length-drop (omega arith) in
    let t : take (j + 1) (drop at vs) ≡ take j (drop at vs) ++ (x ∷ []) =
    ap (λ (k : ℕ). take k (drop at vs)) (add-one j) ∙ take-suc (drop at vs) j 0 d ∙ ap (λ (a : ℕ). take j (drop at vs) ++ (a ∷ [])) (get_or-drop at vs j 0) in
    let more : C ++ take (j + 1) (drop at vs) ≡ (C ++ take j (drop at vs)) ++ (x ∷ []) =
    ap (λ (z : List ℕ). C ++ z) t ∙ sym (append_assoc C (take j (drop at vs)) (x ∷ [])) in
    let size : length ys ≡ i * per + j =
    each-length c.each ∙ length-append C (take j (drop at vs))
    ∙ omega (arith, length-column entry_width offset per i vs fit.part inside, length-take-le j (drop at vs) (omega arith)) in
    let zero-place : 0 + (i * per + j) ≡ i * per + j = omega arith in
    let s : sets l 0 (ys ++ (y ∷ [])) ≡ set l' (i * per + j) y = sets-append l 0 ys (y ∷ []) ∙ rw (size, zero-place, ← c.state) in
    record {
      within = omega arith;
      long = ap length (sym s) ∙ length-sets l 0 (ys ++ (y ∷ []));
      items = ys ++ (y ∷ []);
      each = rw more (each-last c.each r);
      state = sym s;
    }

-- a row is done, and the next begins
pub gathering-row : {B : Type 0} {R : ℕ → B → Type 0} {vs : List ℕ} {offset per : ℕ} {l l' : List B} {i j : ℕ}
    → Gathering R vs offset per l l' i j → per ≤ j → Gathering R vs offset per l l' (i + 1) 0
gathering-row {B} {R} {vs} {offset} {per} {l} {l'} {i} {j} c h =
    let e : j ≡ per = omega (arith, c.within) in
    let C = column entry_width offset per i vs in
    let f : C ++ take j (drop (i * entry_width + offset) vs) ≡ column entry_width offset per (i + 1) vs ++ [] =
    ap (λ (k : ℕ). C ++ take k (drop (i * entry_width + offset) vs)) e ∙ sym (column-more entry_width offset per i vs)
    ∙ ap (λ (k : ℕ). column entry_width offset per k vs) (sym (add-one i)) ∙ sym (append-nil (column entry_width offset per (i + 1) vs)) in
    record { within = omega arith; long = c.long; items = c.items; each = subst (λ (xs : List ℕ). Each R xs c.items) f c.each; state = c.state }

pub gathering-end : {B : Type 0} {R : ℕ → B → Type 0} {vs : List ℕ} {offset per count : ℕ} {l l' : List B} {i : ℕ}
    → Gathering R vs offset per l l' i 0 → i ≡ count → GatheredBy R vs offset per count l l'
gathering-end {B} {R} {vs} {offset} {per} {count} {l} {l'} {i} c e =
    let f : column entry_width offset per i vs ++ [] ≡ column entry_width offset per count vs =
    append-nil (column entry_width offset per i vs) ∙ ap (λ (k : ℕ). column entry_width offset per k vs) e in
    record { items = c.items; each = subst (λ (xs : List ℕ). Each R xs c.items) f c.each; state = c.state }

-- the rows are the rest of a list
rest-is : (vs : List ℕ) (from : ℕ) → take (length vs - from) (drop from vs) ≡ drop from vs
rest-is vs from = ap (λ (k : ℕ). take k (drop from vs)) (sym (length-drop from vs)) ∙ take-length (drop from vs)

-- where R is a function, or the values stay as they are
pub gathered-map : {B : Type 0} (g : ℕ → B) (vs : List ℕ) (from : ℕ) {offset per count : ℕ} {l l' : List B}
    → GatheredBy (λ x y. y ≡ g x) (take (length vs - from) (drop from vs)) offset per count l l' → l' ≡ sets l 0 (map g (column entry_width offset per count (drop from vs)))
gathered-map g vs from {offset} {per} {count} {l} c =
    c.state ∙ ap (sets l 0) (each-map g c.each) ∙ ap (λ (x : List ℕ). sets l 0 (map g (column entry_width offset per count x))) (rest-is vs from)

pub gathered-same : (vs : List ℕ) (from : ℕ) {offset per count : ℕ} {l l' : List ℕ}
    → GatheredBy (λ x y. y ≡ x) (take (length vs - from) (drop from vs)) offset per count l l' → l' ≡ sets l 0 (column entry_width offset per count (drop from vs))
gathered-same vs from {offset} {per} {count} {l} c =
    gathered-map (λ x. x) vs from c ∙ ap (sets l 0) (map-id (column entry_width offset per count (drop from vs)))

-- the editions among the values of rows fit 32 bits
pub dates-fit : (vs : List ℕ) (from n : ℕ) → Short vs from entry_width common_width n → (i j : ℕ) → i < n → j < 1
    → DateFit (get_or (take (length vs - from) (drop from vs)) (i * entry_width + common_width + j) 0)
dates-fit vs from n short i j h k =
    let at = i * entry_width + common_width + j in
    let e : from + at ≡ from + i * entry_width + common_width = omega arith in
    let f : get_or (take (length vs - from) (drop from vs)) at 0 ≡ get_or vs (from + i * entry_width + common_width) 0 =
    ap (λ (x : List ℕ). get_or x at 0) (rest-is vs from) ∙ get_or-drop from vs at 0 ∙ ap (λ (q : ℕ). get_or vs q 0) e in
    record { short = rw f (short i h) }
