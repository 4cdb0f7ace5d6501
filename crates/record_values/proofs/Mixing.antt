-- The loop that lists slices, and the list of all values.
use Prim.Native.Nat.{ℕ, suc, ◌+◌, ◌-◌, ◌*◌, ◌≤◌, ◌<◌}
use mathlib.Core.Path.{◌≡◌, refl, ap, ◌∙◌}
use mathlib.Core.List.{List, [], ◌∷◌, ◌++◌, map, append_assoc}
use native.Mathlib.Omega.{arith}
use lib.ListN.{length, get_or, set, take, drop, length-set, length-drop, length-map, length-append}
use lib.Seq.{drop-cons, drop-drop, length-take-le, take-length, sets, length-sets}
use lib.Ieee.{Float}
use Rattle.fields.specs.Fields.{bits_of}
use Rattle.fields.specs.Ready.{NoNan, CopyAt, BitsAt}
use Rattle.fields.specs.StepLaws.{step-inside, step_left}
use Rattle.basis.specs.StoreLaws.{sets_then, sets-after}
use Rattle.slice.specs.Slice.{code_width, shape_width}
use Rattle.record_form.specs.Form.{common_width, entry_width, mix}
use Rattle.record.specs.Record.{lists, values_of}
use Rattle.record_values.specs.Ready.{MixFit}
use Rattle.record_values.specs.ValueLaws.{map-take, map-drop}

pub record Mixing (codes : List ℕ) (numbers : List Float) (dates : List ℕ) (n : ℕ) (l : List ℕ) (to : ℕ) (l' : List ℕ) (q i j k : ℕ) : Type 0 where
  pub plain : NoNan numbers
  pub first : i + (n - k) * code_width ≤ length codes
  pub second : j + (n - k) * shape_width ≤ length numbers
  pub third : n ≤ length dates
  pub target : q + (n - k) * entry_width ≤ length l
  pub long : length l' ≡ length l
  pub state : sets l' q (mix code_width shape_width (n - k) (drop i codes) (drop j (map bits_of numbers)) (drop k dates)) ≡ sets l to (mix code_width shape_width n codes (map bits_of numbers) dates)

pub mixing-none : (codes : List ℕ) (numbers : List Float) (dates : List ℕ) (n : ℕ) (l : List ℕ) (to : ℕ) → MixFit (length codes) numbers (length dates) n (length l) to
    → Mixing codes numbers dates n l to l to 0 0 0
mixing-none codes numbers dates n l to h =
    let z : n - 0 ≡ n = omega arith in
    record {
      plain = h.plain;
      first = rw z (omega (arith, h.first));
      second = rw z (omega (arith, h.second));
      third = h.third;
      target = rw z h.target;
      long = refl;
      state = rw z;
    }

module _ {codes : List ℕ} {numbers : List Float} {dates : List ℕ} {n : ℕ} {l : List ℕ} {to : ℕ} {l' : List ℕ} {q i j k : ℕ}
    (c : Mixing codes numbers dates n l to l' q i j k) (h : k < n) where
  more : 0 < n - k
  more = omega arith

  row_inside : q + entry_width ≤ length l
  row_inside = step-inside q (n - k) entry_width (length l) more c.target

  pub mixing-date : k < length dates
  mixing-date = omega (arith, c.third)

  pub mixing-codes : CopyAt (length codes) i code_width (length l') q
  mixing-codes =
      record {
        source = step-inside i (n - k) code_width (length codes) more c.first;
        target = omega (arith, row_inside, c.long);
      }

  module _ {l'' : List ℕ} (e : l'' ≡ sets l' q (take code_width (drop i codes))) where
    pub mixing-numbers : BitsAt numbers j shape_width (length l'') (q + code_width)
    mixing-numbers =
        record {
          copies =
              record {
                source = step-inside j (n - k) shape_width (length numbers) more c.second;
                target = omega (arith, row_inside, c.long, ap length e ∙ length-sets l' q (take code_width (drop i codes)));
              };
          plain = c.plain;
        }

    module _ {l''' : List ℕ} (f : l''' ≡ sets l'' (q + code_width) (map bits_of (take shape_width (drop j numbers)))) where
      long-still : length l''' ≡ length l
      long-still =
          ap length f ∙ length-sets l'' (q + code_width) (map bits_of (take shape_width (drop j numbers))) ∙ ap length e ∙ length-sets l' q (take code_width (drop i codes)) ∙ c.long

      pub mixing-place : q + common_width < length l'''
      mixing-place = omega (arith, row_inside, long-still)

      pub mixing-more : (x : ℕ) → x ≡ get_or dates k 0 → Mixing codes numbers dates n l to (set l''' (q + common_width) x) (q + entry_width) (i + code_width) (j + shape_width) (k + 1)
      unfolding mix
      mixing-more d s =
          let patterns = map bits_of numbers in
          let left : n - k ≡ suc (n - (k + 1)) = omega arith in
          let less : n - k - 1 ≡ n - (k + 1) = omega arith in
          let x = take code_width (drop i codes) in
          let y = take shape_width (drop j patterns) in
          let z = mix code_width shape_width (n - (k + 1)) (drop (i + code_width) codes) (drop (j + shape_width) patterns) (drop (k + 1) dates) in
          let lx : length x ≡ code_width = length-take-le code_width (drop i codes) (rw length-drop (omega (arith, step-inside i (n - k) code_width (length codes) more c.first))) in
          let lp : length patterns ≡ length numbers = length-map numbers bits_of in
          let ly : length y ≡ shape_width =
          length-take-le shape_width (drop j patterns) (rw length-drop (omega (arith, lp, step-inside j (n - k) shape_width (length numbers) more c.second))) in
          let b : map bits_of (take shape_width (drop j numbers)) ≡ y = map-take bits_of shape_width (drop j numbers) ∙ ap (take shape_width) (map-drop bits_of j numbers) in
          let one : take 1 (drop k dates) ≡ d ∷ [] = rw (drop-cons dates k 0 mixing-date, s) in
          let row : take code_width (drop i codes)
          ++ (take shape_width (drop j patterns)
          ++ (take 1 (drop k dates)
          ++ mix code_width shape_width (n - (k + 1)) (drop code_width (drop i codes)) (drop shape_width (drop j patterns)) (drop 1 (drop k dates)))) ≡ x ++ (y ++ (d ∷ z)) =
          rw (drop-drop code_width i codes, drop-drop shape_width j patterns, drop-drop 1 k dates, one) in
          let p : q + common_width ≡ q + code_width + shape_width = omega arith in
          let a : q + entry_width ≡ suc (q + common_width) = omega arith in
          record {
            plain = c.plain;
            first = rw less at (step_left i (n - k) code_width (length codes) more c.first);
            second = rw less at (step_left j (n - k) shape_width (length numbers) more c.second);
            third = c.third;
            target = rw less at (step_left q (n - k) entry_width (length l) more c.target);
            long = length-set l''' (q + common_width) d ∙ long-still;
            state =
                ap (λ (u : ℕ). sets (set l''' (q + common_width) d) u z) a
                ∙ ap (λ (u : List ℕ). sets u (q + common_width) (d ∷ z)) (f ∙ ap (sets l'' (q + code_width)) b)
                ∙ ap (λ (u : ℕ). sets (sets l'' (q + code_width) y) u (d ∷ z)) p
                ∙ sets_then l'' (q + code_width) shape_width y (d ∷ z) ly
                ∙ ap (λ (u : List ℕ). sets u (q + code_width) (y ++ (d ∷ z))) e
                ∙ sets_then l' q code_width x (y ++ (d ∷ z)) lx
                ∙ rw (left, row) at c.state;
          }

pub mixing-end : {codes : List ℕ} {numbers : List Float} {dates : List ℕ} {n : ℕ} {l : List ℕ} {to : ℕ} {l' : List ℕ} {q i j k : ℕ}
    → Mixing codes numbers dates n l to l' q i j k → n ≤ k → l' ≡ sets l to (mix code_width shape_width n codes (map bits_of numbers) dates)
unfolding mix
mixing-end {n = n} {k = k} c h = let e : n - k ≡ 0 = omega arith in rw e at c.state

-- ---- the places of slice k, as the code has them
abbrev pub Placed : List ℕ → List Float → List ℕ → ℕ → List ℕ → ℕ → List ℕ → ℕ → Type 0
Placed codes numbers dates n l to l' k = Mixing codes numbers dates n l to l' (to + k * entry_width) (k * code_width) (k * shape_width) k

pub placed-none : (codes : List ℕ) (numbers : List Float) (dates : List ℕ) (n : ℕ) (l : List ℕ) (to : ℕ) → MixFit (length codes) numbers (length dates) n (length l) to
    → Placed codes numbers dates n l to l 0
placed-none codes numbers dates n l to h =
    let a : to + 0 * entry_width ≡ to = omega arith in
    let b : 0 * code_width ≡ 0 = omega arith in
    let c : 0 * shape_width ≡ 0 = omega arith in
    rw (a, b, c) (mixing-none codes numbers dates n l to h)

pub placed-more : {codes : List ℕ} {numbers : List Float} {dates : List ℕ} {n : ℕ} {l : List ℕ} {to : ℕ} {l' : List ℕ} {k : ℕ}
    → Placed codes numbers dates n l to l' k → k < n → {m : List ℕ} → m ≡ sets l' (to + k * entry_width) (take code_width (drop (k * code_width) codes))
    → {m' : List ℕ} → m' ≡ sets m (to + k * entry_width + code_width) (map bits_of (take shape_width (drop (k * shape_width) numbers)))
    → (x : ℕ) → x ≡ get_or dates k 0 → Placed codes numbers dates n l to (set m' (to + k * entry_width + common_width) x) (k + 1)
placed-more {to = to} {k = k} c h e f x s =
    let a : to + (k + 1) * entry_width ≡ to + k * entry_width + entry_width = omega arith in
    let b : (k + 1) * code_width ≡ k * code_width + code_width = omega arith in
    let d : (k + 1) * shape_width ≡ k * shape_width + shape_width = omega arith in
    rw (a, b, d) (mixing-more c h e f x s)

-- ---- all values
pub values_listed : (o1 o2 : List Float) (at : List ℕ) (s : List Float) (dates : List ℕ) (n : ℕ) (l l' l'' l''' : List ℕ)
    → l' ≡ sets l 0 (map bits_of (take (length o1) o1)) → l'' ≡ sets l' (length o1) (map bits_of (take (length o2) o2))
    → l''' ≡ sets l'' (length o1 + length o2) (mix code_width shape_width n at (map bits_of s) dates) → l''' ≡ sets l 0 (values_of (lists o1 o2 at s dates) n)
unfolding values_of
values_listed o1 o2 at s dates n l l' l'' l''' e f g =
    let a = map bits_of o1 in
    let b = map bits_of o2 in
    let c = mix code_width shape_width n at (map bits_of s) dates in
    let la : length a ≡ length o1 = length-map o1 bits_of in
    let lb : length (a ++ b) ≡ length o1 + length o2 = length-append a b ∙ omega (arith, la, length-map o2 bits_of) in
    let e' : l' ≡ sets l 0 a = e ∙ ap (λ (u : List Float). sets l 0 (map bits_of u)) (take-length o1) in
    let f' : l'' ≡ sets l 0 (a ++ b) =
    f ∙ ap (λ (u : List Float). sets l' (length o1) (map bits_of u)) (take-length o2) ∙ ap (λ (u : List ℕ). sets u (length o1) b) e' ∙ sets-after l (length o1) a b la in
    g ∙ ap (λ (u : List ℕ). sets u (length o1 + length o2) c) f' ∙ sets-after l (length o1 + length o2) (a ++ b) c lb ∙ ap (sets l 0) (append_assoc a b c)
