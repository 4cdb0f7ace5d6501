-- Laws of the loop that lists the kept loops; and what is true of the list.
use Prim.Native.Nat.{ℕ, zero, suc, ◌+◌, ◌*◌, ◌≤◌, ◌<◌, zero-le}
use mathlib.Core.Bool.{Bool, true, false, cond}
use mathlib.Core.Path.{◌≡◌, refl, ap, ◌∙◌}
use mathlib.Core.List.{List, [], ◌∷◌, ◌++◌, append-nil}
use native.Mathlib.Numerals.{add-one}
use native.Mathlib.Omega.{arith}
use native.Mathlib.Decide.{ℕ_discrete}
use lib.ListN.{length, get_or, set, take, drop, length-append, length-set}
use lib.Seq.{take-suc-set, take-set-le, drop-set-lt, get_or-set_same, get_or-set_other, get_or-take}
use lib.Ieee.{Float, nan, inf, fin, neg, of_bits, lt, le}
use Rattle.basis.specs.All.{all-at}
use Rattle.std.specs.Int.{from_bool}
use Rattle.basis.specs.Choice.{by-test, clash}
use Rattle.basis.specs.Number.{+0, abs_f, own_abs, finite, limit_ok}
use Rattle.basis.specs.NumberLaws.{abs-lt}
use Rattle.basis.specs.OrderLaws.{Finite, lt_not_le, le_total}
use Rattle.basis.specs.RoomLaws.{room-unique}
use Rattle.area.specs.Area.{is_kept, kept_to, kept_of, Comparable, Roomy, Kept}

-- a finite number's absolute value, as the code has it, is finite; and so is a limit in range
own-finite : (x : Float) → finite x ≡ true → Finite (own_abs x)
unfolding finite abs_f of_bits le lt
own-finite nan h = clash false h refl
own-finite (inf s) h = clash false h refl
own-finite (fin s m e) h = by-test (lt (fin s m e) +0) (λ t. unfold own_abs neg in rw t tt) (λ t. unfold own_abs in rw t tt)

limit-finite : (x : Float) → limit_ok x ≡ true → Finite x
unfolding limit_ok of_bits le lt
limit-finite nan h = clash false h refl
limit-finite (inf true) h = clash false h refl
limit-finite (inf false) h = clash false h refl
limit-finite (fin s m e) h = tt

-- what code with a test for the sign finds, where neither is a NaN
pub kept_by : (limit area size : Float) → Comparable limit area → size ≡ own_abs area → le limit size ≡ is_kept limit area
unfolding is_kept
kept_by limit area size c e =
    let f = own-finite area c.finite-area in
    let g = limit-finite limit c.good in
    by-test (lt (own_abs area) limit)
    (λ t. rw (e, lt_not_le (own_abs area) limit t, ← abs-lt area limit, t))
    (λ t. rw (e, le_total (own_abs area) limit f g t, ← abs-lt area limit, t))

module _ (areas : List Float) (limit : Float) where
  -- at most one number per loop
  pub kept-few : (n : ℕ) → length (kept_to areas limit n) ≤ n
  unfolding kept_to
  kept-few zero = zero-le
  kept-few (suc n) =
      let h = kept-few n in
      let e = length-append (kept_to areas limit n) (cond (is_kept limit (get_or areas n nan)) (n ∷ []) []) in
      let f = one (is_kept limit (get_or areas n nan)) in
      omega arith
    where
      one : (b : Bool) → length (cond b (n ∷ []) []) ≤ 1
      one true = omega arith
      one false = zero-le

  kept-yes : (n : ℕ) → is_kept limit (get_or areas n nan) ≡ true → kept_to areas limit (n + 1) ≡ kept_to areas limit n ++ (n ∷ [])
  kept-yes n e = rw add-one (unfold kept_to in rw e)

  kept-no : (n : ℕ) → is_kept limit (get_or areas n nan) ≡ false → kept_to areas limit (n + 1) ≡ kept_to areas limit n
  kept-no n e = rw add-one (unfold kept_to in rw (e, append-nil))

-- the first i loops were looked at, and n of them stay; the places between n and i hold 0
pub record Listing (areas : List Float) (limit : Float) (entry : List ℕ) (kept : List ℕ) (n i : ℕ) : Type 0 where
  pub roomy : Roomy areas limit entry
  pub ahead : i ≤ length areas
  pub few : n ≤ i
  pub counted : n ≡ length (kept_to areas limit i)
  pub front : take n kept ≡ kept_to areas limit i
  pub zeros : (p : ℕ) → n < p → p < i → get_or kept p 0 ≡ 0
  pub beyond : drop (length areas) kept ≡ drop (length areas) entry
  pub size : length kept ≡ length entry

module _ (areas : List Float) (limit : Float) (entry : List ℕ) where
  pub list-none : Roomy areas limit entry → Listing areas limit entry entry 0 0
  unfolding kept_to
  list-none r =
      record { roomy = r; ahead = zero-le; few = zero-le; counted = refl; front = refl; zeros = λ p a b. absurd (omega arith); beyond = refl; size = refl }

  module _ (kept : List ℕ) (n i : ℕ) (l : Listing areas limit entry kept n i) where
    list_inside : i < length areas → i < length kept
    list_inside h = omega (arith, l.size, l.roomy.fits)

    list-room : i < length areas → n < length kept
    list-room h = omega (arith, l.size, l.roomy.fits, l.few)

    pub list-comparable : i < length areas → Comparable limit (get_or areas i nan)
    list-comparable h = record { finite-area = all-at finite areas i nan l.roomy.all-finite h; good = l.roomy.good }

    module _ (h : i < length areas) where
      abbrev put : List ℕ
      put = set (set kept i 0) n i

      put-size : length put ≡ length entry
      put-size = rw (length-set, length-set) l.size

      put-zeros : (p : ℕ) → n < p → p < i + 1 → get_or put p 0 ≡ 0
      put-zeros p a b = get_or-set_other (set kept i 0) n p i 0 (λ q. omega arith) ∙ go (ℕ_discrete p i)
        where
          go : Dec (p ≡ i) → get_or (set kept i 0) p 0 ≡ 0
          go (yes q) = rw q (get_or-set_same kept i 0 0 (list_inside h))
          go (no q) = get_or-set_other kept i p 0 0 q ∙ l.zeros p a (omega arith)

      put-beyond : drop (length areas) put ≡ drop (length areas) entry
      put-beyond = drop-set-lt (length areas) (set kept i 0) n i (omega (arith, l.few)) ∙ drop-set-lt (length areas) kept i 0 h ∙ l.beyond

      put_front : take n (set kept i 0) ≡ kept_to areas limit i
      put_front = take-set-le n kept i 0 l.few ∙ l.front

      -- number i is written, and counts where its loop stays
      pub list-more : (x : Bool) (d : ℕ) → x ≡ is_kept limit (get_or areas i nan) → d ≡ from_bool x → Listing areas limit entry (set (set kept i 0) n i) (n + d) (i + 1)
      list-more x d k f = by-test (is_kept limit (get_or areas i nan)) yes no
        where
          yes : is_kept limit (get_or areas i nan) ≡ true → Listing areas limit entry put (n + d) (i + 1)
          yes t =
              let e : d ≡ from_bool (is_kept limit (get_or areas i nan)) = (rw k at f) in
              let f = kept-yes areas limit i t in
              let g : d ≡ 1 = rw t at e in
              let m : n + d ≡ suc n = omega arith in
              let r = list-room h in
              rw m
              (record {
                roomy = l.roomy;
                ahead = omega arith;
                few = omega (arith, l.few);
                counted = rw (f, length-append) (omega (arith, l.counted));
                front = rw f (take-suc-set (set kept i 0) n i (omega (arith, length-set kept i 0)) ∙ ap (λ (x : List ℕ). x ++ (i ∷ [])) put_front);
                zeros = λ p a b. put-zeros p (omega arith) b;
                beyond = put-beyond;
                size = put-size;
              })

          no : is_kept limit (get_or areas i nan) ≡ false → Listing areas limit entry put (n + d) (i + 1)
          no t =
              let e : d ≡ from_bool (is_kept limit (get_or areas i nan)) = (rw k at f) in
              let f = kept-no areas limit i t in
              let g : d ≡ 0 = rw t at e in
              let m : n + d ≡ n = omega arith in
              rw m
              (record {
                roomy = l.roomy;
                ahead = omega arith;
                few = omega (arith, l.few);
                counted = rw f l.counted;
                front = rw f (take-set-le n (set kept i 0) n i (omega arith) ∙ put_front);
                zeros = put-zeros;
                beyond = put-beyond;
                size = put-size;
              })

    -- after the last loop: a list that has the numbers in front, and 0 behind them
    module _ (h : length areas ≤ i) where
      all : i ≡ length areas
      all = omega (arith, l.ahead)

      whole : n ≡ length (kept_of areas limit)
      unfolding kept_of
      whole = rw (← all) l.counted

      items_of : take n kept ≡ kept_of areas limit
      unfolding kept_of
      items_of = rw (← all) l.front

      ended : (exit : List ℕ) → length exit ≡ length entry → take n exit ≡ take n kept → ((p : ℕ) → n ≤ p → p < length areas → get_or exit p 0 ≡ 0) → drop (length areas) exit ≡ drop (length areas) entry
          → Kept areas limit entry n exit
      ended exit s f z b =
          let w : 1 * length areas ≡ length areas = omega arith in
          let m = whole in
          record {
            counted = whole;
            list =
                room-unique 0 1 (length areas) (kept_of areas limit) entry 0 exit (omega (arith, l.few)) (omega (arith, l.roomy.fits)) s
                (λ p q. first p (omega arith))
                (λ p q r. z p (omega arith) (omega arith))
                (rw w b);
          }
        where
          items : take n exit ≡ kept_of areas limit
          items = f ∙ items_of

          first : (p : ℕ) → p < n → get_or exit p 0 ≡ get_or (kept_of areas limit) p 0
          first p q = rw (← items, get_or-take)

      pub list_full : length areas ≤ n → Kept areas limit entry n kept
      list_full e = ended kept l.size refl (λ p a b. absurd (omega arith)) l.beyond

      list-last : n < length areas → n < length kept
      list-last e = omega (arith, l.size, l.roomy.fits)

      pub list-end : n < length areas → Kept areas limit entry n (set kept n 0)
      list-end e =
          let r = list-last e in
          ended (set kept n 0) (rw length-set l.size) (take-set-le n kept n 0 (omega arith)) zeros (drop-set-lt (length areas) kept n 0 (omega (arith, l.few)) ∙ l.beyond)
        where
          zeros : (p : ℕ) → n ≤ p → p < length areas → get_or (set kept n 0) p 0 ≡ 0
          zeros p a b = go (ℕ_discrete p n)
            where
              go : Dec (p ≡ n) → get_or (set kept n 0) p 0 ≡ 0
              go (yes q) = rw q (get_or-set_same kept n 0 0 (list-last e))
              go (no q) = get_or-set_other kept n p 0 0 q ∙ l.zeros p (omega arith) (omega arith)

pub ruleset listing = (list-none, list-comparable, list-more, list_full, list-end)
