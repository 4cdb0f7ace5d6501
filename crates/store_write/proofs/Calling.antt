-- What the calls are proved by.
use mathlib.Core.Path.{◌≡◌, refl, sym, ap, ◌∙◌}
use mathlib.Core.Bool.{Bool, true, false, not}
use mathlib.Core.List.{List, [], ◌∷◌, ◌++◌, map, flat_map}
use Rattle.std.specs.Prelude.{Option, Some, None}
use Prim.Native.Nat.{ℕ, zero, suc, ◌+◌, ◌*◌, ◌≤◌, ◌<◌}
use native.Mathlib.Omega.{arith}
use native.Mathlib.Numerals.{add-one}
use native.Mathlib.Nat.{mul-le-mul_left}
use Rattle.std.proofs.Common.{drop-cons}
use lib.ListN.{length, get_or, set, take, replicate, length-set, length-replicate}
use lib.Seq.{take-suc-set, length-take-le}
use lib.Dec.{eqb}
use lib.Ieee.{Float}
use borrow.Author.Tests.{eq-eqb, ne_eqb, not-true, not-false}
use Rattle.basis.specs.All.{All}
use Rattle.basis.specs.Number.{+0}
use Rattle.basis.specs.Room.{room_of}
use Rattle.store.specs.Keys.{keyed, without, lowest_from}
use Rattle.store.specs.KeysLaws.{lowest-same, lowest-below}
use Rattle.store.specs.Slice.{Slice}
use Rattle.store.specs.Plain.{put, compact}
use Rattle.store.specs.Blocks.{block}
use Rattle.store.specs.Marks.{most_places, mark_of, handle_of, place_of, lives_of, filled}
use Rattle.store.specs.MarksLaws.{named-handle, named-place, Proper, lives-proper}
use Rattle.store.specs.Lists.{Lists, lists, slice_at, kept_at, lives_in, plain_of, free_place, free_mark, written_at, put_in, marks_from, laid, compacted_in, list_step}
use Rattle.store.specs.ListsLaws.{plain-length}
use Rattle.store.specs.Ready.{Few, Low, Told, LookedAll, Blank, MarksFit, number_from}
use Rattle.store_gather.specs.Gather.{blocks_at, LayFits, ShowFits, ShowHandles}
use Rattle.store_write.specs.Calls.{Fit, PutFits, WriteFits, Wrote, Turned, handle_as, Released, rooms, shown, ListFits, Listed}

-- ---- before the marks are looked at: nothing is found

clear-at : (n k : ℕ) → ◌≡◌ {A = Bool} (get_or (replicate n false) k false) false
clear-at zero k = refl
clear-at (suc n) zero = refl
clear-at (suc n) (suc k) = clear-at n k

pub blank-start : (held : List ℕ) → length held ≤ most_places → Blank held 0 (replicate most_places 0) (replicate most_places false) (replicate most_places false)
blank-start held h =
    record {
      none = refl;
      fits = h;
      rooms = length-replicate {A = ℕ} most_places 0;
      flags = length-replicate {A = Bool} most_places false;
      spots = length-replicate {A = Bool} most_places false;
      handle = clear-at most_places;
      place = clear-at most_places;
    }

-- a table of flags says which numbers are free
lowest-told : (cap : ℕ) (flags : List Bool) (key : ℕ → ℕ) (l : List ℕ) → Told cap flags key l → lowest_from (λ k. get_or flags k false) 0 cap ≡ lowest_from (keyed key l) 0 cap
lowest-told cap flags key l t = lowest-same (λ k. get_or flags k false) (keyed key l) 0 cap (λ j a b. t j (omega arith))

-- the handles and the places of live marks are below cap
places-below : (cap : ℕ) (l : List ℕ) → Proper cap l → All (λ m. place_of m < cap) l
places-below cap [] p = tt
places-below cap (m ∷ l) p = (named-place cap m p.0, places-below cap l p.1.1.1)

handles-below : (cap : ℕ) (l : List ℕ) (h : ℕ) → Proper cap l → cap ≤ h → keyed handle_of l h ≡ false
unfolding keyed
handles-below cap [] h p q = refl
handles-below cap (m ∷ l) h p q =
    let a : handle_of m < cap = named-handle cap m p.0 in
    let d : handle_of m ≡ h → ⊥ = λ e. omega arith in
    rw (ne_eqb (handle_of m) h d) (handles-below cap l h p.1.1.1 q)

-- ---- put

-- the live marks, and with one more
pub marks-fit : (held order marks : List ℕ) (handles places : List Bool) (n : ℕ) → LookedAll held n order handles places → marks ≡ take n order → MarksFit held marks
marks-fit held order marks handles places n look e =
    let a = look.least in
    let b = look.fits in
    let c = look.rooms in
    let m : length marks ≡ n = ap length e ∙ length-take-le n order (omega arith) in
    record { fits = omega arith; few = look.fits }

pub more-fit : (held order marks : List ℕ) (handles places : List Bool) (n m : ℕ) → LookedAll held n order handles places → (n ≡ length held → ⊥) → marks ≡ take (n + 1) (set order n m) → MarksFit held marks
more-fit held order marks handles places n m look some e =
    let a = look.least in
    let b = look.fits in
    let c = look.rooms in
    let d = length-set order n m in
    let k : length marks ≡ n + 1 = ap length e ∙ length-take-le (n + 1) (set order n m) (omega (arith, some)) in
    record { fits = omega (arith, some); few = look.fits }

pub few-marks : (held order : List ℕ) (handles places : List Bool) (n : ℕ) → LookedAll held n order handles places → Few n
few-marks held order handles places n look = let a = look.least in let b = look.fits in record { most = omega arith }

pub few-more : (held order : List ℕ) (handles places : List Bool) (n : ℕ) → LookedAll held n order handles places → (n ≡ length held → ⊥) → Few (n + 1)
few-more held order handles places n look some = let a = look.least in let b = look.fits in record { most = omega (arith, some) }

module _ (held at : List ℕ) (shape : List Float) (edition : List ℕ) (x : Slice) (n : ℕ) (order : List ℕ) (handles places : List Bool) (fit : PutFits (lists held at shape edition) x) (look : LookedAll held n order handles places) where
  pub put_full : n ≡ length held → Turned handle_as (list_step (length held) (lists held at shape edition) (put x)) None (lists held at shape edition)
  unfolding list_step
  put_full e =
      let f : eqb (length (lives_in (length held) (lists held at shape edition))) (length held) ≡ true = eq-eqb _ _ (look.count ∙ e) in
      record { says = rw f; leaves = rw f }

  module _ (some : n ≡ length held → ⊥) (h t : ℕ) (low-handle : h ≡ lowest_from (λ k. get_or handles k false) 0 (length held))
      (low-place : t ≡ lowest_from (λ k. get_or places k false) 0 (length held)) where
    fewer : length (lives_in (length held) (lists held at shape edition)) < length held
    fewer = let a = look.count in let b = look.least in omega (arith, some)

    is-handle : h ≡ free_mark (length held) (lists held at shape edition)
    is-handle = low-handle ∙ lowest-told (length held) handles handle_of (lives_in (length held) (lists held at shape edition)) look.handle

    is-place : t ≡ free_place (length held) (lists held at shape edition)
    is-place = low-place ∙ lowest-told (length held) places place_of (lives_in (length held) (lists held at shape edition)) look.place

    handle-below : h < length held
    handle-below = rw is-handle (lowest-below handle_of (length held) (lives_in (length held) (lists held at shape edition)) fewer)

    place-below : t < length held
    place-below = rw is-place (lowest-below place_of (length held) (lives_in (length held) (lists held at shape edition)) fewer)

    pub put_low : Low t h
    put_low = let a = look.fits in let b = handle-below in let c = place-below in record { place = omega arith; handle = omega arith }

    pub put-index : n < most_places
    put-index = let a = look.fits in let b = look.least in omega (arith, some)

    pub put-write : WriteFits at shape edition t x
    put-write =
        let z = fit.fit.sized in
        let a = z.fours in
        let b = z.sixes in
        let c = z.ones in
        let d = place-below in
        record { fours = omega arith; sixes = omega arith; ones = omega arith; whole = fit.whole }

    pub put-done : (m : ℕ) (marks held' at' : List ℕ) (shape' : List Float) (edition' : List ℕ) → m ≡ mark_of t h → marks ≡ take (n + 1) (set order n m) → held' ≡ filled 0 (length held) marks
        → Wrote at shape edition t x at' shape' edition'
        → Turned handle_as (list_step (length held) (lists held at shape edition) (put x)) (Some h) (lists held' at' shape' edition')
    unfolding list_step put_in written_at
    put-done m marks held' at' shape' edition' e d f w =
        let g : eqb (length (lives_in (length held) (lists held at shape edition))) (length held) ≡ false = ne_eqb _ _ (λ q. some (sym look.count ∙ q)) in
        let i : n < length order = let a = look.rooms in let b = put-index in omega arith in
        let l : marks ≡ lives_in (length held) (lists held at shape edition) ++ (mark_of t h ∷ [])
        = d ∙ rw (add-one n) (take-suc-set order n m i ∙ rw (look.is, e)) in
        record {
          says = rw g (ap {B = Option ℕ} (λ k. Some k) is-handle);
          leaves = rw g (rw (f, l, w.codes, w.numbers, w.editions, is-handle, is-place));
        }

-- ---- release

module _ (held : List ℕ) (n : ℕ) (order : List ℕ) (handles places : List Bool) (h : ℕ) (look : LookedAll held n order handles places) where
  pub released-far : length held ≤ h → Released held h false held
  released-far q =
      let e : keyed handle_of (lives_of (length held) held) h ≡ false = handles-below (length held) (lives_of (length held) held) h (lives-proper (length held) held (length held)) q in
      record { found = sym e; marks = rw e }

  pub released-none : h < length held → not (get_or handles h false) ≡ true → Released held h false held
  released-none q z =
      let e : keyed handle_of (lives_of (length held) held) h ≡ false = sym (look.handle h q) ∙ not-true (get_or handles h false) z in
      record { found = sym e; marks = rw e }

  pub released-one : (marks left : List ℕ) → h < length held → not (get_or handles h false) ≡ false → marks ≡ take n order → left ≡ filled 0 (length held) (without handle_of marks h) → Released held h true left
  released-one marks left q d m f =
      let e : keyed handle_of (lives_of (length held) held) h ≡ true = sym (look.handle h q) ∙ not-false (get_or handles h false) d in
      record { found = sym e; marks = f ∙ rw (e, m, look.is) }

-- ---- what stands at the places of live marks is what the plain list holds

module _ (s : Lists) where
  marks-kept : (k : ℕ) (l : List ℕ) → marks_from k (map (kept_at s) l) ≡ number_from k l
  unfolding marks_from number_from kept_at
  marks-kept k [] = refl
  marks-kept k (m ∷ l) = ap {B = List ℕ} (λ r. mark_of k (handle_of m) ∷ r) (marks-kept (suc k) l)

  codes-kept : (l : List ℕ) → flat_map (λ k. k.slice.code) (map (kept_at s) l) ≡ blocks_at 4 s.at l
  unfolding flat_map blocks_at kept_at slice_at
  codes-kept [] = refl
  codes-kept (m ∷ l) = ap (λ (r : List ℕ). block 4 s.at (place_of m) ++ r) (codes-kept l)

  numbers-kept : (l : List ℕ) → flat_map (λ k. k.slice.number) (map (kept_at s) l) ≡ blocks_at 6 s.shape l
  unfolding flat_map blocks_at kept_at slice_at
  numbers-kept [] = refl
  numbers-kept (m ∷ l) = ap (λ (r : List Float). block 6 s.shape (place_of m) ++ r) (numbers-kept l)

  editions-kept : (n : ℕ) (l : List ℕ) → n ≤ length s.edition → All (λ m. place_of m < n) l → map (λ k. k.slice.edition) (map (kept_at s) l) ≡ blocks_at 1 s.edition l
  unfolding flat_map blocks_at block kept_at slice_at
  editions-kept n [] h a = refl
  editions-kept n (m ∷ l) h a =
      let b = a.0 in
      let i : place_of m < length s.edition = omega arith in
      let j : 1 * place_of m ≡ place_of m = omega arith in
      rw (j, drop-cons s.edition (place_of m) 0 i) (ap {B = List ℕ} (λ r. get_or s.edition (place_of m) 0 ∷ r) (editions-kept n l h a.1))

  handles-kept : (l : List ℕ) → map (λ k. k.handle) (map (kept_at s) l) ≡ map handle_of l
  unfolding kept_at
  handles-kept [] = refl
  handles-kept (m ∷ l) = ap {B = List ℕ} (λ r. handle_of m ∷ r) (handles-kept l)

-- ---- compaction

module _ (held at : List ℕ) (shape : List Float) (edition : List ℕ) (n : ℕ) (order marks : List ℕ) (handles places : List Bool) (fit : Fit (lists held at shape edition)) (look : LookedAll held n order handles places)
    (live : marks ≡ take n order) where
  lives : marks ≡ lives_in (length held) (lists held at shape edition)
  lives = live ∙ look.is

  below : All (λ m. place_of m < length held) marks
  below = rw lives (places-below (length held) (lives_in (length held) (lists held at shape edition)) (lives-proper (length held) held (length held)))

  fewer-marks : length marks ≤ length held
  fewer-marks = (marks-fit held order marks handles places n look live).fits

  lay : {A : Type 0} (w most : ℕ) (l : List A) → length l ≡ w * length held → w * length held ≤ most → LayFits w most l marks
  lay w most l e h = record { many = length held; width = e; small = h; few = fewer-marks; below = below }

  pub lay-codes : LayFits 4 (4 * most_places) at marks
  lay-codes = let a = look.fits in lay 4 (4 * most_places) at fit.sized.fours (omega arith)

  pub lay-numbers : LayFits 6 (6 * most_places) shape marks
  lay-numbers = let a = look.fits in lay 6 (6 * most_places) shape fit.sized.sixes (omega arith)

  pub lay-editions : LayFits 1 most_places edition marks
  lay-editions = let a = look.fits in let b = fit.sized.ones in lay 1 most_places edition (omega arith) (omega arith)

  ones : map (λ k. k.slice.edition) (map (kept_at (lists held at shape edition)) (lives_in (length held) (lists held at shape edition))) ≡ blocks_at 1 edition (lives_in (length held) (lists held at shape edition))
  ones = let b = fit.sized.ones in editions-kept (lists held at shape edition) (length held) (lives_in (length held) (lists held at shape edition)) (omega arith) (rw lives at below)

  pub compact-done : (held' at' : List ℕ) (shape' : List Float) (edition' : List ℕ) → at' ≡ filled 0 (length at) (blocks_at 4 at marks)
      → shape' ≡ filled +0 (length shape) (blocks_at 6 shape marks) → edition' ≡ filled 0 (length edition) (blocks_at 1 edition marks)
      → held' ≡ filled 0 (length held) (number_from 0 marks)
      → lists held' at' shape' edition' ≡ (list_step (length held) (lists held at shape edition) compact).left
  unfolding list_step compacted_in laid plain_of
  compact-done held' at' shape' edition' a b c d =
      rw (
        marks-kept (lists held at shape edition) 0 (lives_in (length held) (lists held at shape edition)),
        codes-kept (lists held at shape edition) (lives_in (length held) (lists held at shape edition)),
        numbers-kept (lists held at shape edition) (lives_in (length held) (lists held at shape edition)),
        ones,
        a,
        b,
        c,
        d,
        lives,
        fit.sized.fours,
        fit.sized.sixes,
        fit.sized.ones,
      )

-- ---- the list

module _ (held at : List ℕ) (shape : List Float) (edition : List ℕ) (rh ra : List ℕ) (rs : List Float) (re : List ℕ) (n : ℕ) (order marks : List ℕ) (handles places : List Bool) (fit : ListFits (lists held at shape edition) (rooms rh ra rs re))
    (look : LookedAll held n order handles places) (live : marks ≡ take n order) where
  live-is : marks ≡ lives_in (length held) (lists held at shape edition)
  live-is = lives held at shape edition n order marks handles places fit.fit look live

  under : All (λ m. place_of m < length held) marks
  under = below held at shape edition n order marks handles places fit.fit look live

  listed-few : length marks ≤ length held
  listed-few = fewer-marks held at shape edition n order marks handles places fit.fit look live

  show : {A B : Type 0} (w : ℕ) (src : List A) (dst : List B) → length src ≡ w * length held → w * length held ≤ length dst → ShowFits w (length held) src marks dst
  show w src dst e q =
      let a = mul-le-mul_left w listed-few in
      record {
        gather = record { many = length held; width = omega arith; below = under; room = omega arith };
        least = listed-few;
        room = q;
      }

  pub show-handles : ShowHandles (length held) marks rh
  show-handles = record { least = listed-few; room = fit.room.ones }

  pub show-codes : ShowFits 4 (length held) at marks ra
  show-codes = show 4 at ra fit.fit.sized.fours fit.room.fours

  pub show-numbers : ShowFits 6 (length held) shape marks rs
  show-numbers = show 6 shape rs fit.fit.sized.sixes fit.room.sixes

  pub show-editions : ShowFits 1 (length held) edition marks re
  show-editions =
      let b = fit.fit.sized.ones in
      let c = fit.room.editions in
      show 1 edition re (omega arith) (omega arith)

  pub list-done : (handles' at' : List ℕ) (shape' : List Float) (edition' : List ℕ) → handles' ≡ room_of 0 1 (length held) (map handle_of marks) rh
      → at' ≡ room_of 0 4 (length held) (blocks_at 4 at marks) ra
      → shape' ≡ room_of +0 6 (length held) (blocks_at 6 shape marks) rs
      → edition' ≡ room_of 0 1 (length held) (blocks_at 1 edition marks) re
      → Listed (lists held at shape edition) (rooms rh ra rs re) n (rooms handles' at' shape' edition')
  list-done handles' at' shape' edition' a b c d = record { count = sym (plain-length (length held) (lists held at shape edition) ∙ look.count); shows = same }
    where
      same : rooms handles' at' shape' edition' ≡ shown (length held) (plain_of (length held) (lists held at shape edition)) (rooms rh ra rs re)
      same =
          unfold shown plain_of in
          rw (
            handles-kept (lists held at shape edition) (lives_in (length held) (lists held at shape edition)),
            codes-kept (lists held at shape edition) (lives_in (length held) (lists held at shape edition)),
            numbers-kept (lists held at shape edition) (lives_in (length held) (lists held at shape edition)),
            ones held at shape edition n order marks handles places fit.fit look live,
            a,
            b,
            c,
            d,
            live-is,
          )
