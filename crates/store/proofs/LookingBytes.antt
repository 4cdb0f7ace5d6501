-- The live marks found, and the lowest number whose flag is not set, where flags are bytes.
use mathlib.Core.Path.{◌≡◌, refl, sym, ap, ◌∙◌}
use mathlib.Core.Bool.{Bool, true, false, not, ◌||◌}
use mathlib.Core.List.{List, [], ◌∷◌, ◌++◌}
use Rattle.std.specs.Prelude.{Some, None}
use Prim.Native.Nat.{ℕ, zero, suc, ◌+◌, ◌-◌, ◌≤◌, ◌<◌}
use native.Mathlib.Omega.{arith}
use native.Mathlib.Numerals.{add-one}
use lib.ListN.{length, get_or, set, replicate, length-set, length-append, length-replicate}
use lib.Seq.{take-suc-set, get_or-set_same, get_or-set_other}
use lib.Dec.{eqb, leb}
use borrow.Author.Tests.{eqb-true, eqb-false, not-true, not-false, le-leb}
use Rattle.std.proofs.lemmas.Bool.{lt-leb}
use Rattle.basis.specs.Choice.{by-test}
use Rattle.store.specs.Keys.{keyed, lowest_from}
use Rattle.store.specs.KeysLaws.{keyed-snoc, lowest-same}
use Rattle.store.specs.Marks.{most_places, handle_of, place_of, named, fresh, then_live, lives_to}
use Rattle.store.specs.MarksLaws.{named-handle, named-place, fresh-yes, fresh-unnamed, fresh-handle, fresh-place}
use Rattle.store.specs.Ready.{told}
use Rattle.store.specs.ReadyLaws.{told_none, told-some}
use Rattle.store.specs.Bytes.{ToldBytes, LookedBytes, LookBytesFits, BlankBytes, LookedAllBytes, free_of}

-- ---- flags

told-one : told 1 ≡ true
unfolding told
told-one = refl

or-none : (b : Bool) → (b || false) ≡ b
or-none true = refl
or-none false = refl

or-both : (b : Bool) → (b || true) ≡ true
or-both true = refl
or-both false = refl

-- a mark more in the list, and its flag
told_more : (cap : ℕ) (flags : List ℕ) (key : ℕ → ℕ) (l : List ℕ) (m : ℕ) → key m < length flags → ToldBytes cap flags key l → ToldBytes cap (set flags (key m) 1) key (l ++ (m ∷ []))
told_more cap flags key l m h t k i =
    by-test (eqb (key m) k)
    (λ e.
    let q : key m ≡ k = eqb-true _ _ e in
    rw (keyed-snoc key l m k, e, or-both (keyed key l k), ← q, get_or-set_same flags (key m) 1 0 h) told-one)
    (λ e.
    let d : k ≡ key m → ⊥ = λ q. eqb-false _ _ e (sym q) in
    rw (keyed-snoc key l m k, e, or-none (keyed key l k), get_or-set_other flags (key m) k 1 0 d) (t k i))

-- ---- the live marks

pub looked-none : (held order handles places : List ℕ) → BlankBytes held order handles places → LookedBytes held 0 0 order handles places
unfolding lives_to keyed
looked-none held order handles places b =
    record {
      fits = b.fits;
      least = omega arith;
      rooms = b.rooms;
      flags = b.flags;
      spots = b.spots;
      count = refl;
      is = refl;
      handle = λ k h. told_none (get_or handles k 0) (b.handle k);
      place = λ k h. told_none (get_or places k 0) (b.place k);
    }

module _ (held : List ℕ) (p n : ℕ) (order handles places : List ℕ) (f : LookBytesFits held p n order handles places) (r : Bool)
    (named? : r ≡ named (length held) (get_or held p 0)) where
  s : LookedBytes held p n order handles places
  s = f.looked

  -- number p is no live mark
  dead : fresh (length held) (lives_to (length held) held p) (get_or held p 0) ≡ false → LookedBytes held (p + 1) n order handles places
  unfolding lives_to then_live s
  dead e =
      rw add-one
      (record {
        fits = s.fits;
        least = let q = s.least in omega arith;
        rooms = s.rooms;
        flags = s.flags;
        spots = s.spots;
        count = rw e s.count;
        is = rw e s.is;
        handle = rw e s.handle;
        place = rw e s.place;
      })

  pub looked-unnamed : not r ≡ true → LookedBytes held (p + 1) n order handles places
  looked-unnamed e = dead (fresh-unnamed (length held) (lives_to (length held) held p) (get_or held p 0) (sym named? ∙ not-true r e))

  module _ (yes : not r ≡ false) (h t : ℕ) (is-handle : h ≡ handle_of (get_or held p 0)) (is-place : t ≡ place_of (get_or held p 0)) where
    names : named (length held) (get_or held p 0) ≡ true
    names = sym named? ∙ not-false r yes

    handle-below : h < length held
    handle-below = rw is-handle (named-handle (length held) (get_or held p 0) names)

    place-below : t < length held
    place-below = rw is-place (named-place (length held) (get_or held p 0) names)

    pub handle-low : h < most_places
    unfolding s
    handle-low = let a = handle-below in let b = s.fits in omega arith

    pub place-low : t < most_places
    unfolding s
    place-low = let a = place-below in let b = s.fits in omega arith

    handle-known : told (get_or handles h 0) ≡ keyed handle_of (lives_to (length held) held p) (handle_of (get_or held p 0))
    unfolding s
    handle-known = s.handle h handle-below ∙ ap (keyed handle_of (lives_to (length held) held p)) is-handle

    place-known : told (get_or places t 0) ≡ keyed place_of (lives_to (length held) held p) (place_of (get_or held p 0))
    unfolding s
    place-known = s.place t place-below ∙ ap (keyed place_of (lives_to (length held) held p)) is-place

    -- the flag of its handle is set already, or that of its place
    pub looked-handle : (get_or handles h 0 ≡ 0 → ⊥) → LookedBytes held (p + 1) n order handles places
    looked-handle d = dead (fresh-handle (length held) (lives_to (length held) held p) (get_or held p 0) (sym handle-known ∙ told-some (get_or handles h 0) d))

    pub looked-place : (get_or places t 0 ≡ 0 → ⊥) → LookedBytes held (p + 1) n order handles places
    looked-place d = dead (fresh-place (length held) (lives_to (length held) held p) (get_or held p 0) (sym place-known ∙ told-some (get_or places t 0) d))

    -- neither flag is set
    pub looked-more : get_or handles h 0 ≡ 0 → get_or places t 0 ≡ 0 → LookedBytes held (p + 1) (n + 1) (set order n (get_or held p 0)) (set handles h 1) (set places t 1)
    unfolding lives_to then_live s
    looked-more a b =
        let l : fresh (length held) (lives_to (length held) held p) (get_or held p 0) ≡ true
        = fresh-yes (length held) (lives_to (length held) held p) (get_or held p 0) names
        (sym handle-known ∙ told_none (get_or handles h 0) a) (sym place-known ∙ told_none (get_or places t 0) b) in
        let u = s.least in
        let v = s.rooms in
        let x = s.flags in
        let y = s.spots in
        let w = s.fits in
        let g = f.below in
        let hh = handle-low in
        let pp = place-low in
        let i : handle_of (get_or held p 0) < length handles = omega (arith, is-handle) in
        let j : place_of (get_or held p 0) < length places = omega (arith, is-place) in
        rw (add-one p, add-one n)
        (record {
          fits = s.fits;
          least = omega arith;
          rooms = length-set order n (get_or held p 0) ∙ s.rooms;
          flags = length-set handles h 1 ∙ s.flags;
          spots = length-set places t 1 ∙ s.spots;
          count = rw (l, length-append (lives_to (length held) held p) (get_or held p 0 ∷ []), s.count) (omega arith);
          is = rw l (take-suc-set order n (get_or held p 0) (omega arith) ∙ ap (λ (z : List ℕ). z ++ (get_or held p 0 ∷ [])) s.is);
          handle = rw (l, is-handle) (told_more (length held) handles handle_of (lives_to (length held) held p) (get_or held p 0) i s.handle);
          place = rw (l, is-place) (told_more (length held) places place_of (lives_to (length held) held p) (get_or held p 0) j s.place);
        })

-- ---- the lowest number whose flag is not set: the numbers from k on are still to be looked at

module _ (flags : List ℕ) (cap : ℕ) where
  pub record Lowest (k : ℕ) : Type 0 where
    pub is : lowest_from (λ j. told (get_or flags j 0)) 0 cap ≡ lowest_from (λ j. told (get_or flags j 0)) k (cap - k)

  pub lowest_start : Lowest 0
  lowest_start = let e : cap - 0 ≡ cap = omega arith in record { is = rw e }

  module _ (k : ℕ) (i : Lowest k) where
    pub lowest-more : k < cap → (get_or flags k 0 ≡ 0 → ⊥) → Lowest (k + 1)
    lowest-more h u = record { is = i.is ∙ turn (cap - k) (cap - (k + 1)) (omega arith) }
      where
        turn : (m n : ℕ) → m ≡ suc n → lowest_from (λ j. told (get_or flags j 0)) k m ≡ lowest_from (λ j. told (get_or flags j 0)) (k + 1) n
        turn m n e = unfold lowest_from in rw (e, told-some (get_or flags k 0) u, add-one k)

    pub lowest-here : k < cap → get_or flags k 0 ≡ 0 → k ≡ lowest_from (λ j. told (get_or flags j 0)) 0 cap
    lowest-here h u = sym (i.is ∙ here (cap - k) (cap - (k + 1)) (omega arith))
      where
        here : (m n : ℕ) → m ≡ suc n → lowest_from (λ j. told (get_or flags j 0)) k m ≡ k
        here m n e = unfold lowest_from in rw (e, told_none (get_or flags k 0) u)

    pub lowest-end : k ≡ cap → cap ≡ lowest_from (λ j. told (get_or flags j 0)) 0 cap
    lowest-end e = sym (i.is ∙ here (cap - k) (omega arith))
      where
        here : (m : ℕ) → m ≡ 0 → lowest_from (λ j. told (get_or flags j 0)) k m ≡ cap
        here m z = unfold lowest_from in rw (z, e)

pub ruleset freeing = (lowest_start, lowest-more, lowest-here, lowest-end)

-- ---- the lowest handle that is free

clear-at : (n k : ℕ) → ◌≡◌ {A = ℕ} (get_or (replicate n 0) k 0) 0
clear-at zero k = refl
clear-at (suc n) zero = refl
clear-at (suc n) (suc k) = clear-at n k

pub blank-bytes : (held : List ℕ) → length held ≤ most_places → BlankBytes held (replicate most_places 0) (replicate most_places 0) (replicate most_places 0)
blank-bytes held h =
    record {
      fits = h;
      rooms = length-replicate {A = ℕ} most_places 0;
      flags = length-replicate {A = ℕ} most_places 0;
      spots = length-replicate {A = ℕ} most_places 0;
      handle = clear-at most_places;
      place = clear-at most_places;
    }

pub free-none : (held : List ℕ) → most_places < length held → None ≡ free_of held
unfolding free_of
free-none held h = let e : leb (length held) most_places ≡ false = lt-leb _ _ h in rw e

pub free-some : (held : List ℕ) (n h : ℕ) (order handles places : List ℕ) → LookedAllBytes held n order handles places → h ≡ lowest_from (λ k. told (get_or handles k 0)) 0 (length held) → Some h ≡ free_of held
unfolding free_of
free-some held n h order handles places l e =
    let f : leb (length held) most_places ≡ true = le-leb _ _ l.fits in
    rw (f, e, lowest-same (λ k. told (get_or handles k 0)) (keyed handle_of (lives_to (length held) held (length held))) 0 (length held) (λ j a b. l.handle j (omega arith)))

pub ruleset freed = (blank-bytes, free-none)
