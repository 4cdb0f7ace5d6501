-- The loops over marks: the live ones found, the lowest number whose flag is not set, marks written.
use mathlib.Core.Path.{◌≡◌, refl, sym, ap, ◌∙◌}
use mathlib.Core.Bool.{Bool, true, false, not, cond, ◌||◌}
use mathlib.Core.List.{List, [], ◌∷◌, ◌++◌, append-nil}
use Prim.Native.Nat.{ℕ, suc, ◌+◌, ◌%◌, ◌≤◌, ◌<◌}
use native.Mathlib.Nat.{zero-add}
use Rattle.std.specs.List.{position, position_or_len}
use Rattle.std.specs.Prelude.{Option}
use Rattle.std.specs.Option.{unwrap_or}
use Rattle.std.proofs.lemmas.List.Sums.{prefix_len-le-length}
use native.Mathlib.Omega.{arith}
use native.Mathlib.Nat.{mod-lt}
use native.Mathlib.Numerals.{add-one}
use lib.ListN.{length, get_or, set, take, length-set, length-append}
use lib.Seq.{take-suc-set, get_or-set_same, get_or-set_other, take-suc, get_or-take, length-take-le, take-length}
use lib.Dec.{eqb, ltb}
use borrow.Author.Tests.{ltb-false, eqb-true, eqb-false, eq-eqb, ne_eqb, not-true, not-false}
use Rattle.basis.specs.Choice.{by-test}
use Rattle.basis.specs.Room.{cleared}
use Rattle.store.specs.Keys.{keyed, without, lowest_from}
use Rattle.store.specs.KeysLaws.{keyed-snoc}
use Rattle.store.specs.Marks.{most_places, mark_of, handle_of, place_of, named, fresh, then_live, lives_to, filled}
use Rattle.store.specs.MarksLaws.{named-handle, named-place, fresh-yes, fresh-unnamed, fresh-handle, fresh-place}
use Rattle.store.specs.Ready.{Low, Told, Looked, LookFits, Blank, MarksFit, Front, number_from}
use Rattle.store.specs.ReadyLaws.{front-none, front-more, front-filled}

-- ---- flags

or-none : (b : Bool) → (b || false) ≡ b
or-none true = refl
or-none false = refl

or-both : (b : Bool) → (b || true) ≡ true
or-both true = refl
or-both false = refl

-- a mark more in the list, and its flag
told_more : (cap : ℕ) (flags : List Bool) (key : ℕ → ℕ) (l : List ℕ) (m : ℕ) → key m < length flags → Told cap flags key l → Told cap (set flags (key m) true) key (l ++ (m ∷ []))
told_more cap flags key l m h t k i =
    by-test (eqb (key m) k)
    (λ e.
    let q : key m ≡ k = eqb-true _ _ e in
    rw (keyed-snoc key l m k, e, or-both (keyed key l k), ← q, get_or-set_same flags (key m) true false h))
    (λ e.
    let d : k ≡ key m → ⊥ = λ q. eqb-false _ _ e (sym q) in
    rw (keyed-snoc key l m k, e, or-none (keyed key l k), get_or-set_other flags (key m) k true false d) (t k i))

-- ---- the live marks

pub looked-none : (held : List ℕ) (n : ℕ) (order : List ℕ) (handles places : List Bool) → Blank held n order handles places → Looked held 0 n order handles places
unfolding lives_to keyed
looked-none held n order handles places b =
    rw b.none
    (record {
      fits = b.fits;
      least = omega arith;
      rooms = b.rooms;
      flags = b.flags;
      spots = b.spots;
      count = refl;
      is = refl;
      handle = λ k h. b.handle k;
      place = λ k h. b.place k;
    })

module _ (held : List ℕ) (p n : ℕ) (order : List ℕ) (handles places : List Bool) (f : LookFits held p n order handles places) (r : Bool)
    (named? : r ≡ named (length held) (get_or held p 0)) where
  s : Looked held p n order handles places
  s = f.looked

  -- number p is no live mark
  dead : fresh (length held) (lives_to (length held) held p) (get_or held p 0) ≡ false → Looked held (p + 1) n order handles places
  unfolding lives_to then_live s
  dead e =
      rw add-one
      (record {
        fits = s.fits;
        least = let q = s.least in omega arith;
        rooms = s.rooms;
        flags = s.flags;
        spots = s.spots;
        count = rw e s.count;
        is = rw e s.is;
        handle = rw e s.handle;
        place = rw e s.place;
      })

  pub looked-unnamed : not r ≡ true → Looked held (p + 1) n order handles places
  looked-unnamed e = dead (fresh-unnamed (length held) (lives_to (length held) held p) (get_or held p 0) (sym named? ∙ not-true r e))

  module _ (yes : not r ≡ false) (h t : ℕ) (is-handle : h ≡ handle_of (get_or held p 0)) (is-place : t ≡ place_of (get_or held p 0)) where
    names : named (length held) (get_or held p 0) ≡ true
    names = sym named? ∙ not-false r yes

    handle-below : h < length held
    handle-below = rw is-handle (named-handle (length held) (get_or held p 0) names)

    place-below : t < length held
    place-below = rw is-place (named-place (length held) (get_or held p 0) names)

    pub handle-low : h < most_places
    unfolding s
    handle-low = let a = handle-below in let b = s.fits in omega arith

    pub place-low : t < most_places
    unfolding s
    place-low = let a = place-below in let b = s.fits in omega arith

    handle-known : get_or handles h false ≡ keyed handle_of (lives_to (length held) held p) (handle_of (get_or held p 0))
    unfolding s
    handle-known = s.handle h handle-below ∙ ap (keyed handle_of (lives_to (length held) held p)) is-handle

    place-known : get_or places t false ≡ keyed place_of (lives_to (length held) held p) (place_of (get_or held p 0))
    unfolding s
    place-known = s.place t place-below ∙ ap (keyed place_of (lives_to (length held) held p)) is-place

    -- the flag of its handle is set already, or that of its place
    pub looked-handle : get_or handles h false ≡ true → Looked held (p + 1) n order handles places
    looked-handle d = dead (fresh-handle (length held) (lives_to (length held) held p) (get_or held p 0) (sym handle-known ∙ d))

    pub looked-place : get_or places t false ≡ true → Looked held (p + 1) n order handles places
    looked-place d = dead (fresh-place (length held) (lives_to (length held) held p) (get_or held p 0) (sym place-known ∙ d))

    -- neither flag is set
    pub looked-more : get_or handles h false ≡ false → get_or places t false ≡ false → Looked held (p + 1) (n + 1) (set order n (get_or held p 0)) (set handles h true) (set places t true)
    unfolding lives_to then_live s
    looked-more a b =
        let l : fresh (length held) (lives_to (length held) held p) (get_or held p 0) ≡ true
        = fresh-yes (length held) (lives_to (length held) held p) (get_or held p 0) names
        (sym handle-known ∙ a) (sym place-known ∙ b) in
        let u = s.least in
        let v = s.rooms in
        let x = s.flags in
        let y = s.spots in
        let w = s.fits in
        let g = f.below in
        let hh = handle-low in
        let pp = place-low in
        let i : handle_of (get_or held p 0) < length handles = omega (arith, is-handle) in
        let j : place_of (get_or held p 0) < length places = omega (arith, is-place) in
        rw (add-one p, add-one n)
        (record {
          fits = s.fits;
          least = omega arith;
          rooms = length-set order n (get_or held p 0) ∙ s.rooms;
          flags = length-set handles h true ∙ s.flags;
          spots = length-set places t true ∙ s.spots;
          count = rw (l, length-append (lives_to (length held) held p) (get_or held p 0 ∷ []), s.count) (omega arith);
          is = rw l (take-suc-set order n (get_or held p 0) (omega arith) ∙ ap (λ (z : List ℕ). z ++ (get_or held p 0 ∷ [])) s.is);
          handle = rw (l, is-handle) (told_more (length held) handles handle_of (lives_to (length held) held p) (get_or held p 0) i s.handle);
          place = rw (l, is-place) (told_more (length held) places place_of (lives_to (length held) held p) (get_or held p 0) j s.place);
        })

pub looked-end : (held order : List ℕ) (handles places : List Bool) (p n : ℕ) → length held ≤ p → p ≤ length held → Looked held p n order handles places → Looked held (length held) n order handles places
looked-end held order handles places p n a b s = let e : p ≡ length held = omega arith in rw e at s

-- ---- the lowest number whose flag is not set

found-from : (flags : List Bool) (used : ℕ → Bool) (k : ℕ) → ((j : ℕ) → j < length flags → used (k + j) ≡ get_or flags j false) → k + position_or_len not flags ≡ lowest_from used k (length flags)
unfolding lowest_from
found-from [] used k same = omega arith
found-from (true ∷ l) used k same =
    let h : used k ≡ true = ap used (omega arith) ∙ same 0 (omega arith) in
    let r : suc k + position_or_len not l ≡ lowest_from used (suc k) (length l) = found-from l used (suc k) (λ j d. ap used (omega arith) ∙ same (suc j) (omega arith)) in
    rw h (omega (arith, r))
found-from (false ∷ l) used k same = let h : used k ≡ false = ap used (omega arith) ∙ same 0 (omega arith) in rw h (omega arith)

pub lowest-found : (flags : List Bool) (cap : ℕ) (o : Option ℕ) (r : ℕ) → cap ≤ length flags → o ≡ position not (take cap flags) → r ≡ unwrap_or o cap → r ≡ lowest_from (λ k. get_or flags k false) 0 cap
lowest-found flags cap o r h p e =
    let l : length (take cap flags) ≡ cap = length-take-le cap flags h in
    let m : position_or_len not (take cap flags) ≤ length (take cap flags) = prefix_len-le-length (λ x. not (not x)) (take cap flags) in
    let f : position_or_len not (take cap flags) ≡ lowest_from (λ k. get_or flags k false) 0 cap
    = rw (zero-add, l) at (found-from (take cap flags) (λ k. get_or flags k false) 0 (λ j d. rw zero-add (sym (get_or-take cap flags j false (omega arith))))) in
    by-test (ltb (position_or_len not (take cap flags)) (length (take cap flags)))
    (λ t. let u : r ≡ position_or_len not (take cap flags) = e ∙ rw (p, t) in u ∙ f)
    (λ t.
    let u : r ≡ cap = e ∙ rw (p, t) in
    let v : length (take cap flags) ≤ position_or_len not (take cap flags) = ltb-false _ _ t in
    let w : r ≡ position_or_len not (take cap flags) = omega arith in
    w ∙ f)

-- ---- the marks without one

pub record Others (marks : List ℕ) (h : ℕ) (held₀ held : List ℕ) (k i : ℕ) : Type 0 where
  pub ahead : i ≤ length marks
  pub least : k ≤ i
  pub len : length held ≡ length held₀
  pub front : Front (without handle_of (take i marks) h) held₀ held k

module _ (marks : List ℕ) (h : ℕ) (held₀ : List ℕ) (fit : MarksFit held₀ marks) where
  pub others-none : Others marks h held₀ held₀ 0 0
  unfolding without
  others-none = record { ahead = omega arith; least = omega arith; len = refl; front = front-none held₀ }

  without-snoc : (l : List ℕ) (m : ℕ) → without handle_of (l ++ (m ∷ [])) h ≡ without handle_of l h ++ cond (eqb (handle_of m) h) [] (m ∷ [])
  unfolding without
  without-snoc [] m = by-test (eqb (handle_of m) h) (λ e. rw e) (λ e. rw e)
  without-snoc (x ∷ l) m =
      by-test (eqb (handle_of x) h) (λ e. rw e (without-snoc l m)) (λ e. rw e (ap {B = List ℕ} (λ r. x ∷ r) (without-snoc l m)))

  module _ (held : List ℕ) (k i x : ℕ) (q : i < length marks) (o : Others marks h held₀ held k i) (e : x ≡ handle_of (get_or marks i 0)) where
    next : without handle_of (take (suc i) marks) h ≡ without handle_of (take i marks) h ++ cond (eqb (handle_of (get_or marks i 0)) h) [] (get_or marks i 0 ∷ [])
    next = ap (λ (l : List ℕ). without handle_of l h) (take-suc marks i 0 q) ∙ without-snoc (take i marks) (get_or marks i 0)

    -- a mark that has the handle, and one that has another
    pub others-same : x ≡ h → Others marks h held₀ held k (i + 1)
    others-same f =
        let u = o.least in
        let t : eqb (handle_of (get_or marks i 0)) h ≡ true = eq-eqb _ _ (sym e ∙ f) in
        let w : without handle_of (take (suc i) marks) h ≡ without handle_of (take i marks) h = next ∙ rw t (append-nil (without handle_of (take i marks) h)) in
        rw add-one (record { ahead = q; least = omega arith; len = o.len; front = rw w o.front })

    pub others-more : (x ≡ h → ⊥) → Others marks h held₀ (set held k (get_or marks i 0)) (k + 1) (i + 1)
    others-more f =
        let u = o.least in
        let a = fit.fits in
        let t : eqb (handle_of (get_or marks i 0)) h ≡ false = ne_eqb _ _ (λ d. f (e ∙ d)) in
        let w : without handle_of (take (suc i) marks) h ≡ without handle_of (take i marks) h ++ (get_or marks i 0 ∷ []) = next ∙ rw t in
        rw (add-one i)
        (record {
          ahead = q;
          least = omega arith;
          len = length-set held k (get_or marks i 0) ∙ o.len;
          front = rw w (front-more held₀ (without handle_of (take i marks) h) held k (get_or marks i 0) o.front (omega arith));
        })

  pub others-fit : (held : List ℕ) (k i : ℕ) → i < length marks → Others marks h held₀ held k i → k < length held
  others-fit held k i q o = let a = fit.fits in let b = o.least in let c = o.len in omega arith

  pub others-end : (held held' : List ℕ) (k i b : ℕ) → length marks ≤ i → Others marks h held₀ held k i → b ≡ length held → held' ≡ cleared 0 k b held
      → held' ≡ filled 0 (length held₀) (without handle_of marks h)
  others-end held held' k i b q o c e =
      let a = fit.fits in
      let u = o.least in
      let v = o.ahead in
      let g : i ≡ length marks = omega arith in
      let f : Front (without handle_of marks h) held₀ held k = rw (g, take-length marks) at o.front in
      front-filled held₀ 0 (without handle_of marks h) held held' k b f o.len (omega arith) c e

-- ---- the marks of the first places

pub handle-small : (m : ℕ) → handle_of m < 2048
unfolding handle_of
handle-small m = let q : m % 2048 < 2048 = mod-lt m (omega arith) in omega arith

pub handle-low-enough : (held marks : List ℕ) (k h m : ℕ) → MarksFit held marks → k < length marks → h ≡ handle_of m → Low k h
handle-low-enough held marks k h m f q e =
    let a = f.fits in
    let b = f.few in
    record { place = omega arith; handle = rw e (handle-small m) }

pub record Numbering (marks held₀ held : List ℕ) (k : ℕ) : Type 0 where
  pub ahead : k ≤ length marks
  pub len : length held ≡ length held₀
  pub front : Front (number_from 0 (take k marks)) held₀ held k

module _ (marks held₀ : List ℕ) (fit : MarksFit held₀ marks) where
  pub numbering-none : Numbering marks held₀ held₀ 0
  unfolding number_from
  numbering-none = record { ahead = omega arith; len = refl; front = front-none held₀ }

  number-snoc : (k : ℕ) (l : List ℕ) (m : ℕ) → number_from k (l ++ (m ∷ [])) ≡ number_from k l ++ (mark_of (k + length l) (handle_of m) ∷ [])
  unfolding number_from
  number-snoc k [] m = let e : k + 0 ≡ k = omega arith in rw e
  number-snoc k (x ∷ l) m =
      let e : suc k + length l ≡ k + suc (length l) = omega arith in
      ap {B = List ℕ} (λ r. mark_of k (handle_of x) ∷ r) (number-snoc (suc k) l m ∙ rw e)

  pub numbering-more : (held : List ℕ) (k h v : ℕ) → k < length marks → Numbering marks held₀ held k → h ≡ handle_of (get_or marks k 0) → v ≡ mark_of k h → Numbering marks held₀ (set held k v) (k + 1)
  numbering-more held k h v q o e f =
      let a = fit.fits in
      let t : take (suc k) marks ≡ take k marks ++ (get_or marks k 0 ∷ []) = take-suc marks k 0 q in
      let m : length (take k marks) ≡ k = length-take-le k marks (omega arith) in
      let z : 0 + length (take k marks) ≡ k = omega arith in
      let w : number_from 0 (take (suc k) marks) ≡ number_from 0 (take k marks) ++ (mark_of k (handle_of (get_or marks k 0)) ∷ [])
      = ap (number_from 0) t ∙ number-snoc 0 (take k marks) (get_or marks k 0) ∙ ap (λ (j : ℕ). number_from 0 (take k marks) ++ (mark_of j (handle_of (get_or marks k 0)) ∷ [])) z in
      let g : v ≡ mark_of k (handle_of (get_or marks k 0)) = f ∙ ap (mark_of k) e in
      rw (g, add-one k)
      (record {
        ahead = q;
        len = length-set held k (mark_of k (handle_of (get_or marks k 0))) ∙ o.len;
        front = rw w (rw (add-one k) at (front-more held₀ (number_from 0 (take k marks)) held k (mark_of k (handle_of (get_or marks k 0))) o.front (omega arith)));
      })

  pub numbering-end : (held held' : List ℕ) (k b : ℕ) → length marks ≤ k → Numbering marks held₀ held k → b ≡ length held → held' ≡ cleared 0 (length marks) b held
      → held' ≡ filled 0 (length held₀) (number_from 0 marks)
  numbering-end held held' k b q o c e =
      let a = fit.fits in
      let v = o.ahead in
      let g : k ≡ length marks = omega arith in
      let f : Front (number_from 0 marks) held₀ held (length marks) = rw (g, take-length marks) at o.front in
      front-filled held₀ 0 (number_from 0 marks) held held' (length marks) b f o.len (omega arith) c e
