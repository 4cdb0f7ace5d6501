-- Each call does to the plain list, which the lists mean, what document 02 says.
use Prim.Native.Nat.{ℕ, suc, ◌+◌, ◌-◌, ◌*◌, ◌≤◌, ◌<◌}
use Rattle.std.specs.Prelude.{false, ◌≡◌, eqb}
use Rattle.std.proofs.Math.Path.{refl, ap}
use Rattle.std.proofs.Common.{sym, ◌∙◌, length-append}
use mathlib.Core.List.{List, [], ◌∷◌, ◌++◌, map, map-append, flat_map}
use native.Mathlib.Omega.{arith}
use Rattle.std.proofs.Math.ListN.{length, get_or, replicate, length-map, length-set, get_or-map, get_or-append}
use Rattle.std.proofs.Math.Seq.{get_or-set_same, get_or-set_other}
use borrow.Author.Tests.{eqb-false, ne_eqb}
use Rattle.basis.specs.Choice.{or_left, or_right}
use Rattle.basis.specs.All.{All}
use Rattle.basis.specs.Number.{+0}
use Rattle.store.specs.Keys.{keyed, without}
use Rattle.store.specs.KeysLaws.{keyed-map, without-map, without-most, lowest-same, lowest-below, lowest-new}
use Rattle.store.specs.Slice.{Slice, Whole}
use Rattle.store.specs.Plain.{Kept, kept, handle_in, has, free_handle}
use Rattle.store.specs.BlocksLaws.{length-block, block-paste-at, block-paste-other, length-paste-place, block-flat, length-flat}
use Rattle.store.specs.Marks.{mark_of, handle_of, place_of, filled}
use Rattle.store.specs.MarksLaws.{mark-handle, mark-place, mark-named, named-handle, named-place, fresh-yes, Proper, proper-snoc, proper-without, lives-proper, lives-most, lives-filled, lives-none, length-filled}
use Rattle.store.specs.Lists.{Lists, Sized, slice_at, kept_at, lives_in, plain_of, free_place, free_mark, written_at, put_in, released_in, marks_from, laid, compacted_in}

-- ---- the plain list and the marks

module _ (cap : ℕ) (s : Lists) where
  pub plain-length : length (plain_of cap s) ≡ length (lives_in cap s)
  unfolding plain_of
  plain-length = length-map (lives_in cap s) (kept_at s)

  pub plain-has : (h : ℕ) → has (plain_of cap s) h ≡ keyed handle_of (lives_in cap s) h
  unfolding plain_of kept_at
  plain-has h = keyed-map handle_in (kept_at s) (lives_in cap s) h

  pub plain-free : free_handle cap (plain_of cap s) ≡ free_mark cap s
  unfolding plain_of kept_at
  plain-free = lowest-same (has (plain_of cap s)) (keyed handle_of (lives_in cap s)) 0 cap (λ j a b. plain-has j)

  -- ---- release
  pub released-plain : (h : ℕ) → plain_of cap (released_in cap s h) ≡ without handle_in (plain_of cap s) h
  released-plain h = same ∙ sym whole
    where
      few : length (without handle_of (lives_in cap s) h) ≤ cap
      few =
          let a : length (without handle_of (lives_in cap s) h) ≤ length (lives_in cap s) = without-most handle_of (lives_in cap s) h in
          let b : length (lives_in cap s) ≤ cap = lives-most cap s.held cap in
          omega arith

      same : plain_of cap (released_in cap s h) ≡ map (kept_at s) (without handle_of (lives_in cap s) h)
      same = unfold plain_of released_in kept_at slice_at in rw (lives-filled cap (without handle_of (lives_in cap s) h) (proper-without cap (lives_in cap s) h (lives-proper cap s.held cap)) few)

      whole : without handle_in (plain_of cap s) h ≡ map (kept_at s) (without handle_of (lives_in cap s) h)
      whole = unfold plain_of kept_at in without-map handle_in (kept_at s) (lives_in cap s) h

  pub released-sized : (h : ℕ) → Sized cap s → Sized cap (released_in cap s h)
  unfolding released_in
  released-sized h z =
      let a : length (without handle_of (lives_in cap s) h) ≤ length (lives_in cap s) = without-most handle_of (lives_in cap s) h in
      let b : length (lives_in cap s) ≤ cap = lives-most cap s.held cap in
      record { marks = length-filled 0 cap (without handle_of (lives_in cap s) h) (omega arith); fours = z.fours; sixes = z.sixes; ones = z.ones }

-- ---- put

module _ (cap : ℕ) (s : Lists) (t h : ℕ) (x : Slice) (z : Sized cap s) (whole : Whole x) (below : t < cap) where
  four : 4 * suc t ≤ length s.at
  four = let q = z.fours in omega arith

  six : 6 * suc t ≤ length s.shape
  six = let q = z.sixes in omega arith

  -- the slices at other places stay
  slice-other : (p : ℕ) → (p ≡ t → ⊥) → slice_at (written_at cap s t h x) p ≡ slice_at s p
  unfolding slice_at written_at
  slice-other p d =
      rw (
        block-paste-other 4 s.at t x.code whole.four four p d,
        block-paste-other 6 s.shape t x.number whole.six six p d,
        get_or-set_other s.edition t p x.edition 0 d,
      )

  slice-here : slice_at (written_at cap s t h x) t ≡ x
  unfolding slice_at written_at
  slice-here =
      rw (
        block-paste-at 4 s.at t x.code whole.four four,
        block-paste-at 6 s.shape t x.number whole.six six,
        get_or-set_same s.edition t x.edition 0 (let q = z.ones in omega arith),
      )

  kept-others : (l : List ℕ) → keyed place_of l t ≡ false → map (kept_at (written_at cap s t h x)) l ≡ map (kept_at s) l
  unfolding keyed kept_at
  kept-others [] e = refl
  kept-others (m ∷ l) e =
      let a : place_of m ≡ t → ⊥ = eqb-false _ _ (or_left _ _ e) in
      rw (slice-other (place_of m) a) (ap {B = List (Kept Slice)} (λ r. kept_at s m ∷ r) (kept-others l (or_right (eqb (place_of m) t) _ e)))

  kept_here : h < 2047 → kept_at (written_at cap s t h x) (mark_of t h) ≡ kept h x
  unfolding kept_at
  kept_here small = rw (mark-handle t h small, mark-place t h small, slice-here)

  module _ (few : cap ≤ 2047) (low : h < cap) (room : length (lives_in cap s) < cap) (new : keyed handle_of (lives_in cap s) h ≡ false) (clear : keyed place_of (lives_in cap s) t ≡ false) where
    marks : List ℕ
    marks = lives_in cap s ++ (mark_of t h ∷ [])

    marks-proper : Proper cap marks
    unfolding marks
    marks-proper =
        let i : h < 2047 = omega arith in
        proper-snoc cap (lives_in cap s) (mark_of t h) (lives-proper cap s.held cap)
        (fresh-yes cap (lives_in cap s) (mark_of t h) (mark-named t h i cap low below) (rw (mark-handle t h i) new) (rw (mark-place t h i) clear))

    marks-few : length marks ≤ cap
    unfolding marks
    marks-few = rw (length-append (lives_in cap s) (mark_of t h ∷ [])) (omega arith)

    marks-live : lives_in cap (written_at cap s t h x) ≡ marks
    unfolding written_at marks
    marks-live = lives-filled cap (lives_in cap s ++ (mark_of t h ∷ [])) marks-proper marks-few

    written-plain : plain_of cap (written_at cap s t h x) ≡ plain_of cap s ++ (kept h x ∷ [])
    unfolding plain_of marks
    written-plain =
        let i : h < 2047 = omega arith in
        rw marks-live
        (map-append (kept_at (written_at cap s t h x)) (lives_in cap s) (mark_of t h ∷ [])
        ∙ rw (kept-others (lives_in cap s) clear, kept_here i))

    written-sized : Sized cap (written_at cap s t h x)
    unfolding written_at marks
    written-sized =
        record {
          marks = length-filled 0 cap (lives_in cap s ++ (mark_of t h ∷ [])) marks-few;
          fours = length-paste-place 4 s.at t x.code whole.four four ∙ z.fours;
          sixes = length-paste-place 6 s.shape t x.number whole.six six ∙ z.sixes;
          ones = length-set s.edition t x.edition ∙ z.ones;
        }

module _ (cap : ℕ) (s : Lists) (x : Slice) (few : cap ≤ 2047) (z : Sized cap s) (whole : Whole x) (room : length (lives_in cap s) < cap) where
  pub free-place : free_place cap s < cap
  free-place = lowest-below place_of cap (lives_in cap s) room

  pub free-handle : free_mark cap s < cap
  free-handle = lowest-below handle_of cap (lives_in cap s) room

  pub put-plain : plain_of cap (put_in cap s x) ≡ plain_of cap s ++ (kept (free_mark cap s) x ∷ [])
  unfolding put_in
  put-plain = written-plain cap s (free_place cap s) (free_mark cap s) x z whole free-place few free-handle room (lowest-new handle_of cap (lives_in cap s) room) (lowest-new place_of cap (lives_in cap s) room)

  pub put-sized : Sized cap (put_in cap s x)
  unfolding put_in
  put-sized = written-sized cap s (free_place cap s) (free_mark cap s) x z whole free-place few free-handle room (lowest-new handle_of cap (lives_in cap s) room) (lowest-new place_of cap (lives_in cap s) room)

-- ---- compaction

-- a plain list as lists of cap places can mean it: each handle below cap and another, each slice of four codes and six numbers
abbrev pub Good : ℕ → List (Kept Slice) → Type 0
Good cap [] = Unit {0}
Good cap (k ∷ l) = (k.handle < cap) × ((has l k.handle ≡ false) × (Whole k.slice × Good cap l))

kept-good : (cap : ℕ) (s : Lists) → Sized cap s → (l : List ℕ) → Proper cap l → Good cap (map (kept_at s) l)
unfolding kept_at slice_at
kept-good cap s z [] p = tt
kept-good cap s z (m ∷ l) p =
    let a = z.fours in
    let b = z.sixes in
    let t : place_of m < cap = named-place cap m p.0 in (
      named-handle cap m p.0,
      (
        keyed-map handle_in (kept_at s) l (handle_of m) ∙ p.1.0,
        (
          record { four = length-block 4 s.at cap (place_of m) (omega arith) t; six = length-block 6 s.shape cap (place_of m) (omega arith) t },
          kept-good cap s z l p.1.1.1,
        ),
      ),
    )

pub plain-good : (cap : ℕ) (s : Lists) → Sized cap s → Good cap (plain_of cap s)
unfolding plain_of
plain-good cap s z = kept-good cap s z (lives_in cap s) (lives-proper cap s.held cap)

all-fours : (cap : ℕ) (l : List (Kept Slice)) → Good cap l → All (λ k. length k.slice.code ≡ 4) l
all-fours cap [] g = tt
all-fours cap (k ∷ l) g = (g.1.1.0.four, all-fours cap l g.1.1.1)

all-sixes : (cap : ℕ) (l : List (Kept Slice)) → Good cap l → All (λ k. length k.slice.number ≡ 6) l
all-sixes cap [] g = tt
all-sixes cap (k ∷ l) g = (g.1.1.0.six, all-sixes cap l g.1.1.1)

-- the marks laid out from place k on
marks-length : (k : ℕ) (l : List (Kept Slice)) → length (marks_from k l) ≡ length l
unfolding marks_from
marks-length k [] = refl
marks-length k (x ∷ l) = ap suc (marks-length (suc k) l)

module _ (cap : ℕ) (few : cap ≤ 2047) where
  marks-handles : (k : ℕ) (l : List (Kept Slice)) (h : ℕ) → Good cap l → keyed handle_of (marks_from k l) h ≡ has l h
  unfolding marks_from keyed
  marks-handles k [] h g = refl
  marks-handles k (x ∷ l) h g =
      let a = g.0 in
      let i : x.handle < 2047 = omega arith in
      rw (mark-handle k x.handle i, marks-handles (suc k) l h g.1.1.1)

  marks-above : (k : ℕ) (l : List (Kept Slice)) (j : ℕ) → Good cap l → j < k → keyed place_of (marks_from k l) j ≡ false
  unfolding marks_from keyed
  marks-above k [] j g h = refl
  marks-above k (x ∷ l) j g h =
      let a = g.0 in
      let i : x.handle < 2047 = omega arith in
      let d : k ≡ j → ⊥ = λ e. omega arith in
      rw (mark-place k x.handle i, ne_eqb k j d) (marks-above (suc k) l j g.1.1.1 (omega arith))

  laid-proper : (k : ℕ) (l : List (Kept Slice)) → Good cap l → k + length l ≤ cap → Proper cap (marks_from k l)
  unfolding marks_from
  laid-proper k [] g h = tt
  laid-proper k (x ∷ l) g h =
      let a = g.0 in
      let i : x.handle < 2047 = omega arith in (
        mark-named k x.handle i cap a (omega arith),
        (
          rw (mark-handle k x.handle i) (marks-handles (suc k) l x.handle g.1.1.1 ∙ g.1.0),
          (
            rw (mark-place k x.handle i) (marks-above (suc k) l k g.1.1.1 (omega arith)),
            laid-proper (suc k) l g.1.1.1 (omega arith),
          ),
        ),
      )

  nobody : Kept Slice
  nobody = kept 0 (record { code = []; number = []; edition = 0 })

  -- lists whose places from k on hold the slices of l mean l
  kept-laid : (s : Lists) (k : ℕ) (l : List (Kept Slice)) → Good cap l → ((j : ℕ) → j < length l → slice_at s (k + j) ≡ (get_or l j nobody).slice) → map (kept_at s) (marks_from k l) ≡ l
  unfolding marks_from kept_at
  kept-laid s k [] g e = refl
  kept-laid s k (x ∷ l) g e =
      let a = g.0 in
      let i : x.handle < 2047 = omega arith in
      let k₀ : k + 0 ≡ k = omega arith in
      let e₀ : slice_at s k ≡ x.slice = ap (slice_at s) (sym k₀) ∙ e 0 (omega arith) in
      rw (mark-handle k x.handle i, mark-place k x.handle i, e₀)
      (ap {B = List (Kept Slice)} (λ r. x ∷ r)
      (kept-laid s (suc k) l g.1.1.1 (λ j h. let q : suc k + j ≡ k + suc j = omega arith in ap (slice_at s) q ∙ e (suc j) (omega arith))))

  module _ (l : List (Kept Slice)) (g : Good cap l) (h : length l ≤ cap) where
    laid-slice : (j : ℕ) → j < length l → slice_at (laid cap l) (0 + j) ≡ (get_or l j nobody).slice
    unfolding slice_at laid filled nobody
    laid-slice j i =
        let q : 0 + j ≡ j = omega arith in
        let m : j < length (map (λ k. k.slice.edition) l) = rw (length-map l (λ k. k.slice.edition)) i in
        let e : get_or (map (λ k. k.slice.edition) l ++ replicate (cap - length (map (λ k. k.slice.edition) l)) 0) j 0 ≡ (get_or l j nobody).slice.edition
        = get_or-append (map (λ k. k.slice.edition) l) (replicate (cap - length (map (λ k. k.slice.edition) l)) 0) 0 j m ∙ get_or-map (λ (k : Kept Slice). k.slice.edition) l j nobody in
        rw (
          q,
          block-flat (λ (k : Kept Slice). k.slice.code) 4 l (replicate (4 * cap - length (flat_map (λ k. k.slice.code) l)) 0) j nobody (all-fours cap l g) i,
          block-flat (λ (k : Kept Slice). k.slice.number) 6 l (replicate (6 * cap - length (flat_map (λ k. k.slice.number) l)) +0) j nobody (all-sixes cap l g) i,
          e,
        )

    laid-live : lives_in cap (laid cap l) ≡ marks_from 0 l
    unfolding laid
    laid-live = lives-filled cap (marks_from 0 l) (laid-proper 0 l g (omega arith)) (rw (marks-length 0 l) h)

    pub laid-plain : plain_of cap (laid cap l) ≡ l
    unfolding plain_of
    laid-plain = rw laid-live (kept-laid (laid cap l) 0 l g laid-slice)

    pub laid-sized : Sized cap (laid cap l)
    unfolding laid
    laid-sized =
        record {
          marks = length-filled 0 cap (marks_from 0 l) (rw (marks-length 0 l) h);
          fours = length-filled 0 (4 * cap) (flat_map (λ k. k.slice.code) l) (rw (length-flat (λ (k : Kept Slice). k.slice.code) 4 l (all-fours cap l g)) (omega arith));
          sixes = length-filled +0 (6 * cap) (flat_map (λ k. k.slice.number) l) (rw (length-flat (λ (k : Kept Slice). k.slice.number) 6 l (all-sixes cap l g)) (omega arith));
          ones = length-filled 0 cap (map (λ k. k.slice.edition) l) (rw (length-map l (λ k. k.slice.edition)) h);
        }

  module _ (s : Lists) (z : Sized cap s) where
    few-live : length (plain_of cap s) ≤ cap
    few-live = rw (plain-length cap s) (lives-most cap s.held cap)

    pub compacted-plain : plain_of cap (compacted_in cap s) ≡ plain_of cap s
    unfolding compacted_in
    compacted-plain = laid-plain (plain_of cap s) (plain-good cap s z) few-live

    pub compacted-sized : Sized cap (compacted_in cap s)
    unfolding compacted_in
    compacted-sized = laid-sized (plain_of cap s) (plain-good cap s z) few-live

-- ---- zeros are the empty store
pub empty-plain : (cap : ℕ) (s : Lists) → ((k : ℕ) → k < cap → get_or s.held k 0 ≡ 0) → plain_of cap s ≡ []
unfolding plain_of
empty-plain cap s z = ap (map (kept_at s)) (lives-none cap s.held cap z)
