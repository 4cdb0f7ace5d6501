-- A party's part lent to a call, and put back.
use mathlib.Core.Path.{◌≡◌, sym, ap, ◌∙◌}
use mathlib.Core.Bool.{Bool, true, false, cond}
use mathlib.Core.List.{List, ◌++◌, append_assoc}
use Prim.Native.Nat.{ℕ, ◌+◌, ◌-◌, ◌*◌, ◌≤◌}
use native.Mathlib.Omega.{arith}
use lib.ListN.{length, take, drop}
use lib.Seq.{paste, take_all, drop-drop}
use lib.Ieee.{Float}
use Rattle.std.specs.Prelude.{Option}
use Rattle.store.specs.Keys.{keyed, without}
use Rattle.store.specs.KeysLaws.{without-most}
use Rattle.store.specs.Slice.{Slice}
use Rattle.store.specs.Plain.{Call, put, compact, Answer}
use Rattle.store.specs.Blocks.{block}
use Rattle.store.specs.BlocksLaws.{length-block}
use Rattle.store.specs.Marks.{handle_of, lives_of, filled}
use Rattle.store.specs.MarksLaws.{lives-most, length-filled}
use Rattle.store.specs.Lists.{Lists, lists, Sized, plain_of, list_step}
use Rattle.store.specs.Refines.{Sound, sound-put, sound-compact, alike}
use Rattle.store_write.specs.Calls.{Fit, PutFits, Turned, handle_as, ReleaseFits, Released, Rooms, rooms, shown, ListFits, Listed}
use Rattle.store_party.specs.Parties.{part_of, rejoined, party_step}
use Rattle.store_party.specs.PartiesLaws.{part-sized}
use Rattle.store_party.specs.Ready.{Known, Begins, PartFits, PartPutFits, PartMarksFit, PartReleased, PartListFits, PartListed}

-- where a part begins
pub begins-first : (w p : ℕ) → p ≡ 0 → Begins w p 0
begins-first w p e = record { is = rw e (omega arith); low = omega arith }

pub begins-second : (w p : ℕ) → Known p → (p ≡ 0 → ⊥) → Begins w p w
begins-second w p k d = let h = k.below in let e : p ≡ 1 = omega (arith, d) in record { is = rw e (omega arith); low = omega arith }

-- the w elements from a on, as a call is lent them, and the list after the call left ys there
abbrev pub cut : {A : Type 0} → ℕ → ℕ → List A → List A
cut w a l = take ((a + w) - a) (drop a l)

abbrev pub back : {A : Type 0} → ℕ → ℕ → List A → List A → List A
back w a l ys = take a l ++ (ys ++ drop ((a + w) - a) (drop a l))

module _ {A : Type 0} (w p a : ℕ) (l : List A) (b : Begins w p a) where
  cut-block : cut w a l ≡ block w l p
  unfolding block
  cut-block = let e : (a + w) - a ≡ w = omega arith in rw e (ap (λ (x : ℕ). take w (drop x l)) b.is)

  back-paste : (ys : List A) → length ys ≡ w → back w a l ys ≡ paste l (w * p) ys w
  back-paste ys h = there ∙ ap (λ (x : ℕ). paste l x ys w) b.is
    where
      there : back w a l ys ≡ paste l a ys w
      there =
          let e : (a + w) - a ≡ w = omega arith in
          rw (e, drop-drop w a l, take_all w ys (omega arith)) (sym (append_assoc (take a l) ys (drop (a + w) l)))

-- the four parts of party p: of marks and editions, of codes, of numbers
module _ (p a a4 a6 : ℕ) (b : Begins 896 p a) (b4 : Begins 3584 p a4) (b6 : Begins 5376 p a6) where
  abbrev cuts : Lists → Lists
  cuts w = lists (cut 896 a w.held) (cut 3584 a4 w.at) (cut 5376 a6 w.shape) (cut 896 a w.edition)

  abbrev backs : Lists → Lists → Lists
  backs w s = lists (back 896 a w.held s.held) (back 3584 a4 w.at s.at) (back 5376 a6 w.shape s.shape) (back 896 a w.edition s.edition)

  cuts-part : (w : Lists) → cuts w ≡ part_of 896 p w
  unfolding part_of
  cuts-part w = rw (cut-block 896 p a w.held b, cut-block 3584 p a4 w.at b4, cut-block 5376 p a6 w.shape b6, cut-block 896 p a w.edition b)

  backs-rejoined : (w s : Lists) → Sized 896 s → backs w s ≡ rejoined 896 p w s
  unfolding rejoined
  backs-rejoined w s z =
      rw (
        back-paste 896 p a w.held b s.held z.marks,
        back-paste 3584 p a4 w.at b4 s.at z.fours,
        back-paste 5376 p a6 w.shape b6 s.shape z.sixes,
        back-paste 896 p a w.edition b s.edition z.ones,
      )

  -- ---- a part is lists of 896 places

  module _ (w : Lists) (f : PartFits w p) where
    z : Sized 896 (part_of 896 p w)
    z = part-sized 896 p w f.known f.sized

    part-fit : Fit (cuts w)
    part-fit = let m = z.marks in rw (cuts-part w) (record { sized = rw m z; most = omega arith })

    -- a call on the part that is lent is a call of the party
    module _ (c : Call Slice) (sound : Sound c) where
      step_is : list_step (length (cuts w).held) (cuts w) c ≡ list_step 896 (part_of 896 p w) c
      step_is = ap (λ (s : Lists). list_step (length s.held) s c) (cuts-part w) ∙ ap (λ (n : ℕ). list_step n (part_of 896 p w) c) z.marks

      left-sized : Sized 896 (list_step 896 (part_of 896 p w) c).left
      left-sized = (alike 896 (omega arith) (part_of 896 p w) c sound z).keeps

      left_back : (s : Lists) → s ≡ (list_step (length (cuts w).held) (cuts w) c).left → backs w s ≡ (party_step 896 p w c).left
      unfolding party_step
      left_back s e =
          let e' : s ≡ (list_step 896 (part_of 896 p w) c).left = rw step_is at e in
          rw e' (backs-rejoined w (list_step 896 (part_of 896 p w) c).left left-sized)

      says_same : {R : Type 0} (g : Answer Slice → R) (r : R) → r ≡ g (list_step (length (cuts w).held) (cuts w) c).answer → r ≡ g (party_step 896 p w c).answer
      unfolding party_step
      says_same g r e = rw step_is at e

-- ---- the calls, over the four lists as they are lent

module _ (held at : List ℕ) (shape : List Float) (edition : List ℕ) (p a a4 a6 : ℕ) (b : Begins 896 p a) (b4 : Begins 3584 p a4) (b6 : Begins 5376 p a6) where
  pub put-fits : (x : Slice) → PartPutFits (lists held at shape edition) p x → PutFits (lists (cut 896 a held) (cut 3584 a4 at) (cut 5376 a6 shape) (cut 896 a edition)) x
  put-fits x f = record { fit = part-fit p a a4 a6 b b4 b6 (lists held at shape edition) f.fits; whole = f.whole }

  pub put-part : (x : Slice) (r : Option ℕ) (h c : List ℕ) (s : List Float) (e : List ℕ) → PartPutFits (lists held at shape edition) p x
      → Turned handle_as (list_step (length (cut 896 a held)) (lists (cut 896 a held) (cut 3584 a4 at) (cut 5376 a6 shape) (cut 896 a edition)) (put x)) r (lists h c s e)
      → Turned handle_as (party_step 896 p (lists held at shape edition) (put x)) r (lists (back 896 a held h) (back 3584 a4 at c) (back 5376 a6 shape s) (back 896 a edition e))
  put-part x r h c s e f t =
      record {
        says = says_same p a a4 a6 b b4 b6 (lists held at shape edition) f.fits (put x) (sound-put f.whole) handle_as r t.says;
        leaves = left_back p a a4 a6 b b4 b6 (lists held at shape edition) f.fits (put x) (sound-put f.whole) (lists h c s e) t.leaves;
      }

  pub compact-fits : PartFits (lists held at shape edition) p → Fit (lists (cut 896 a held) (cut 3584 a4 at) (cut 5376 a6 shape) (cut 896 a edition))
  compact-fits f = part-fit p a a4 a6 b b4 b6 (lists held at shape edition) f

  pub compact-part : (h c : List ℕ) (s : List Float) (e : List ℕ) → PartFits (lists held at shape edition) p
      → lists h c s e ≡ (list_step (length (cut 896 a held)) (lists (cut 896 a held) (cut 3584 a4 at) (cut 5376 a6 shape) (cut 896 a edition)) compact).left
      → lists (back 896 a held h) (back 3584 a4 at c) (back 5376 a6 shape s) (back 896 a edition e) ≡ (party_step 896 p (lists held at shape edition) compact).left
  compact-part h c s e f t = left_back p a a4 a6 b b4 b6 (lists held at shape edition) f compact sound-compact (lists h c s e) t

  module _ (rh ra : List ℕ) (rs : List Float) (rd : List ℕ) (f : PartListFits (lists held at shape edition) p (rooms rh ra rs rd)) where
    m : length (cut 896 a held) ≡ 896
    m = ap length (cut-block 896 p a held b) ∙ length-block 896 held 2 p (let q = f.fits.sized.marks in omega arith) f.fits.known

    pub list-fits : ListFits (lists (cut 896 a held) (cut 3584 a4 at) (cut 5376 a6 shape) (cut 896 a edition)) (rooms rh ra rs rd)
    list-fits = record { fit = part-fit p a a4 a6 b b4 b6 (lists held at shape edition) f.fits; room = rw m f.room }

    pub list-part : (r : ℕ) (left : Rooms) → Listed (lists (cut 896 a held) (cut 3584 a4 at) (cut 5376 a6 shape) (cut 896 a edition)) (rooms rh ra rs rd) r left
        → PartListed (lists held at shape edition) p (rooms rh ra rs rd) r left
    list-part r left t = record { count = t.count ∙ ap length plain; shows = t.shows ∙ both }
      where
        plain : plain_of (length (cut 896 a held)) (cuts p a a4 a6 b b4 b6 (lists held at shape edition)) ≡ plain_of 896 (part_of 896 p (lists held at shape edition))
        plain = ap (λ (n : ℕ). plain_of n (cuts p a a4 a6 b b4 b6 (lists held at shape edition))) m ∙ ap (plain_of 896) (cuts-part p a a4 a6 b b4 b6 (lists held at shape edition))

        both : shown (length (cut 896 a held)) (plain_of (length (cut 896 a held)) (cuts p a a4 a6 b b4 b6 (lists held at shape edition))) (rooms rh ra rs rd)
            ≡ shown 896 (plain_of 896 (part_of 896 p (lists held at shape edition))) (rooms rh ra rs rd)
        both =
            ap (λ l. shown (length (cut 896 a held)) l (rooms rh ra rs rd)) plain
            ∙ ap (λ (n : ℕ). shown n (plain_of 896 (part_of 896 p (lists held at shape edition))) (rooms rh ra rs rd)) m

-- ---- release: the marks alone

module _ (held : List ℕ) (p h a : ℕ) (b : Begins 896 p a) (f : PartMarksFit held p) where
  long : length (block 896 held p) ≡ 896
  long = length-block 896 held 2 p (let q = f.whole in omega arith) f.known

  pub release-fits : ReleaseFits (cut 896 a held)
  release-fits = let e : length (cut 896 a held) ≡ 896 = ap length (cut-block 896 p a held b) ∙ long in record { most = omega arith }

  left-long : (t : Bool) → length (cond t (filled 0 896 (without handle_of (lives_of 896 (block 896 held p)) h)) (block 896 held p)) ≡ 896
  left-long true =
      let x : length (without handle_of (lives_of 896 (block 896 held p)) h) ≤ length (lives_of 896 (block 896 held p)) = without-most handle_of (lives_of 896 (block 896 held p)) h in
      let y : length (lives_of 896 (block 896 held p)) ≤ 896 = lives-most 896 (block 896 held p) 896 in
      length-filled 0 896 (without handle_of (lives_of 896 (block 896 held p)) h) (omega arith)
  left-long false = long

  pub release-part : (r : Bool) (ys : List ℕ) → Released (cut 896 a held) h r ys → PartReleased held p h r (back 896 a held ys)
  release-part r ys t =
      let t₁ : Released (block 896 held p) h r ys = rw (cut-block 896 p a held b) at t in
      let found : r ≡ keyed handle_of (lives_of 896 (block 896 held p)) h = rw long at t₁.found in
      let left : ys ≡ cond (keyed handle_of (lives_of 896 (block 896 held p)) h) (filled 0 896 (without handle_of (lives_of 896 (block 896 held p)) h)) (block 896 held p) = rw long at t₁.marks in
      record {
        found = found;
        marks = back-paste 896 p a held b ys (ap length left ∙ left-long (keyed handle_of (lives_of 896 (block 896 held p)) h)) ∙ ap (λ (x : List ℕ). paste held (896 * p) x 896) left;
      }
