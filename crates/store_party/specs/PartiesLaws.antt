-- Laws of parts: what a call of one party leaves of each party's part.
use Rattle.std.specs.Prelude.{ℕ, suc, ◌+◌, ◌*◌, ◌≤◌, ◌<◌, Bool, true, ◌≡◌, refl, List, ◌++◌, length, take, drop}
use Rattle.std.proofs.Math.Bool.{false}
use Rattle.std.proofs.Common.{sym, ◌∙◌, arith, mul-le-mul_left, take-append-drop, take-take, take-add}
use Rattle.std.proofs.Math.Seq.{paste}
use Rattle.store.specs.Keys.{keyed, without}
use Rattle.store.specs.Plain.{release}
use Rattle.store.specs.Blocks.{block}
use Rattle.store.specs.BlocksLaws.{length-block, block-paste-at, block-paste-other, length-paste-place}
use Rattle.store.specs.Marks.{handle_of, lives_of, filled}
use Rattle.store.specs.Lists.{Lists, lists, Sized, released_in, list_step}
use Rattle.store_party.specs.Parties.{part_of, rejoined, party_step}
use Rattle.store_party.specs.Ready.{share, PartReleased}

module _ (cap : ℕ) where
  pub part-sized : (p : ℕ) (w : Lists) → p < 2 → Sized (2 * cap) w → Sized cap (part_of cap p w)
  unfolding part_of
  part-sized p w h z =
      let a = z.marks in
      let b = z.fours in
      let c = z.sixes in
      let d = z.ones in
      record {
        marks = length-block cap w.held 2 p (omega arith) h;
        fours = length-block (4 * cap) w.at 2 p (omega arith) h;
        sixes = length-block (6 * cap) w.shape 2 p (omega arith) h;
        ones = length-block cap w.edition 2 p (omega arith) h;
      }

  module _ (p : ℕ) (w s : Lists) (h : p < 2) (z : Sized (2 * cap) w) (y : Sized cap s) where
    enough : {A : Type 0} (v : ℕ) (l : List A) → length l ≡ v * 2 → v * suc p ≤ length l
    enough v l e = let k : v * suc p ≤ v * 2 = mul-le-mul_left v h in omega arith

    pub rejoined-own : part_of cap p (rejoined cap p w s) ≡ s
    unfolding part_of rejoined
    rejoined-own =
        rw (
          block-paste-at cap w.held p s.held y.marks (enough cap w.held (z.marks ∙ omega arith)),
          block-paste-at (4 * cap) w.at p s.at y.fours (enough (4 * cap) w.at (z.fours ∙ omega arith)),
          block-paste-at (6 * cap) w.shape p s.shape y.sixes (enough (6 * cap) w.shape (z.sixes ∙ omega arith)),
          block-paste-at cap w.edition p s.edition y.ones (enough cap w.edition (z.ones ∙ omega arith)),
        )

    pub rejoined-other : (q : ℕ) → (q ≡ p → ⊥) → part_of cap q (rejoined cap p w s) ≡ part_of cap q w
    unfolding part_of rejoined
    rejoined-other q d =
        rw (
          block-paste-other cap w.held p s.held y.marks (enough cap w.held (z.marks ∙ omega arith)) q d,
          block-paste-other (4 * cap) w.at p s.at y.fours (enough (4 * cap) w.at (z.fours ∙ omega arith)) q d,
          block-paste-other (6 * cap) w.shape p s.shape y.sixes (enough (6 * cap) w.shape (z.sixes ∙ omega arith)) q d,
          block-paste-other cap w.edition p s.edition y.ones (enough cap w.edition (z.ones ∙ omega arith)) q d,
        )

    pub rejoined-sized : Sized (2 * cap) (rejoined cap p w s)
    unfolding rejoined
    rejoined-sized =
        record {
          marks = length-paste-place cap w.held p s.held y.marks (enough cap w.held (z.marks ∙ omega arith)) ∙ z.marks;
          fours = length-paste-place (4 * cap) w.at p s.at y.fours (enough (4 * cap) w.at (z.fours ∙ omega arith)) ∙ z.fours;
          sixes = length-paste-place (6 * cap) w.shape p s.shape y.sixes (enough (6 * cap) w.shape (z.sixes ∙ omega arith)) ∙ z.sixes;
          ones = length-paste-place cap w.edition p s.edition y.ones (enough cap w.edition (z.ones ∙ omega arith)) ∙ z.ones;
        }

-- ---- a part that is put back as it was changes nothing, whatever the lists hold

same-part : {A : Type 0} (w p : ℕ) (l : List A) → paste l (w * p) (block w l p) w ≡ l
unfolding block
same-part w p l =
    let e : take w (take w (drop (w * p) l)) ≡ take w (drop (w * p) l) = take-take w w (drop (w * p) l) (omega arith) in
    let f : take (w * p) l ++ take w (drop (w * p) l) ≡ take (w * p + w) l = sym (take-add (w * p) w l) in
    rw (e, f) (take-append-drop (w * p + w) l)

pub rejoined-same : (cap p : ℕ) (w : Lists) → rejoined cap p w (part_of cap p w) ≡ w
unfolding part_of rejoined
rejoined-same cap p w =
    rw (same-part cap p w.held, same-part (4 * cap) p w.at, same-part (6 * cap) p w.shape, same-part cap p w.edition)

-- ---- a release writes the marks alone: the other lists of the part are put back as they were

pub released-left : (w : Lists) (p h : ℕ) (held' : List ℕ) {r : Bool} → PartReleased w.held p h r held'
    → lists held' w.at w.shape w.edition ≡ (party_step share p w (release h)).left
released-left w p h held' t = go (keyed handle_of (lives_of share (block share w.held p)) h) refl
  where
    kept : keyed handle_of (lives_of share (block share w.held p)) h ≡ false → held' ≡ paste w.held (share * p) (block share w.held p) share
    kept e = rw e at t.marks

    gone : keyed handle_of (lives_of share (block share w.held p)) h ≡ true
        → held' ≡ paste w.held (share * p) (filled 0 share (without handle_of (lives_of share (block share w.held p)) h)) share
    gone e = rw e at t.marks

    go : (b : Bool) → keyed handle_of (lives_of share (block share w.held p)) h ≡ b → lists held' w.at w.shape w.edition ≡ (party_step share p w (release h)).left
    go true e =
        unfold party_step rejoined part_of list_step released_in in
        rw (e, gone e, same-part 3584 p w.at, same-part 5376 p w.shape, same-part 896 p w.edition)
    go false e =
        unfold party_step rejoined part_of list_step in
        rw (e, kept e, same-part 3584 p w.at, same-part 5376 p w.shape, same-part 896 p w.edition)
