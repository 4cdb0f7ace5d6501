-- Laws of lists that are written from the front, and of the room that a chain begins in.
use Rattle.std.specs.Prelude.{ℕ, ◌+◌, ◌≤◌, ◌<◌, false, ◌≡◌, refl, List, [], ◌∷◌, ◌++◌, length, get_or, set}
use Rattle.std.proofs.Common.{◌∙◌, add-one, arith, length-append, length-set, take-suc-set, drop-set-lt}
use Rattle.stitch_run.specs.Run.{opened, turns}
use Rattle.stitch_run.specs.Stitch.{Given, rules_of, weight_at}
use Rattle.slice.specs.Slice.{slice_offset}
use Rattle.stitch_run.specs.RunLaws.{kept-turns}
use Rattle.stitch_run.specs.NeedLaws.{roomy-opened, held-turns}
use Rattle.stitch_run.specs.StitchLaws.{among, grows}
use Rattle.stitch_chain.specs.Ready.{Begun, done_to, most_of}

-- ---- a list that is written from the front

pub begun-none : {A : Type 0} (entry : List A) (need : ℕ) → Begun 0 [] entry need entry
begun-none entry need = record { front = refl; counted = refl; beyond = refl; size = refl }

pub begun-put : {A : Type 0} (k : ℕ) (items entry : List A) (need : ℕ) (l : List A) (a : A) → Begun k items entry need l → k < need → need ≤ length l
    → Begun (k + 1) (items ++ (a ∷ [])) entry need (set l k a)
begun-put k items entry need l a b h f =
    record {
      front = rw (add-one, take-suc-set l k a (omega arith), b.front);
      counted = rw (length-append items (a ∷ [])) (omega (arith, b.counted));
      beyond = drop-set-lt need l k a h ∙ b.beyond;
      size = length-set l k a ∙ b.size;
    }

-- the same items after a call that had the list lent
pub begun-then : {A : Type 0} (k m : ℕ) (items more entry : List A) (need : ℕ) (l l' : List A) → Begun k items entry need l → Begun m more l need l' → Begun m more entry need l'
begun-then k m items more entry need l l' b c =
    record { front = c.front; counted = c.counted; beyond = c.beyond ∙ b.beyond; size = c.size ∙ b.size }

-- there is room for the slice that a chain begins with
pub begins-fit : (g : Given) (i : ℕ) → i < g.slices → get_or (turns (rules_of g) i).visited i false ≡ false → done_to g i + (slice_offset g.slice_at i + 2) ≤ most_of g
unfolding rules_of weight_at opened
begins-fit g i h e =
    let R = rules_of g in
    let k = kept-turns R (among g) i (omega arith) in
    let y = roomy-opened R (among g) length (weight_at g.slice_at) (grows g) i (turns R i) h e k (held-turns R (among g) length (weight_at g.slice_at) (grows g) i (omega arith)) in
    omega (arith, y.begins)
