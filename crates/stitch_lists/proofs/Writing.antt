-- What the lent lists hold at the end, and what the working lists hold at first.
use Prim.Native.Nat.{ℕ, zero, suc, ◌+◌, ◌*◌, ◌≤◌, ◌<◌}
use mathlib.Core.Bool.{Bool, false}
use mathlib.Core.Path.{◌≡◌, refl, sym, ap, ◌∙◌}
use mathlib.Core.List.{List, ◌∷◌}
use native.Mathlib.Nat.{not-suc-le-zero, le_of_suc-le-suc}
use native.Mathlib.Omega.{arith}
use lib.ListN.{length, take, replicate, get_or-replicate, length-replicate}
use lib.Seq.{length-take-le}
use lib.Ieee.{Float}
use Rattle.basis.specs.Number.{+0}
use Rattle.basis.specs.Sizes.{most_slices}
use Rattle.basis.specs.Room.{room_of, cleared}
use Rattle.stitch_tally.specs.declared.tally.Tally.{Tally}
use Rattle.stitch_run.specs.declared.plan.Plan.{Plan}
use Rattle.stitch_run.specs.Stitch.{Given, given, rules_of, run_of, need_of, round_count, loop_count, chain_count, room_items, end_items, chain_items, chain_end_items, how_items}
use Rattle.slice.specs.Slice.{slice_view}
use Rattle.stitch_run.specs.RunLaws.{same_length}
use Rattle.stitch_run.specs.StitchLaws.{among}
use Rattle.stitch_run.specs.Demand3Theorems.{room-items, end-items, chain-items, how-items, chains-at-most, loops-at-most}
use Rattle.stitch_layout.specs.declared.layout.Layout.{Layout}
use Rattle.stitch_links.specs.Hanging.{Hanged, hanged-between}
use Rattle.stitch_slices.specs.Ready.{Points}
use Rattle.stitch_chain.specs.Ready.{Begun}
use Rattle.stitch.specs.Lent.{Lists, TurnsFit, AllTurned, NeedFit, RestFit, RestCleared, StitchFit, Few, Tabled, Written}

-- a list that holds the items in front and was cleared behind them
room_of_lem : {A : Type 0} (nil : A) (w need k n : ℕ) (items entry l r : List A) → Begun k items entry n l → n ≡ w * need → r ≡ cleared nil k n l → r ≡ room_of nil w need items entry
unfolding room_of cleared
room_of_lem nil w need k n items entry l r b e c = c ∙ rw (b.front, b.beyond, b.counted, e)

module _ (g : Given) (x : Lists) (w : Tally) (x' : Lists) (need : ℕ) where
  -- what was written is within the need
  pub rest-fit : StitchFit g x → AllTurned g x w x' → need ≡ need_of g.slice_at g.slices → RestFit x' w need g.slices
  unfolding room_items end_items chain_items chain_end_items how_items
  rest-fit f t e =
      let h = t.holds in
      let few : w.chains ≤ g.slices = omega (arith, h.chain_how.counted, how-items g, chains-at-most g) in
      record {
        room = record { ordered = omega (arith, h.room.counted, room-items g); inside = omega (arith, h.room.size, f.long.room) };
        ends = record { ordered = omega (arith, h.ends.counted, end-items g, loops-at-most g, chains-at-most g); inside = omega (arith, h.ends.size, f.long.ends) };
        chain = record { ordered = omega (arith, h.chain.counted, chain-items g); inside = omega (arith, h.chain.size, f.long.chain) };
        chain_ends = record { ordered = few; inside = omega (arith, h.chain_ends.size, f.long.chain_ends) };
        chain_how = record { ordered = few; inside = omega (arith, h.chain_how.size, f.long.chain_how) };
      }

  pub written_of : (x'' : Lists) → AllTurned g x w x' → need ≡ need_of g.slice_at g.slices → RestCleared x' w need g.slices x''
      → Written g x (record { rounds = w.rounds; loops = w.loops; chains = w.chains }) x''
  unfolding round_count loop_count chain_count room_items end_items chain_items chain_end_items how_items
  written_of x'' t e c =
      let h = t.holds in
      let one : g.slices ≡ 1 * g.slices = omega arith in
      record {
        rounds = h.chain.counted ∙ same_length (rules_of g) (among g) (run_of g);
        loops = h.ends.counted ∙ end-items g;
        chains = h.chain_how.counted ∙ how-items g;
        room = room_of_lem +0 3 (need_of g.slice_at g.slices) (3 * w.done) (3 * need_of g.slice_at g.slices) _ x.room x'.room x''.room h.room refl (rw e at c.room);
        ends = room_of_lem 0 1 g.slices w.loops g.slices _ x.ends x'.ends x''.ends h.ends one c.ends;
        chain = room_of_lem 0 1 g.slices w.rounds g.slices _ x.chain x'.chain x''.chain h.chain one c.chain;
        chain_ends = room_of_lem 0 1 g.slices w.chains g.slices _ x.chain_ends x'.chain_ends x''.chain_ends h.chain_ends one c.chain_ends;
        chain_how = room_of_lem 0 1 g.slices w.chains g.slices _ x.chain_how x'.chain_how x''.chain_how h.chain_how one c.chain_how;
      }

-- ---- the working lists

pub take-marks : (n m : ℕ) → n ≤ m → take n (replicate m false) ≡ replicate n false
take-marks zero m h = refl
take-marks (suc n) zero h = absurd (not-suc-le-zero h)
take-marks (suc n) (suc m) h = ap (λ (l : List Bool). false ∷ l) (take-marks n m (le_of_suc-le-suc h))

pub marks-length : (most n : ℕ) → n ≤ most → n ≡ length (take n (replicate most false))
marks-length most n h = sym (length-take-le n (replicate most false) (rw (length-replicate most false) h))

-- working lists for at most `most` slices, and links for `held` lists of cells
pub tabled-of : (most full held : ℕ) (g : Given) (x : Lists) → Few most g x → (points : List Float) (visited : List Bool) (link : List ℕ) → length points ≡ 2 * most
    → visited ≡ take g.slices (replicate most false) → link ≡ replicate full full → (0 < held → held + most + most ≤ full) → held ≤ 4096 → Tabled g points visited link held x
tabled-of most full held g x f points visited link e m l h s =
    record {
      fit = f.fit;
      size = omega (arith, f.few);
      marks = m ∙ take-marks g.slices most f.few;
      small = s;
      long = λ d. omega (arith, f.few, ap length l, length-replicate full full, h d);
      none = λ i d. (let k = h (omega arith) in rw (l, get_or-replicate full i full 0 (omega arith)) (omega (arith, f.few)));
    }

pub few-of : (g : Given) (x : Lists) → StitchFit g x → Few most_slices g x
few-of g x f = record { fit = f; few = f.sound.few }

pub begin-turns : (o1 o2 : List Float) (at : List ℕ) (numbers : List Float) (p : Plan) (points points' : List Float) (visited : List Bool) (link link' : List ℕ) (held : ℕ) (by : Layout) (x : Lists)
    → Tabled (given o1 o2 at numbers p) points visited link held x → Points (given o1 o2 at numbers p) points' → Hanged points' link' p by → TurnsFit (given o1 o2 at numbers p) points' by visited link' x
begin-turns o1 o2 at numbers p points points' visited link link' held by x d t h =
    record {
      sound = d.fit.sound;
      table = t;
      long = d.fit.long;
      marks = d.marks;
      marked = ap length d.marks ∙ length-replicate p.slices false;
      hung = hanged-between points' link' p by visited h;
    }

module _ (g : Given) (x : Lists) (f : StitchFit g x) where
  pub need-fit : NeedFit g.slice_at g.slices
  unfolding slice_view
  need-fit =
      record {
        long = omega (arith, f.sound.at);
        few = f.sound.few;
        offsets = λ i h. let v = f.sound.views i h in omega (arith, v.reaches, v.whole.most);
      }
