-- The loops over rows: what is left to do after `row` of them, over what is done, is the whole. A pass takes one row off what is left.
use Prim.Native.Nat.{ℕ, suc, ◌+◌, ◌-◌, ◌*◌, ◌≤◌, ◌<◌}
use mathlib.Core.Path.{◌≡◌, refl, sym, ap, ◌∙◌}
use mathlib.Core.List.{List, ◌++◌}
use native.Mathlib.Omega.{arith}
use lib.ListN.{length, drop, length-drop}
use lib.Seq.{drop-drop, sets, length-sets}
use Rattle.fields.specs.Fields.{size, pack, unpack, rows}
use Rattle.fields.specs.Ready.{ShapeAt, ShapeRead, ShapeFrom, RowsAt, RowsFrom}
use Rattle.fields.specs.FieldLaws.{length-pack, length-unpack, unpack-append, pack-append}
use Rattle.basis.specs.StoreLaws.{sets_then}
use Rattle.fields.specs.StepLaws.{row_inside, row_next}

-- no row is done: the places are the first
first : (p s : ℕ) → p + 0 * s ≡ p
first p s = omega arith

-- ---- reading
pub record ReadingRows (b : List ℕ) (at : ℕ) (ws : List ℕ) (stride n : ℕ) (vs : List ℕ) (to : ℕ) (vs' : List ℕ) (row : ℕ) : Type 0 where
  pub ready : RowsAt (length b) at ws stride n (length vs) to
  pub long : length vs' ≡ length vs
  pub state : sets vs' (to + row * length ws) (unpack (rows (n - row) ws) (drop (at + row * stride) b)) ≡ sets vs to (unpack (rows n ws) (drop at b))

pub reading-rows-none : (b : List ℕ) (at : ℕ) (ws : List ℕ) (stride n : ℕ) (vs : List ℕ) (to : ℕ) → RowsAt (length b) at ws stride n (length vs) to
    → ReadingRows b at ws stride n vs to vs 0
reading-rows-none b at ws stride n vs to h =
    let z : n - 0 ≡ n = omega arith in
    record { ready = h; long = refl; state = rw (first to (length ws), first at stride, z) }

module _ {b : List ℕ} {at : ℕ} {ws : List ℕ} {stride n : ℕ} {vs : List ℕ} {to : ℕ} {vs' : List ℕ} {row : ℕ}
    (g : ReadingRows b at ws stride n vs to vs' row) (h : row < n) where
  pub reading-row : at + row * stride + stride ≤ length b
  reading-row = row_inside at row n stride (length b) h g.ready.inside

  pub reading-room : to + row * length ws + length ws ≤ length vs'
  reading-room = let k : to + row * length ws + length ws ≤ length vs = row_inside to row n (length ws) (length vs) h g.ready.target in omega (arith, g.long)

  pub reading-shape : ShapeAt (length b) (at + row * stride) ws (length vs') (to + row * length ws)
  reading-shape =
      record {
        narrow = g.ready.narrow;
        inside = omega (arith, g.ready.bytes, reading-row);
        target = reading-room;
      }

  pub reading-rows-more : {vs'' : List ℕ} → ShapeRead b (at + row * stride) ws vs' vs'' (to + row * length ws) → ReadingRows b at ws stride n vs to vs'' (row + 1)
  unfolding rows
  reading-rows-more {vs''} r =
      let left = n - (row + 1) in
      let p = at + row * stride in
      let q = to + row * length ws in
      let k : n - row ≡ suc left = omega arith in
      let d : drop (size ws) (drop p b) ≡ drop (p + stride) b = drop-drop (size ws) p b ∙ ap (λ (u : ℕ). drop (p + u) b) (sym g.ready.bytes) in
      let e : unpack (ws ++ rows left ws) (drop p b) ≡ unpack ws (drop p b) ++ unpack (rows left ws) (drop (p + stride) b) =
      unpack-append ws (rows left ws) (drop p b) ∙ ap (λ (u : List ℕ). unpack ws (drop p b) ++ unpack (rows left ws) u) d in
      record {
        ready = g.ready;
        long = ap length r.values ∙ length-sets vs' q (unpack ws (drop p b)) ∙ g.long;
        state =
            rw (row_next to row (length ws), row_next at row stride, r.values)
            (sets_then vs' q (length ws) (unpack ws (drop p b)) (unpack (rows left ws) (drop (p + stride) b)) (length-unpack ws (drop p b))
            ∙ rw (k, e) at g.state);
      }

pub reading-rows-end : {b : List ℕ} {at : ℕ} {ws : List ℕ} {stride n : ℕ} {vs : List ℕ} {to : ℕ} {vs' : List ℕ} {row : ℕ}
    → ReadingRows b at ws stride n vs to vs' row → n ≤ row → vs' ≡ sets vs to (unpack (rows n ws) (drop at b))
unfolding rows unpack
reading-rows-end {n = n} {row = row} g h = let e : n - row ≡ 0 = omega arith in rw e at g.state

-- ---- writing
pub record WritingRows (vs : List ℕ) (from : ℕ) (ws : List ℕ) (stride n : ℕ) (l : List ℕ) (at : ℕ) (l' : List ℕ) (row : ℕ) : Type 0 where
  pub ready : RowsFrom (length vs) from ws stride n (length l) at
  pub long : length l' ≡ length l
  pub state : sets l' (at + row * stride) (pack (rows (n - row) ws) (drop (from + row * length ws) vs)) ≡ sets l at (pack (rows n ws) (drop from vs))

pub writing-rows-none : (vs : List ℕ) (from : ℕ) (ws : List ℕ) (stride n : ℕ) (l : List ℕ) (at : ℕ) → RowsFrom (length vs) from ws stride n (length l) at
    → WritingRows vs from ws stride n l at l 0
writing-rows-none vs from ws stride n l at h =
    let z : n - 0 ≡ n = omega arith in
    record { ready = h; long = refl; state = rw (first from (length ws), first at stride, z) }

module _ {vs : List ℕ} {from : ℕ} {ws : List ℕ} {stride n : ℕ} {l : List ℕ} {at : ℕ} {l' : List ℕ} {row : ℕ}
    (g : WritingRows vs from ws stride n l at l' row) (h : row < n) where
  pub writing-row : at + row * stride + stride ≤ length l'
  writing-row = let k : at + row * stride + stride ≤ length l = row_inside at row n stride (length l) h g.ready.inside in omega (arith, g.long)

  pub writing-source : from + row * length ws + length ws ≤ length vs
  writing-source = row_inside from row n (length ws) (length vs) h g.ready.source

  pub writing-shape : ShapeFrom (length vs) (from + row * length ws) ws (length l') (at + row * stride)
  writing-shape = record { source = writing-source; inside = omega (arith, g.ready.bytes, writing-row) }

  pub writing-rows-more : {l'' : List ℕ} → l'' ≡ sets l' (at + row * stride) (pack ws (drop (from + row * length ws) vs)) → WritingRows vs from ws stride n l at l'' (row + 1)
  unfolding rows
  writing-rows-more {l''} r =
      let left = n - (row + 1) in
      let p = at + row * stride in
      let q = from + row * length ws in
      let k : n - row ≡ suc left = omega arith in
      let m : length ws ≤ length (drop q vs) = rw length-drop (omega (arith, writing-source)) in
      let e : pack (ws ++ rows left ws) (drop q vs) ≡ pack ws (drop q vs) ++ pack (rows left ws) (drop (q + length ws) vs) =
      pack-append ws (rows left ws) (drop q vs) m
      ∙ ap (λ (u : List ℕ). pack ws (drop q vs) ++ pack (rows left ws) u) (drop-drop (length ws) q vs) in
      record {
        ready = g.ready;
        long = ap length r ∙ length-sets l' p (pack ws (drop q vs)) ∙ g.long;
        state =
            rw (row_next at row stride, row_next from row (length ws), r)
            (sets_then l' p stride (pack ws (drop q vs)) (pack (rows left ws) (drop (q + length ws) vs))
            (length-pack ws (drop q vs) m ∙ sym g.ready.bytes)
            ∙ rw (k, e) at g.state);
      }

pub writing-rows-end : {vs : List ℕ} {from : ℕ} {ws : List ℕ} {stride n : ℕ} {l : List ℕ} {at : ℕ} {l' : List ℕ} {row : ℕ}
    → WritingRows vs from ws stride n l at l' row → n ≤ row → l' ≡ sets l at (pack (rows n ws) (drop from vs))
unfolding rows pack
writing-rows-end {n = n} {row = row} g h = let e : n - row ≡ 0 = omega arith in rw e at g.state
