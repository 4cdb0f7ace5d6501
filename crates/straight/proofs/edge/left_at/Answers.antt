use mathlib.Core.Path.{◌≡◌, ◌∙◌, ap}
use lib.IntN.{ℤ, pos, ◌*ℤ◌, ◌-ℤ◌}
use lib.Signed.{lt_z}
use mir.Facts.{to_z-of_z}
use Rattle.whole.specs.FitLaws.{got, as-near}
use Rattle.straight.specs.Plane.{left, side, twice}
use Rattle.straight.proofs.EdgeLaws.{from-x, from-y, to-x, to-y, twice-near}
use Rattle.straight.proofs.edge.left_at.Goals as goal

line : {a b d e x y a' b' d' e' x' y' : ℤ} → a ≡ a' → b ≡ b' → d ≡ d' → e ≡ e' → x ≡ x' → y ≡ y'
    → (d -ℤ a) *ℤ (y -ℤ b) -ℤ (x -ℤ a) *ℤ (e -ℤ b) ≡ (d' -ℤ a') *ℤ (y' -ℤ b') -ℤ (x' -ℤ a') *ℤ (e' -ℤ b')
line p q r t u v = λ i. (r i -ℤ p i) *ℤ (v i -ℤ q i) -ℤ (u i -ℤ p i) *ℤ (t i -ℤ q i)

pub doubled-ax-requires : goal.doubled-ax-requires
doubled-ax-requires c = from-x c.requires.edge

pub doubled-ay-requires : goal.doubled-ay-requires
doubled-ay-requires c = from-y c.requires.edge

pub doubled-bx-requires : goal.doubled-bx-requires
doubled-bx-requires c = to-x c.requires.edge

pub doubled-by-requires : goal.doubled-by-requires
doubled-by-requires c = to-y c.requires.edge

pub side_of-requires : goal.side_of-requires
side_of-requires c =
    let a = c.doubled-ax in
    let b = c.doubled-ay in
    let d = c.doubled-bx in
    let e = c.doubled-by in
    record {
      ax-ok = as-near (got a.result a.type_inv ∙ a.ensures) (twice-near (from-x c.requires.edge).close);
      ay-ok = as-near (got b.result b.type_inv ∙ b.ensures) (twice-near (from-y c.requires.edge).close);
      bx-ok = as-near (got d.result d.type_inv ∙ d.ensures) (twice-near (to-x c.requires.edge).close);
      by-ok = as-near (got e.result e.type_inv ∙ e.ensures) (twice-near (to-y c.requires.edge).close);
      x-ok = as-near (to_z-of_z c.ranges.x) c.requires.x-ok;
      y-ok = as-near (to_z-of_z c.ranges.y) c.requires.y-ok;
    }

pub returns : goal.returns
unfolding left side twice
returns c =
    let a = c.doubled-ax in
    let b = c.doubled-ay in
    let d = c.doubled-bx in
    let e = c.doubled-by in
    let z = c.side_of in
    ap (lt_z (pos 0))
    (got z.result z.type_inv ∙ z.ensures
    ∙ line (got a.result a.type_inv ∙ a.ensures) (got b.result b.type_inv ∙ b.ensures) (got d.result d.type_inv ∙ d.ensures) (got e.result e.type_inv ∙ e.ensures)
    (to_z-of_z c.ranges.x) (to_z-of_z c.ranges.y))
