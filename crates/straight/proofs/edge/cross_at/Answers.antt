use Prim.Native.Nat.{◌+◌, ◌*◌}
use mathlib.Core.Path.{◌∙◌}
use lib.IntN.{ℤ, ◌*ℤ◌, ◌-ℤ◌}
use mir.Syntax.{w64}
use mir.Val.{to_z, of_z}
use Rattle.whole.specs.Fit.{Near}
use Rattle.whole.specs.FitLaws.{got, read, as-near, wider}
use Rattle.straight.specs.Plane.{cross}
use Rattle.straight.proofs.edge.cross_at.Goals as goal

-- a number of the list, as it is read back

held : {z : ℤ} → Near 400000000 z → Near 1600000000 (to_z w64 (of_z w64 z))
held h = as-near (read h tt) (wider 1600000000 tt h)

pub gap-requires : goal.gap-requires
gap-requires c =
    let near = c.requires.close in
    record {
      a-ok = held (near (2 * c.args.i));
      b-ok = held (near (2 * c.args.j + 1));
      c-ok = held (near (2 * c.args.j));
      d-ok = held (near (2 * c.args.i + 1));
    }

pub returns : goal.returns
unfolding cross
returns c =
    let near = c.requires.close in
    got c.gap.result c.gap.type_inv ∙ c.gap.ensures
    ∙ (λ i.
    read (near (2 * c.args.i)) tt i *ℤ read (near (2 * c.args.j + 1)) tt i
    -ℤ read (near (2 * c.args.j)) tt i *ℤ read (near (2 * c.args.i + 1)) tt i)
