use native.Mathlib.Omega.{arith}
use lib.ListN.{length-set}
use Rattle.slice.specs.PutLaws.{putting}
use borrow.Author.Rules.{rules}
use Rattle.slice.proofs.write.put_shape.Goals as goal

pub put_point-requires : goal.put_point-requires
put_point-requires c = record { fits = simp length-set (omega arith) }

pub shape_of-room : goal.shape_of-room
shape_of-room c = search (rules, putting)

pub returns : goal.returns
returns c = search (rules, putting)
