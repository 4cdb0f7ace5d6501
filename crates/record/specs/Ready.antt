-- What the functions of a head require and leave.
use Rattle.std.specs.Prelude.{ℕ, ◌≤◌, ◌<◌, ◌≡◌, List, length, get_or}
use Rattle.fields.specs.Fields.{size}
use Rattle.stitch_run.specs.declared.plan.Plan.{Plan}
use Rattle.record_form.specs.declared.form.Version.{Version}
use Rattle.record.specs.declared.head.Head.{Head}
use Rattle.record_form.specs.Form.{head_shape}
use Rattle.record.specs.Record.{head_in}
use Rattle.record_form.specs.Ready.{FormOk}

-- the byte at a place, 0 beyond the end
pub record ByteOr (b : List ℕ) (at r : ℕ) : Type 0 where
  pub value : r ≡ get_or b at 0
  pub below : r < 256

-- a whole head is there
pub record HeadFit (v : Version) (b : List ℕ) : Type 0 where
  pub form : FormOk v
  pub inside : size (head_shape v) ≤ length b

-- counts of 16 bits
pub record Counts (p : Plan) : Type 0 where
  pub first : p.vc1 < 65536
  pub second : p.vc2 < 65536
  pub third : p.slices < 65536

pub record HeadRead (v : Version) (b : List ℕ) (h : Head) : Type 0 where
  pub head : h ≡ head_in v b
  pub counts : Counts h.plan

pub record Sized (v : Version) (p : Plan) : Type 0 where
  pub form : FormOk v
  pub counts : Counts p
