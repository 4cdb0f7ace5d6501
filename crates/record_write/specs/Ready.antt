-- What the functions of the writer require.
use Rattle.std.specs.Prelude.{ℕ, ◌+◌, ◌*◌, ◌≤◌, ◌≡◌, List, length}
use Rattle.fields.specs.Fields.{size}
use Rattle.fields.specs.Ready.{NoNan}
use Rattle.slice.specs.Slice.{code_width, shape_width}
use Rattle.slice.specs.Editions.{Editions}
use Rattle.stitch_run.specs.declared.plan.Plan.{Plan}
use Rattle.stitch_run.specs.Stitch.{Given}
use Rattle.record_form.specs.declared.form.Version.{Version}
use Rattle.record.specs.declared.head.Head.{Head}
use Rattle.record_form.specs.Form.{taken_vertices, taken_slices, entry_width}
use Rattle.record_form.specs.Ready.{FormOk}
use Rattle.record.specs.Record.{plan_in, length_of}
use Rattle.record_values.specs.Ready.{Numbers}
use Rattle.record_write.specs.Writer.{length_given}

-- values for every field of a table, and room for its bytes
pub record PackFit (start stride : ℕ) (hs : List ℕ) (head : ℕ) (es : List ℕ) (values vertices slices m : ℕ) : Type 0 where
  pub heads : head ≡ length hs
  pub bytes : start ≡ size hs
  pub strides : stride ≡ size es
  pub all : values ≡ vertices * 3 + slices * length es
  pub room : start + (vertices * 24 + slices * stride) ≤ m

-- what the program takes
pub record KeepsIn (p : Plan) : Type 0 where
  pub few1 : p.vc1 ≤ taken_vertices
  pub few2 : p.vc2 ≤ taken_vertices
  pub few3 : p.slices ≤ taken_slices

-- values for every field of a head's record, and room for its bytes
pub record Packs (v : Version) (h : Head) (values m : ℕ) : Type 0 where
  pub form : FormOk v
  pub few : KeepsIn h.plan
  pub tolerance : Numbers h.plan.tolerance
  pub all : values ≡ (h.plan.vc1 + h.plan.vc2) * 3 + h.plan.slices * entry_width
  pub room : length_of v h.plan ≤ m

-- a stitch that can be written, and room for its bytes
pub record Keeps (v : Version) (g : Given) (e : Editions) (m : ℕ) : Type 0 where
  pub form : FormOk v
  pub few : KeepsIn (plan_in g)
  pub long1 : length g.outline1 ≡ 3 * g.vc1
  pub long2 : length g.outline2 ≡ 3 * g.vc2
  pub long3 : length g.slice_at ≡ code_width * g.slices
  pub long4 : length g.slice ≡ shape_width * g.slices
  pub long5 : length e.slices ≡ g.slices
  pub tolerance : Numbers g.tolerance
  pub plain1 : NoNan g.outline1
  pub plain2 : NoNan g.outline2
  pub plain3 : NoNan g.slice
  pub room : length_given v g ≤ m
