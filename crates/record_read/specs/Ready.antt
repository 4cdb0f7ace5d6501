-- What the functions of the reader require and leave.
use Rattle.std.specs.Prelude.{ℕ, ◌+◌, ◌*◌, ◌^◌, ◌≤◌, ◌<◌, ◌≡◌, List, length, get_or}
use Rattle.std.proofs.lemmas.List.Edits.{sets}
use Rattle.fields.specs.Ready.{Each}
use Rattle.slice.specs.Slice.{code_width, shape_width}
use Rattle.stitch_run.specs.declared.plan.Plan.{Plan}
use Rattle.record_form.specs.declared.form.Version.{Version}
use Rattle.record.specs.declared.head.Lengths.{Lengths}
use Rattle.record_form.specs.Form.{taken_vertices, taken_slices, common_width, entry_width, column}
use Rattle.record.specs.Record.{Lists, outline1_from, outline2_from, slices_from, codes_from, shapes_from, dates_from, length_of}
use Rattle.record_form.specs.Ready.{FormOk}

-- rows of values, and room for what is wanted of them
pub record ColumnFit (n from stride offset per count m : ℕ) : Type 0 where
  pub part : offset + per ≤ stride
  pub inside : from + count * stride ≤ n
  pub target : count * per ≤ m

-- each value at a place of rows fits 32 bits
abbrev pub Short : List ℕ → ℕ → ℕ → ℕ → ℕ → Type 0
Short vs from stride offset count = (i : ℕ) → i < count → get_or vs (from + i * stride + offset) 0 < 2 ^ 32

-- of n rows, the `per` values from `offset` on stand at the front of a list, each as R says
pub record GatheredBy {B : Type 0} (R : ℕ → B → Type 0) (rows : List ℕ) (offset per n : ℕ) (l l' : List B) : Type 0 where
  pub items : List B
  pub each : Each R (column entry_width offset per n rows) items
  pub state : l' ≡ sets l 0 items

-- a value of 32 bits
pub record DateFit (value : ℕ) : Type 0 where
  pub short : value < 2 ^ 32

-- room for the lists of a plan
pub record Roomy (p : Plan) (l : Lengths) : Type 0 where
  pub first : 3 * p.vc1 ≤ l.outline1
  pub second : 3 * p.vc2 ≤ l.outline2
  pub codes : code_width * p.slices ≤ l.slice_at
  pub shapes : shape_width * p.slices ≤ l.slice
  pub dates : p.slices ≤ l.slice_edition

-- and its values, with editions of 32 bits
pub record ListsFit (p : Plan) (vs : List ℕ) (l : Lengths) : Type 0 where
  pub whole : slices_from p + p.slices * entry_width ≡ length vs
  pub short : Short vs (slices_from p) entry_width common_width p.slices
  pub roomy : Roomy p l

pub record ListsFilled (p : Plan) (vs : List ℕ) (l left : Lists) : Type 0 where
  pub first : left.outline1 ≡ sets l.outline1 0 (outline1_from p vs)
  pub second : left.outline2 ≡ sets l.outline2 0 (outline2_from p vs)
  pub codes : left.slice_at ≡ sets l.slice_at 0 (codes_from p vs)
  pub shapes : left.slice ≡ sets l.slice 0 (shapes_from p vs)
  pub dates : left.slice_edition ≡ sets l.slice_edition 0 (dates_from p vs)

-- the whole record, of n bytes, is there, within what the program takes
pub record Whole (v : Version) (n : ℕ) (p : Plan) : Type 0 where
  pub form : FormOk v
  pub whole : n ≡ length_of v p
  pub few1 : p.vc1 ≤ taken_vertices
  pub few2 : p.vc2 ≤ taken_vertices
  pub few3 : p.slices ≤ taken_slices

-- and room for m values
pub record ValuesFit (v : Version) (n : ℕ) (p : Plan) (m : ℕ) : Type 0 where
  pub all : Whole v n p
  pub room : 1024 ≤ m

-- and lists with room for what they hold
pub record BodyFit (v : Version) (n : ℕ) (p : Plan) (l : Lengths) : Type 0 where
  pub all : Whole v n p
  pub roomy : Roomy p l
