-- A slice: its source and the view that is cut from it, as four codes and a shape of six numbers, and the edition of the outline it was cut from. Slices stand in three
-- lists: one has the codes of each, one its shape, one its edition.
use Rattle.std.specs.Prelude.{ℕ, ◌+◌, ◌*◌, List, [], ◌∷◌, ◌++◌, map, get_or, eqb, Float}
use Rattle.std.specs.Float.{nan}
use Rattle.outline.specs.Points.{point_numbers, vertex_numbers}
use Rattle.view.specs.declared.data.ViewData.{ViewData}
use Rattle.slice.specs.declared.data.Codes.{Codes}
use Rattle.slice.specs.declared.data.Shape.{Shape}

-- source, inverted, start, offset
abbrev pub code_width : ℕ
code_width = 4

-- updated start x, y, bulge, end bulge, end x, y
abbrev pub shape_width : ℕ
shape_width = 6

-- the view that codes and a shape are
abbrev pub view_of : Codes → Shape → ViewData
view_of c s =
    record {
      start_index = c.start;
      end_index_offset = c.offset;
      updated_start = s.updated_start;
      updated_end_bulge = s.end_bulge;
      end_point = s.end_point;
      inverted_direction = eqb c.inverted 1;
    }

-- a slice as one thing
pub record Slice : Type 0 where
  pub codes : Codes
  pub shape : Shape
  pub edition : ℕ

abbrev pub slice_of : Codes → Shape → ℕ → Slice
slice_of c s e = record { codes = c; shape = s; edition = e }

-- ---- read from the lists

-- the codes of slice number i
unfoldable pub codes_at : List ℕ → ℕ → Codes
codes_at at i =
    record {
      source = get_or at (code_width * i) 0;
      inverted = get_or at (code_width * i + 1) 0;
      start = get_or at (code_width * i + 2) 0;
      offset = get_or at (code_width * i + 3) 0;
    }

-- its shape
unfoldable pub shape_at : List Float → ℕ → Shape
shape_at l i =
    record {
      updated_start = record { x = get_or l (shape_width * i) nan; y = get_or l (shape_width * i + 1) nan; bulge = get_or l (shape_width * i + 2) nan };
      end_bulge = get_or l (shape_width * i + 3) nan;
      end_point = record { x = get_or l (shape_width * i + 4) nan; y = get_or l (shape_width * i + 5) nan };
    }

-- its view, and its offset
unfoldable pub slice_view : List ℕ → List Float → ℕ → ViewData
slice_view at shape i = view_of (codes_at at i) (shape_at shape i)

abbrev pub slice_offset : List ℕ → ℕ → ℕ
slice_offset at i = (codes_at at i).offset

-- ---- written to the lists
abbrev pub code_list : Codes → List ℕ
code_list c = c.source ∷ c.inverted ∷ c.start ∷ c.offset ∷ []

abbrev pub shape_list : Shape → List Float
shape_list s = vertex_numbers s.updated_start ++ (s.end_bulge ∷ point_numbers s.end_point)

abbrev pub codes_of : Slice → List ℕ
codes_of s = code_list s.codes

abbrev pub shape_of : Slice → List Float
shape_of s = shape_list s.shape

abbrev pub editions_of : List Slice → List ℕ
editions_of l = map (λ s. s.edition) l
