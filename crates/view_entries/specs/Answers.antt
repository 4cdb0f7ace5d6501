-- The flat answers of the entries. "A refusal returns its number and zero counts": all other fields are 0 or +0.
use Rattle.std.specs.Prelude.{ℕ, Option, Some, None}
use Rattle.basis.specs.Number.{+0}
use Rattle.outline.specs.declared.point.Point.{Point}
use Rattle.outline.specs.declared.point.Vertex.{Vertex}
use Rattle.view.specs.declared.data.ViewData.{ViewData}
use Rattle.view_entries.specs.declared.input.View.{View}
use Rattle.view_entries.specs.Inputs.{flat_view}
use Rattle.view_entries.specs.declared.answer.VertexAnswer.{VertexAnswer}
use Rattle.view_entries.specs.declared.answer.ViewAnswer.{ViewAnswer}

abbrev pub no_point : Point
no_point = record { x = +0; y = +0 }

abbrev pub no_vertex : Vertex
no_vertex = record { x = +0; y = +0; bulge = +0 }

abbrev pub no_view : View
no_view =
    record {
      start_index = 0;
      end_index_offset = 0;
      updated_start = no_vertex;
      updated_end_bulge = +0;
      end_point = no_point;
      inverted_direction = 0;
    }

-- ---- a vertex

abbrev pub vertex_refused : ℕ → VertexAnswer
vertex_refused n = record { refusal = n; found = 0; vertex = no_vertex }

-- found 1 and the vertex; "no vertex": found 0, the vertex all +0
unfoldable pub vertex_found : Option Vertex → VertexAnswer
vertex_found (Some v) = record { refusal = 0; found = 1; vertex = v }
vertex_found None = vertex_refused 0

-- ---- a view

abbrev pub view_refused : ℕ → ViewAnswer
view_refused n = record { refusal = n; found = 0; view = no_view }

unfoldable pub view_made : ViewData → ViewAnswer
view_made v = record { refusal = 0; found = 1; view = flat_view v }

-- no view where both ends agree: found 0, the view all 0
unfoldable pub segment_made : Option ViewData → ViewAnswer
segment_made (Some v) = view_made v
segment_made None = view_refused 0
