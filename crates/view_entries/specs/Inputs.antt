-- What hosts hand in by value, as the library's own data.
use Rattle.std.specs.Prelude.{ℕ, List, ◌++◌, eqb, Float}
use Rattle.basis.specs.Choice.{code_of}
use Rattle.outline.specs.declared.point.Point.{Point}
use Rattle.outline.specs.declared.point.Vertex.{Vertex}
use Rattle.outline.specs.Points.{point_numbers, vertex_numbers}
use Rattle.view.specs.declared.data.ViewData.{ViewData}
use Rattle.view.specs.declared.create.Walk.{Walk}
use Rattle.view_entries.specs.declared.input.View.{View}
use Rattle.view_entries.specs.declared.input.Split.{Split}

-- the yes/no code of the direction: 1 is inverted
abbrev pub view_data : View → ViewData
view_data v =
    record {
      start_index = v.start_index;
      end_index_offset = v.end_index_offset;
      updated_start = v.updated_start;
      updated_end_bulge = v.updated_end_bulge;
      end_point = v.end_point;
      inverted_direction = eqb v.inverted_direction 1;
    }

-- the same as hosts take it
abbrev pub flat_view : ViewData → View
flat_view v =
    record {
      start_index = v.start_index;
      end_index_offset = v.end_index_offset;
      updated_start = v.updated_start;
      updated_end_bulge = v.updated_end_bulge;
      end_point = v.end_point;
      inverted_direction = code_of v.inverted_direction;
    }

-- what `create` is given, from the entry's parameters: of the split it uses the first part's bulge
abbrev pub walk_of : ℕ → Point → ℕ → Vertex → ℕ → Split → Walk
walk_of start end at first traverse split =
    record {
      start_index = start;
      end_intersect = end;
      intersect_index = at;
      updated_start = first;
      traverse_count = traverse;
      split_bulge = split.updated_start.bulge;
    }

-- every f64 that `create` is handed beside the outline and the tolerance
abbrev pub walk_numbers : Walk → Split → List Float
walk_numbers w s =
    vertex_numbers w.updated_start ++ (point_numbers w.end_intersect ++ (vertex_numbers s.updated_start ++ vertex_numbers s.split_vertex))
