-- Document 01, "Sizes": the least and the most of what is counted.
use Rattle.std.specs.Prelude.{ℕ}

-- "vertices of an outline"
abbrev pub least_vertices : ℕ
least_vertices = 2

abbrev pub most_vertices : ℕ
most_vertices = 1024

-- "basic intersections"
abbrev pub most_hits : ℕ
most_hits = 512

-- "joined overlaps"
abbrev pub most_laps : ℕ
most_laps = 128

-- "candidates of one outline"
abbrev pub most_candidates : ℕ
most_candidates = 768

-- "slices in a stitch, loops in an area pass"
abbrev pub most_slices : ℕ
most_slices = 1792
