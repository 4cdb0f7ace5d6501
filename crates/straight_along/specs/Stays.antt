-- Document 02, K11, one outline: what stays of its candidates, one place of the order after the other. That this is pruning: straight_side/proofs/Staying.antt.
use Rattle.std.specs.Prelude.{ℕ, zero, suc, cond, List, [], ◌∷◌, ◌++◌, eqb, ℤ, Option, Some, None}
use Rattle.view.specs.declared.data.ViewData.{ViewData}
use Rattle.slice.specs.declared.data.Codes.{Codes}
use Rattle.slice.specs.declared.data.Shape.{Shape}
use Rattle.slice.specs.Slice.{Slice, slice_of}
use Rattle.candidate.specs.declared.at_cut.Candidate.{Candidate}
use Rattle.candidate.specs.Candidates as slices
use Rattle.prune.specs.declared.mode.Part.{Part}
use Rattle.straight_cut.specs.Inside.{inside_of}

-- the slice that a candidate's view becomes
abbrev pub view_codes : Part → ViewData → Codes
view_codes part v = record { source = part.source; inverted = part.inverted; start = v.start_index; offset = v.end_index_offset }

abbrev pub view_shape : ViewData → Shape
view_shape v = record { updated_start = v.updated_start; end_bulge = v.updated_end_bulge; end_point = v.end_point }

-- it stays where its answer is the one asked for
unfoldable pub stays_of : List ℤ → ℕ → Part → Option Candidate → List Slice
stays_of other edition part None = []
stays_of other edition part (Some c) = cond (eqb (inside_of other c.from c.to) part.keep) (slice_of (view_codes part c.view) (view_shape c.view) edition ∷ []) []

-- what stays of the first p places
unfoldable pub stays_to : List ℤ → ℕ → Part → slices.Given → ℕ → List Slice
stays_to other edition part g zero = []
stays_to other edition part g (suc p) = stays_to other edition part g p ++ stays_of other edition part (slices.candidate_at g p)
