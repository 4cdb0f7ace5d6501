-- Document 01, "Pruning".
use Rattle.std.specs.Prelude.{ℕ, zero, suc, ◌+◌, ◌*◌, Bool, true, false, cond, length, get_or, eqb, Float}
use mathlib.Core.List.{List, [], ◌∷◌, ◌++◌, flat_map}
use Rattle.slice.specs.declared.data.Codes.{Codes}
use Rattle.slice.specs.Slice.{Slice, slice_of, shape_at, codes_of, shape_of, editions_of}
use Rattle.prune.specs.declared.call.Call.{Call}
use Rattle.prune.specs.declared.mode.Wanted.{Wanted}
use Rattle.prune.specs.declared.mode.Part.{Part}
use Rattle.prune.specs.declared.mode.Parts.{Parts}
use Rattle.prune.specs.declared.counts.Ends.{Ends}
use Rattle.prune.specs.declared.counts.Pruned.{Pruned}
use Rattle.prune.specs.declared.lists.Cands as lent_cands
use Rattle.prune.specs.declared.lists.Overlaps as lent_laps
use Rattle.prune.specs.declared.lists.Handed.{Handed}

-- ---- what is there

-- the candidates of one outline: start and offset, the six numbers, the edition it was cut from, "the inside answer per candidate": whether it lies inside the other outline
pub record Cands : Type 0 where
  pub at : List ℕ
  pub shape : List Float
  pub edition : List ℕ
  pub inside : List ℕ

abbrev pub cands : List ℕ → List Float → List ℕ → List ℕ → Cands
cands at shape edition inside = record { at = at; shape = shape; edition = edition; inside = inside }

-- the joined overlaps, each with the edition of outline 2 that it was found on
pub record Overlaps : Type 0 where
  pub at : List ℕ
  pub shape : List Float
  pub edition : List ℕ

abbrev pub overlaps : List ℕ → List Float → List ℕ → Overlaps
overlaps at shape edition = record { at = at; shape = shape; edition = edition }

-- a call: its numbers, the candidates of outline 1 and of outline 2, the overlaps
pub record Given : Type 0 where
  pub call : Call
  pub first : Cands
  pub second : Cands
  pub laps : Overlaps

abbrev pub given : Call → Cands → Cands → Overlaps → Given
given call first second laps = record { call = call; first = first; second = second; laps = laps }

-- the same, of the references that a function is handed
abbrev pub cands_in : lent_cands.Cands → Cands
cands_in c = cands c.at.now c.shape.now c.edition.now c.inside.now

abbrev pub laps_in : lent_laps.Overlaps → Overlaps
laps_in l = overlaps l.at.now l.shape.now l.edition.now

abbrev pub held : Handed → Given
held g = given g.call (cands_in g.first) (cands_in g.second) (laps_in g.laps)

abbrev pub call_of : ℕ → ℕ → ℕ → ℕ → ℕ → ℕ → ℕ → Call
call_of mode opposing vc1 vc2 count1 count2 laps =
    record { mode = mode; opposing = opposing; vc1 = vc1; vc2 = vc2; count1 = count1; count2 = count2; laps = laps }

-- ---- the table of modes: keep of 1, keep of 2, opposing wanted

abbrev outside : ℕ
outside = 0

abbrev inside : ℕ
inside = 1

abbrev wants : ℕ → ℕ → Bool → Wanted
wants a b o = record { keep1 = a; keep2 = b; opposing = o }

-- mode 0 is Union, 1 Intersection, 2 FirstMinusSecond, 3 SecondMinusFirst
unfoldable pub wanted_of : ℕ → Wanted
wanted_of mode =
    cond (eqb mode 0) (wants outside outside false)
    (cond (eqb mode 1) (wants inside inside false)
    (cond (eqb mode 2) (wants outside inside true)
    (wants inside outside true)))

-- "If "opposing wanted" differs from the outlines' own": 1, else 0
unfoldable pub turned_of : Bool → Bool → ℕ
turned_of wanted own = cond wanted (cond own 0 1) (cond own 1 0)

-- ".. only the kept of 1 are inverted."
unfoldable pub first_part : Wanted → Bool → Part
first_part w own = record { source = 1; inverted = turned_of w.opposing own; keep = w.keep1 }

unfoldable pub second_part : Wanted → Part
second_part w = record { source = 2; inverted = 0; keep = w.keep2 }

unfoldable pub parts_of : ℕ → Bool → Parts
parts_of mode own = let w = wanted_of mode in record { first = first_part w own; second = second_part w }

abbrev pub parts_for : Call → Parts
parts_for c = parts_of c.mode (eqb c.opposing 1)

-- ---- the slices that they become. K3: "pruning copies" the edition

-- candidate number k
unfoldable pub cand_codes : List ℕ → Part → ℕ → Codes
cand_codes at p k = record { source = p.source; inverted = p.inverted; start = get_or at (2 * k) 0; offset = get_or at (2 * k + 1) 0 }

abbrev pub cand_slice : Cands → Part → ℕ → Slice
cand_slice c p k = slice_of (cand_codes c.at p k) (shape_at c.shape k) (get_or c.edition k 0)

-- overlap number j: for 1 "inverted if opposing", for 2 "not inverted"
unfoldable pub lap_inverted : List ℕ → Bool → ℕ → ℕ
lap_inverted at first j = cond first (get_or at (7 * j + 4) 0) 0

-- "source outline 2", with the start and offset of the overlap's view
unfoldable pub lap_codes : List ℕ → Bool → ℕ → Codes
lap_codes at first j =
    record { source = 2; inverted = lap_inverted at first j; start = get_or at (7 * j + 5) 0; offset = get_or at (7 * j + 6) 0 }

abbrev pub lap_slice : Overlaps → Bool → ℕ → Slice
lap_slice l first j = slice_of (lap_codes l.at first j) (shape_at l.shape j) (get_or l.edition j 0)

-- ---- the list: "kept of 1, kept of 2, overlaps for 1 [..], overlaps for 2"

-- those that stay among the first k candidates of an outline
unfoldable pub kept_to : Cands → Part → ℕ → List Slice
kept_to c p zero = []
kept_to c p (suc k) = kept_to c p k ++ cond (eqb (get_or c.inside k 0) p.keep) (cand_slice c p k ∷ []) []

-- the first j overlaps
unfoldable pub laps_to : Overlaps → Bool → ℕ → List Slice
laps_to l first zero = []
laps_to l first (suc j) = laps_to l first j ++ (lap_slice l first j ∷ [])

abbrev pub kept_first : Given → List Slice
kept_first g = kept_to g.first (parts_for g.call).first g.call.count1

abbrev pub kept_second : Given → List Slice
kept_second g = kept_to g.second (parts_for g.call).second g.call.count2

abbrev pub laps_for : Bool → Given → List Slice
laps_for first g = laps_to g.laps first g.call.laps

unfoldable pub slices_of : Given → List Slice
slices_of g = kept_first g ++ (kept_second g ++ (laps_for true g ++ laps_for false g))

-- "Room needed: both candidate counts plus twice the overlaps."
abbrev pub need_of : Call → ℕ
need_of c = c.count1 + c.count2 + 2 * c.laps

-- the answer, from the ends of the four parts: how many slices, and where the classes begin
unfoldable pub pruned_at : Ends → Ends → Pruned
pruned_at kept laps =
    record { slices = laps.second; starts = record { pline2 = kept.first; pline1_overlapping = kept.second; pline2_overlapping = laps.first } }

unfoldable pub pruned_of : Given → Pruned
pruned_of g =
    let a = length (kept_first g) in
    let b = a + length (kept_second g) in
    let c = b + length (laps_for true g) in
    pruned_at (record { first = a; second = b }) (record { first = c; second = c + length (laps_for false g) })

-- the three lists that go out
abbrev pub slice_codes : Given → List ℕ
slice_codes g = flat_map codes_of (slices_of g)

abbrev pub slice_shapes : Given → List Float
slice_shapes g = flat_map shape_of (slices_of g)

abbrev pub slice_editions : Given → List ℕ
slice_editions g = editions_of (slices_of g)
