-- T3's union is accepted with room for 9 vertices, and T9: with room for 8 it is refused with number 9. Number 14 stands before that.
use Rattle.std.specs.Prelude.{◌≡◌, refl, [], ◌∷◌}
use Rattle.std.specs.Float.Ieee.{of_bits, lt, le}
use Rattle.basis.specs.Number.{abs_f, within, tolerable_on, tolerable}
use Rattle.basis.specs.All.{all_of}
use Rattle.basis.specs.Each.{each_to, places_at_most}
use Rattle.basis.specs.Refuse.{first_of, length_fault, size_fault, source_fault}
use Rattle.stitch_run.specs.Stitch.{sum_below, weight_at, need_for, need_of}
use Rattle.slice.specs.Faults.{source_known, start_inside, offset_inside, each_slice}
use Rattle.slice.specs.Slice.{codes_at}
use Rattle.slice.specs.Editions.{editions, edition_same, edition_fault}
use Rattle.stitch_run.specs.StitchExamples.{union}
use Rattle.stitch_faults.specs.StitchRows.{starts_fault, lengths}
use Rattle.stitch_faults.specs.StitchTable.{stitch_refusal}

pub t3-accepted : stitch_refusal union (editions 7 8 (7 ∷ 8 ∷ [])) (lengths 27 2 2 2 2) ≡ 0
unfolding stitch_refusal first_of length_fault size_fault source_fault each_slice source_known start_inside offset_inside each_to places_at_most tolerable tolerable_on all_of within abs_f of_bits lt le starts_fault edition_same edition_fault need_of need_for sum_below weight_at codes_at
t3-accepted = refl

pub t9 : stitch_refusal union (editions 7 8 (7 ∷ 8 ∷ [])) (lengths 24 2 2 2 2) ≡ 9
unfolding stitch_refusal first_of length_fault size_fault source_fault each_slice source_known start_inside offset_inside each_to places_at_most tolerable tolerable_on all_of within abs_f of_bits lt le starts_fault edition_same edition_fault need_of need_for sum_below weight_at codes_at
t9 = refl

-- the least edition and the greatest, each its outline's
pub edges-accepted : stitch_refusal union (editions 4294967295 0 (4294967295 ∷ 0 ∷ [])) (lengths 27 2 2 2 2) ≡ 0
unfolding stitch_refusal first_of length_fault size_fault source_fault each_slice source_known start_inside offset_inside each_to places_at_most tolerable tolerable_on all_of within abs_f of_bits lt le starts_fault edition_same edition_fault need_of need_for sum_below weight_at codes_at
edges-accepted = refl

-- a late outline 1, and then a late outline 2; the second also with room for 8
pub late-1 : stitch_refusal union (editions 0 8 (7 ∷ 8 ∷ [])) (lengths 27 2 2 2 2) ≡ 14
unfolding stitch_refusal first_of length_fault size_fault source_fault each_slice source_known start_inside offset_inside each_to places_at_most tolerable tolerable_on all_of within abs_f of_bits lt le starts_fault edition_same edition_fault need_of need_for sum_below weight_at codes_at
late-1 = refl

pub late-2 : stitch_refusal union (editions 7 4294967295 (7 ∷ 8 ∷ [])) (lengths 24 2 2 2 2) ≡ 14
unfolding stitch_refusal first_of length_fault size_fault source_fault each_slice source_known start_inside offset_inside each_to places_at_most tolerable tolerable_on all_of within abs_f of_bits lt le starts_fault edition_same edition_fault need_of need_for sum_below weight_at codes_at
late-2 = refl
