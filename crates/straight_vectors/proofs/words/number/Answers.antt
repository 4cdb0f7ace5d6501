use Rattle.std.proofs.Common.{pos, refl, ◌∙◌, le_refl, le_of_lt}
use Rattle.whole.specs.FitLaws.{got, fit, sub-near, sub_fit}
use Rattle.straight_vectors.proofs.words.number.Goals as goal

pub overflow_sub-result : goal.overflow_sub-result
overflow_sub-result c =
    let w = c.signed in
    sub_fit {s = pos 2305843009213693952} (got w.result w.type_inv ∙ w.ensures) refl
    (fit (sub-near {a = pos c.word-w.result} {b = pos 2305843009213693952} (record { near = le_of_lt c.if-w-ge4611686018427387904.false }) (record { near = le_refl 2305843009213693952 })) tt)
