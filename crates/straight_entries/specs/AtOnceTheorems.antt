-- A report made one outline at a time is the report on all outlines at once: `joined` of the report on some outlines and of that on one more is what `mask_straight_report` answers of them all.
use Rattle.std.specs.Prelude.{ℕ, zero, suc, ◌+◌, ◌-◌, ◌*◌, ◌/◌, ◌%◌, ◌^◌, ◌≤◌, ◌≡◌, Bool, not, ◌&&◌, ◌||◌, length, take, drop, ℤ, nat_abs}
use native.Mathlib.Omega.{arith}
use Rattle.std.proofs.Common.{add_assoc, subst, ◌∙◌, length-append, length-drop, drop_at}
use Rattle.std.proofs.Math.Path.{refl, sym, ap}
use Rattle.std.proofs.Math.Bool.{true, false, cond}
use mathlib.Core.List.{List, [], ◌∷◌, ◌++◌}
use Rattle.std.proofs.Math.Dec.{eqb, ltb}
use Rattle.std.proofs.Math.Seq.{take_all}
use Rattle.std.proofs.lemmas.List.{take-append-le, drop-append-le}
use borrow.Author.Tests.{eq-eqb, ne_eqb, eqb-true, eqb-false, ltb-true, lt-ltb}
use Rattle.basis.specs.Choice.{by-test, or_left, or_right}
use Rattle.basis.specs.All.{all_append}
use Rattle.basis.specs.Refuse.{first_of, answer, length_fault, size_fault}
use Rattle.basis.specs.RefuseLaws.{ok-length, size_ok}
use Rattle.whole.specs.TwoLaws.{value-two}
use Rattle.basis.specs.Choice.{code_of}
use Rattle.straight.specs.Plane.{Spot, spots, area}
use Rattle.straight_report.specs.Report.{part, outlines, zeros, sizes, report_of, last_of, sizes_fault}
use Rattle.straight_report.specs.ReportLaws.{last-least}
use Rattle.straight_entries.specs.declared.answer.ReportAnswer.{ReportAnswer}
use Rattle.straight_entries.specs.Answers.{report_refused, report_found}
use Rattle.straight_entries.specs.Range.{in_reach, all_in_reach}
use Rattle.straight_entries.specs.ReportEntry.{report_refusal, report_answer, report-accepted}
use Rattle.straight_entries.specs.Running.{lowest, summed, joined}

-- ---- lists of ends, one more
or-false : (b : Bool) → (b || false) ≡ b
or-false true = refl
or-false false = refl

or_assoc : (a b c : Bool) → ((a || b) || c) ≡ (a || (b || c))
or_assoc true b c = refl
or_assoc false b c = refl

last_more : (d : ℕ) (es : List ℕ) (e : ℕ) → last_of d (es ++ (e ∷ [])) ≡ e
unfolding last_of
last_more d [] e = refl
last_more d (x ∷ es) e = last_more x es e

sizes-more : (d : ℕ) (es : List ℕ) (e : ℕ) → sizes_fault d (es ++ (e ∷ [])) ≡ (sizes_fault d es || size_fault (e - last_of d es))
unfolding sizes_fault last_of
sizes-more d [] e = or-false (size_fault (e - d))
sizes-more d (x ∷ es) e = ap (λ (b : Bool). size_fault (x - d) || b) (sizes-more x es e) ∙ sym (or_assoc (size_fault (x - d)) (sizes_fault x es) (size_fault (e - last_of x es)))

-- ---- the outlines, one more
part-front : (l o : List ℤ) (from e : ℕ) → from ≤ e → 2 * e ≤ length l → part (l ++ o) from e ≡ part l from e
part-front l o from e h k =
    let inside : 2 * from ≤ length l = omega arith in
    let few : 2 * e - 2 * from ≤ length (drop (2 * from) l) = subst (λ (n : ℕ). 2 * e - 2 * from ≤ n) (sym (length-drop (2 * from) l)) (omega arith) in
    ap (take (2 * e - 2 * from)) (drop-append-le (2 * from) l o inside) ∙ take-append-le (2 * e - 2 * from) (drop (2 * from) l) o few

part-last : (l o : List ℤ) (from vc : ℕ) → length l ≡ 2 * from → length o ≡ 2 * vc → part (l ++ o) from (from + vc) ≡ o
part-last l o from vc h k =
    let n : length o ≤ 2 * (from + vc) - 2 * from = omega arith in
    ap (take (2 * (from + vc) - 2 * from)) (drop_at l o (2 * from) h) ∙ take_all (2 * (from + vc) - 2 * from) o n

outlines-more : (l o : List ℤ) (vc from : ℕ) (es : List ℕ) → length o ≡ 2 * vc → sizes_fault from es ≡ false → length l ≡ 2 * last_of from es
    → outlines (l ++ o) from (es ++ ((last_of from es + vc) ∷ [])) ≡ outlines l from es ++ (spots o ∷ [])
unfolding outlines sizes_fault last_of
outlines-more l o vc from [] k s h = ap (λ (p : List ℤ). spots p ∷ []) (part-last l o from vc h k)
outlines-more l o vc from (x ∷ es) k s h =
    let size = size_ok (x - from) (or_left (size_fault (x - from)) _ s) in
    let rest = or_right (size_fault (x - from)) _ s in
    let most = last-least x es rest in
    let up : from ≤ x = omega (arith, size.0) in
    let inside : 2 * x ≤ length l = omega (arith, most) in
    λ i. spots (part-front l o from x up inside i) ∷ outlines-more l o vc x es k rest h i

zeros-more : (os : List (List Spot)) (o : List Spot) → zeros (os ++ (o ∷ [])) ≡ zeros os + zeros (o ∷ [])
unfolding zeros
zeros-more [] o = omega arith
zeros-more (p ∷ os) o = ap (λ (n : ℕ). code_of (eqb (nat_abs (area p)) 0) + n) (zeros-more os o) ∙ sym (add_assoc (code_of (eqb (nat_abs (area p)) 0)) (zeros os) (zeros (o ∷ [])))

sizes-sum : (os : List (List Spot)) (o : List Spot) → sizes (os ++ (o ∷ [])) ≡ sizes os + sizes (o ∷ [])
unfolding sizes
sizes-sum [] o = omega arith
sizes-sum (p ∷ os) o = ap (λ (n : ℕ). nat_abs (area p) + n) (sizes-sum os o) ∙ sym (add_assoc (nat_abs (area p)) (sizes os) (sizes (o ∷ [])))

-- ---- the numbers
abbrev num : Bool → Bool → Bool → ℕ
num s r m = cond s 2 (cond (not r) 18 (cond m 19 0))

-- where no length disagrees
refusal_is : (l : List ℤ) (ends : List ℕ) → length l ≡ 2 * last_of 0 ends → report_refusal l ends (length ends) ≡ num (sizes_fault 0 ends) (all_in_reach l) (ltb 4096 (length ends))
unfolding report_refusal first_of
refusal_is l ends h =
    let s = sizes_fault 0 ends in
    let r = all_in_reach l in
    let m = ltb 4096 (length ends) in
    ap (λ (b : Bool). cond (not b) 1 (cond (length_fault 2 (length l) (last_of 0 ends)) 1 (num s r m))) (eq-eqb (length ends) (length ends) refl)
    ∙ ap (λ (b : Bool). cond b 1 (num s r m)) (ok-length 2 (length l) (last_of 0 ends) h)

combine : (s1 s2 r1 r2 m m' : Bool) → (m ≡ true → m' ≡ true)
    → num (s1 || s2) (r1 && r2) m' ≡ cond (eqb (lowest (num s1 r1 m) (num s2 r2 false)) 0) (cond m' 19 0) (lowest (num s1 r1 m) (num s2 r2 false))
unfolding lowest
combine true true r1 r2 m m' f = refl
combine true false r1 true m m' f = refl
combine true false r1 false m m' f = refl
combine false true true r2 true m' f = refl
combine false true true r2 false m' f = refl
combine false true false r2 m m' f = refl
combine false false true true true m' f = ap (λ (b : Bool). cond b 19 0) (f refl)
combine false false true true false m' f = refl
combine false false true false true m' f = refl
combine false false true false false m' f = refl
combine false false false true m m' f = refl
combine false false false false m m' f = refl

lowest-none : (n m : ℕ) → lowest n m ≡ 0 → (n ≡ 0) × (m ≡ 0)
unfolding lowest
lowest-none n m e =
    by-test (eqb n 0)
    (λ t. (eqb-true n 0 t, sym (ap (λ (b : Bool). cond b m (cond (eqb m 0) n (cond (ltb m n) m n))) t) ∙ e))
    (λ t.
    let f = sym (ap (λ (b : Bool). cond b m (cond (eqb m 0) n (cond (ltb m n) m n))) t) ∙ e in
    by-test (eqb m 0)
    (λ u. absurd (eqb-false n 0 t (sym (ap (λ (b : Bool). cond b n (cond (ltb m n) m n)) u) ∙ f)))
    (λ u.
    let g = sym (ap (λ (b : Bool). cond b n (cond (ltb m n) m n)) u) ∙ f in
    by-test (ltb m n)
    (λ v. absurd (eqb-false m 0 u (sym (ap (λ (b : Bool). cond b m n) v) ∙ g)))
    (λ v. absurd (eqb-false n 0 t (sym (ap (λ (b : Bool). cond b m n) v) ∙ g)))))

-- ---- answers
number_of : (n : ℕ) (a : ReportAnswer) → a.refusal ≡ 0 → (answer report_refused n a).refusal ≡ n
unfolding answer
number_of zero a e = e
number_of (suc n) a e = refl

refused-of : (n m : ℕ) (a : ReportAnswer) → n ≡ m → (m ≡ 0 → ⊥) → answer report_refused n a ≡ report_refused m
unfolding answer
refused-of zero m a e h = absurd (h (sym e))
refused-of (suc n) m a e h = ap report_refused e

accepted-of : (n : ℕ) (a : ReportAnswer) → n ≡ 0 → answer report_refused n a ≡ a
unfolding answer
accepted-of n a e = ap (λ (k : ℕ). answer report_refused k a) e

-- ---- the theorem
module _ (l : List ℤ) (ends : List ℕ) (o : List ℤ) (vc : ℕ) (long : length l ≡ 2 * last_of 0 ends) (more : length o ≡ 2 * vc) where
  -- all of them
  abbrev pub all_points : List ℤ
  all_points = l ++ o

  abbrev pub all_ends : List ℕ
  all_ends = ends ++ ((last_of 0 ends + vc) ∷ [])

  n1 : ℕ
  n1 = report_refusal l ends (length ends)

  n2 : ℕ
  n2 = report_refusal o (vc ∷ []) 1

  first : ReportAnswer
  first = report_answer l ends (length ends)

  second : ReportAnswer
  second = report_answer o (vc ∷ []) 1

  counted : length all_ends ≡ length ends + 1
  counted = length-append ends ((last_of 0 ends + vc) ∷ [])

  whole : length all_points ≡ 2 * last_of 0 all_ends
  whole = length-append l o ∙ omega (arith, last_more 0 ends (last_of 0 ends + vc))

  n2-is : n2 ≡ num (size_fault vc) (all_in_reach o) false
  unfolding n2 sizes_fault last_of
  n2-is =
      let all_of : vc - 0 ≡ vc = omega arith in
      refusal_is o (vc ∷ []) more ∙ ap (λ (b : Bool). num b (all_in_reach o) false) (or-false (size_fault (vc - 0)) ∙ ap size_fault all_of)

  -- the number of all, by the two numbers
  number-all : report_refusal all_points all_ends (length all_ends) ≡ cond (eqb (lowest n1 n2) 0) (cond (ltb 4096 (length ends + 1)) 19 0) (lowest n1 n2)
  unfolding n1
  number-all =
      let s1 = sizes_fault 0 ends in
      let r1 = all_in_reach l in
      let m = ltb 4096 (length ends) in
      let m' = ltb 4096 (length ends + 1) in
      let here : last_of 0 ends + vc - last_of 0 ends ≡ vc = omega arith in
      let s = sizes-more 0 ends (last_of 0 ends + vc) ∙ ap (λ (n : ℕ). s1 || size_fault n) here in
      let r = all_append (in_reach 400000000) l o in
      let grows : m ≡ true → m' ≡ true = λ t. let h = ltb-true 4096 (length ends) t in lt-ltb 4096 (length ends + 1) (omega arith) in
      let e1 = refusal_is l ends long in
      refusal_is all_points all_ends whole
      ∙ (λ i. num (s i) (r i) (ltb 4096 (counted i)))
      ∙ combine s1 (size_fault vc) r1 (all_in_reach o) m m' grows
      ∙ (λ i. cond (eqb (lowest (sym e1 i) (sym n2-is i)) 0) (cond m' 19 0) (lowest (sym e1 i) (sym n2-is i)))

  refusal-first : first.refusal ≡ n1
  unfolding first n1
  refusal-first = number_of (report_refusal l ends (length ends)) (report_found (length ends) (report_of (outlines l 0 ends))) refl

  refusal-second : second.refusal ≡ n2
  unfolding second n2
  refusal-second = number_of (report_refusal o (vc ∷ []) 1) (report_found 1 (report_of (outlines o 0 (vc ∷ [])))) refl

  abbrev all : ReportAnswer
  all = report_answer all_points all_ends (length all_ends)

  -- refused
  join-refuses : (lowest n1 n2 ≡ 0 → ⊥) → joined first second ≡ all
  unfolding joined
  join-refuses h =
      let t : eqb (lowest n1 n2) 0 ≡ false = ne_eqb (lowest n1 n2) 0 h in
      let number : report_refusal all_points all_ends (length all_ends) ≡ lowest n1 n2 = number-all ∙ ap (λ (b : Bool). cond b (cond (ltb 4096 (length ends + 1)) 19 0) (lowest n1 n2)) t in
      (λ i. cond (eqb (lowest (refusal-first i) (refusal-second i)) 0) (cond (ltb 4096 (first.count + second.count)) (report_refused 19) (summed first second)) (report_refused (lowest (refusal-first i) (refusal-second i))))
      ∙ ap (λ (b : Bool). cond b (cond (ltb 4096 (first.count + second.count)) (report_refused 19) (summed first second)) (report_refused (lowest n1 n2))) t
      ∙ sym (refused-of (report_refusal all_points all_ends (length all_ends)) (lowest n1 n2) (report_found (length all_ends) (report_of (outlines all_points 0 all_ends))) number h)

  -- accepted: the sums are those of all
  found_first : lowest n1 n2 ≡ 0 → first ≡ report_found (length ends) (report_of (outlines l 0 ends))
  unfolding first n1
  found_first z = accepted-of (report_refusal l ends (length ends)) (report_found (length ends) (report_of (outlines l 0 ends))) (lowest-none n1 n2 z).0

  found-second : lowest n1 n2 ≡ 0 → second ≡ report_found 1 (report_of (spots o ∷ []))
  unfolding second n2 outlines
  found-second z =
      let same : part o 0 vc ≡ o = take_all (2 * vc - 2 * 0) o (omega arith) in
      accepted-of (report_refusal o (vc ∷ []) 1) (report_found 1 (report_of (outlines o 0 (vc ∷ [])))) (lowest-none n1 n2 z).1
      ∙ ap (λ (p : List ℤ). report_found 1 (report_of (spots p ∷ []))) same

  sums-all : (os : List (List Spot)) (p : List Spot) (n : ℕ) → summed (report_found n (report_of os)) (report_found 1 (report_of (p ∷ []))) ≡ report_found (n + 1) (report_of (os ++ (p ∷ [])))
  sums-all os p n =
      let t : (sizes os / 2 ^ 64 * 2 ^ 64 + sizes os % 2 ^ 64) + (sizes (p ∷ []) / 2 ^ 64 * 2 ^ 64 + sizes (p ∷ []) % 2 ^ 64) ≡ sizes (os ++ (p ∷ [])) = (λ i. value-two (sizes os) i + value-two (sizes (p ∷ [])) i) ∙ sym (sizes-sum os p) in
      λ i. record { refusal = 0; count = n + 1; zero = sym (zeros-more os p) i; high = t i / 2 ^ 64; low = t i % 2 ^ 64 }

  join-accepts : lowest n1 n2 ≡ 0 → joined first second ≡ all
  unfolding joined n1
  join-accepts z =
      let m' = ltb 4096 (length ends + 1) in
      let zero-both = lowest-none n1 n2 z in
      let sized = (report-accepted l ends (length ends) n1 refl zero-both.0).sized in
      let os = outlines l 0 ends in
      let more-outlines = outlines-more l o vc 0 ends more sized long in
      let t : eqb (lowest n1 n2) 0 ≡ true = eq-eqb (lowest n1 n2) 0 z in
      let number : report_refusal all_points all_ends (length all_ends) ≡ cond m' 19 0 = number-all ∙ ap (λ (b : Bool). cond b (cond m' 19 0) (lowest n1 n2)) t in
      let begun : joined first second ≡ cond m' (report_refused 19) (report_found (length ends + 1) (report_of (os ++ (spots o ∷ [])))) =
      (λ i. cond (eqb (lowest (refusal-first i) (refusal-second i)) 0) (cond (ltb 4096 (first.count + second.count)) (report_refused 19) (summed first second)) (report_refused (lowest (refusal-first i) (refusal-second i))))
      ∙ ap (λ (b : Bool). cond b (cond (ltb 4096 (first.count + second.count)) (report_refused 19) (summed first second)) (report_refused (lowest n1 n2))) t
      ∙ (λ i. cond (ltb 4096 ((found_first z i).count + (found-second z i).count)) (report_refused 19) (summed (found_first z i) (found-second z i)))
      ∙ ap (λ (r : ReportAnswer). cond m' (report_refused 19) r) (sums-all os (spots o) (length ends)) in
      by-test m'
      (λ u. begun ∙ ap (λ (b : Bool). cond b (report_refused 19) (report_found (length ends + 1) (report_of (os ++ (spots o ∷ []))))) u
      ∙ sym (refused-of (report_refusal all_points all_ends (length all_ends)) 19 (report_found (length all_ends) (report_of (outlines all_points 0 all_ends))) (number ∙ ap (λ (b : Bool). cond b 19 0) u) (λ e. omega arith)))
      (λ u. begun ∙ ap (λ (b : Bool). cond b (report_refused 19) (report_found (length ends + 1) (report_of (os ++ (spots o ∷ []))))) u
      ∙ (λ i. report_found (sym counted i) (report_of (sym more-outlines i)))
      ∙ sym (accepted-of (report_refusal all_points all_ends (length all_ends)) (report_found (length all_ends) (report_of (outlines all_points 0 all_ends))) (number ∙ ap (λ (b : Bool). cond b 19 0) u)))

  -- whatever the outlines are
  pub at_once : joined (report_answer l ends (length ends)) (report_answer o (vc ∷ []) 1) ≡ report_answer all_points all_ends (length all_ends)
  unfolding first second n1 n2
  at_once = by-test (eqb (lowest n1 n2) 0) (λ t. join-accepts (eqb-true (lowest n1 n2) 0 t)) (λ t. join-refuses (eqb-false (lowest n1 n2) 0 t))
