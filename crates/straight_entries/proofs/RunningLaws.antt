-- The laws of joined reports.
use Prim.Native.Nat.{ℕ, zero, suc, ◌+◌, ◌*◌, ◌^◌, ◌≤◌, ◌<◌, zero-le}
use native.Mathlib.Omega.{arith}
use native.Mathlib.Nat.{le_refl, le_trans}
use mathlib.Core.Path.{◌≡◌, refl, sym, ap, subst, ◌∙◌}
use mathlib.Core.Bool.{Bool, false, cond}
use mathlib.Core.List.{List, [], ◌∷◌}
use lib.Dec.{eqb, ltb}
use lib.IntN.{ℤ, nat_abs}
use borrow.Author.Tests.{eq-eqb, ne_eqb, lt-ltb, le-ltb}
use Rattle.whole.specs.declared.two.Two.{Two}
use Rattle.whole.specs.Two.{value, two, Roomy}
use Rattle.whole.specs.TwoLaws.{high-below, value-two}
use Rattle.straight_entries.specs.declared.answer.ReportAnswer.{ReportAnswer}
use Rattle.basis.specs.Refuse.{answer}
use Rattle.straight.specs.Plane.{spots, area}
use Rattle.straight.specs.SumLaws.{code-most}
use Rattle.straight_report.specs.Report.{part, outlines, zeros, sizes, report_of, Loops}
use Rattle.straight_report.specs.MostTheorems.{area-most}
use Rattle.straight_report.specs.ReportLaws.{going-none, going-cut, cut-outline, four-thousand}
use Rattle.straight_entries.specs.Answers.{report_refused, report_found}
use Rattle.straight_entries.specs.ReportEntry.{report_refusal, report_answer, report-accepted}
use Rattle.straight_entries.specs.Running.{lowest, total, summed, joined, Reported, Both, Fewer, Joined}

-- a refusal, and no outline, are reports
pub refused-reported : (n : ℕ) (r : ReportAnswer) → r ≡ report_refused n → Reported r
refused-reported n r e = subst Reported (sym e) (record { few = zero-le; some = le_refl 0; large = le_refl 0 })

few-more : (h k : ℕ) → h ≤ 4096 → k ≤ 4096 → h + k < 2 ^ 64
few-more h k p q = omega arith

pub counts-fit : (a b : ReportAnswer) → Both a b → a.count + b.count < 2 ^ 64
counts-fit a b f = few-more a.count b.count f.first.few f.second.few

pub zeros-fit : (a b : ReportAnswer) → Both a b → a.zero + b.zero < 2 ^ 64
zeros-fit a b f = few-more a.zero b.zero (le_trans f.first.some f.first.few) (le_trans f.second.some f.second.few)

roomy : (h k : ℕ) → h < 72760 → k < 72760 → h + k + 1 < 2 ^ 64
roomy h k p q = omega arith

-- the high words are small
pub sum-roomy : (a b : ReportAnswer) (s t : Two) → Fewer a b → s ≡ record { high = a.high; low = a.low } → t ≡ record { high = b.high; low = b.low } → Roomy s t
sum-roomy a b s t f e g =
    let p : value s ≤ 1342177280000000000000000 = subst (λ (x : Two). value x ≤ 1342177280000000000000000) (sym e) (four-thousand (total a) a.count f.both.first.large f.both.first.few) in
    let q : value t ≤ 1342177280000000000000000 = subst (λ (x : Two). value x ≤ 1342177280000000000000000) (sym g) (four-thousand (total b) b.count f.both.second.large f.both.second.few) in
    record { fits = roomy s.high t.high (high-below s 1342177280000000000000000 72760 p tt) (high-below t 1342177280000000000000000 72760 q tt) }

pub sum_is : (a b : ReportAnswer) (s t u : Two) → u ≡ two (value s + value t) → s ≡ record { high = a.high; low = a.low } → t ≡ record { high = b.high; low = b.low }
    → record { refusal = 0; count = a.count + b.count; zero = a.zero + b.zero; high = u.high; low = u.low } ≡ summed a b
sum_is a b s t u e f g =
    let x : u ≡ two (total a + total b) = e ∙ (λ i. two (value (f i) + value (g i))) in
    λ i. record { refusal = 0; count = a.count + b.count; zero = a.zero + b.zero; high = (x i).high; low = (x i).low }

pub sum-reported : (a b r : ReportAnswer) → Fewer a b → r ≡ summed a b → Reported r
sum-reported a b r f e = subst Reported (sym e) (record { few = f.together; some = both; large = subst (λ (n : ℕ). n ≤ 327680000000000000000 * (a.count + b.count)) (sym (value-two (total a + total b))) most })
  where
    both : a.zero + b.zero ≤ a.count + b.count
    both = omega (arith, f.both.first.some, f.both.second.some)

    most : total a + total b ≤ 327680000000000000000 * (a.count + b.count)
    most = omega (arith, f.both.first.large, f.both.second.large)

-- ---- the code's three cases: the lowest number n was found, and the sum of the counts was tested
module _ (a b r : ReportAnswer) (n : ℕ) (e : n ≡ lowest a.refusal b.refusal) where
  pub join-refused : (n ≡ 0 → ⊥) → r ≡ report_refused n → Joined a b r
  unfolding joined
  join-refused h q =
      let low = lowest a.refusal b.refusal in
      let t : eqb low 0 ≡ false = ne_eqb low 0 (λ z. h (e ∙ z)) in
      record { answers = q ∙ ap report_refused e ∙ sym (ap (λ (x : Bool). cond x (cond (ltb 4096 (a.count + b.count)) (report_refused 19) (summed a b)) (report_refused low)) t); reported = refused-reported n r q }

  accepted : n ≡ 0 → joined a b ≡ cond (ltb 4096 (a.count + b.count)) (report_refused 19) (summed a b)
  unfolding joined
  accepted z =
      let low = lowest a.refusal b.refusal in
      ap (λ (x : Bool). cond x (cond (ltb 4096 (a.count + b.count)) (report_refused 19) (summed a b)) (report_refused low)) (eq-eqb low 0 (sym e ∙ z))

  pub join-many : n ≡ 0 → 4096 < a.count + b.count → r ≡ report_refused 19 → Joined a b r
  join-many z h q =
      record {
        answers = q ∙ sym (accepted z ∙ ap (λ (x : Bool). cond x (report_refused 19) (summed a b)) (lt-ltb 4096 (a.count + b.count) h));
        reported = refused-reported 19 r q;
      }

  pub join-few : n ≡ 0 → a.count + b.count ≤ 4096 → Both a b → r ≡ summed a b → Joined a b r
  join-few z h f q =
      record {
        answers = q ∙ sym (accepted z ∙ ap (λ (x : Bool). cond x (report_refused 19) (summed a b)) (le-ltb 4096 (a.count + b.count) h));
        reported = sum-reported a b r (record { both = f; together = h }) q;
      }

-- ---- the report on one outline
single-found : (o : List ℤ) (vc : ℕ) → Loops o (vc ∷ []) → Reported (report_found 1 (report_of (outlines o 0 (vc ∷ []))))
unfolding outlines zeros sizes
single-found o vc p =
    let z = code-most (eqb (nat_abs (area (spots (part o 0 vc)))) 0) in
    let m = area-most (cut-outline (going-cut p (going-none p) (le_refl 1))) in
    record {
      few = omega arith;
      some = omega (arith, z);
      large = subst (λ (n : ℕ). n ≤ 327680000000000000000) (sym (value-two (nat_abs (area (spots (part o 0 vc))) + 0))) (omega (arith, m));
    }

pub single-reported : (o : List ℤ) (vc : ℕ) (r : ReportAnswer) → r ≡ report_answer o (vc ∷ []) 1 → Reported r
unfolding answer
single-reported o vc r e = subst Reported (sym e) (go (report_refusal o (vc ∷ []) 1) refl)
  where
    go : (n : ℕ) → n ≡ report_refusal o (vc ∷ []) 1 → Reported (answer report_refused n (report_found 1 (report_of (outlines o 0 (vc ∷ [])))))
    go zero h = single-found o vc (report-accepted o (vc ∷ []) 1 0 h refl)
    go (suc n) h = refused-reported (suc n) (report_refused (suc n)) refl

pub both-reported : (a : ReportAnswer) (o : List ℤ) (vc : ℕ) (b : ReportAnswer) → Reported a → b ≡ report_answer o (vc ∷ []) 1 → Both a b
both-reported a o vc b h e = record { first = h; second = single-reported o vc b e }

pub join-next : (a b r : ReportAnswer) (o : List ℤ) (vc : ℕ) → Joined a b r → b ≡ report_answer o (vc ∷ []) 1 → Joined a (report_answer o (vc ∷ []) 1) r
join-next a b r o vc j e = subst (λ (x : ReportAnswer). Joined a x r) e j

pub ruleset joins = (refused-reported, sum-roomy, sum_is, join-refused, join-many, join-few)
