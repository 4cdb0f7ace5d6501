-- Two reports as one, so that a report can be made one outline at a time.
use Rattle.std.specs.Prelude.{ℕ, ◌+◌, ◌*◌, ◌/◌, ◌%◌, ◌^◌, ◌≤◌, cond, ◌≡◌, eqb, ltb}
use Rattle.straight_entries.specs.declared.answer.ReportAnswer.{ReportAnswer}
use Rattle.straight_entries.specs.Answers.{report_refused}

-- the lower of two refusals, where 0 is none
unfoldable pub lowest : ℕ → ℕ → ℕ
lowest n m = cond (eqb n 0) m (cond (eqb m 0) n (cond (ltb m n) m n))

abbrev pub total : ReportAnswer → ℕ
total a = a.high * 2 ^ 64 + a.low

abbrev pub summed : ReportAnswer → ReportAnswer → ReportAnswer
summed a b = record { refusal = 0; count = a.count + b.count; zero = a.zero + b.zero; high = (total a + total b) / 2 ^ 64; low = (total a + total b) % 2 ^ 64 }

-- the report on what a and b are of: the lowest refusal, else 19 where they are more than 4,096 outlines together, else the sums
unfoldable pub joined : ReportAnswer → ReportAnswer → ReportAnswer
joined a b = cond (eqb (lowest a.refusal b.refusal) 0) (cond (ltb 4096 (a.count + b.count)) (report_refused 19) (summed a b)) (report_refused (lowest a.refusal b.refusal))

-- what is true of every report
pub record Reported (a : ReportAnswer) : Type 0 where
  pub few : a.count ≤ 4096
  pub some : a.zero ≤ a.count
  pub large : total a ≤ 327680000000000000000 * a.count

pub record Both (a b : ReportAnswer) : Type 0 where
  pub first : Reported a
  pub second : Reported b

-- and their outlines are not too many
pub record Fewer (a b : ReportAnswer) : Type 0 where
  pub both : Both a b
  pub together : a.count + b.count ≤ 4096

pub record Joined (a b r : ReportAnswer) : Type 0 where
  pub answers : r ≡ joined a b
  pub reported : Reported r
