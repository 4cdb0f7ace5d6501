-- Laws by which the test of a hint is proved: of an order of the cuts that a caller hands in.
use Prim.Native.Nat.{ℕ, zero, suc, ◌+◌, ◌*◌, ◌/◌, ◌%◌, ◌≤◌, ◌<◌}
use mathlib.Core.Bool.{Bool, true, false, not, ◌&&◌, ◌||◌, true≢false}
use mathlib.Core.Path.{◌≡◌, refl, sym, ap, ◌∙◌}
use mathlib.Core.List.{List, [], ◌∷◌, ◌++◌}
use native.Mathlib.Nat.{le_of_suc-le-suc}
use native.Mathlib.Omega.{arith}
use lib.ListN.{length, get_or, length-append, get_or-append}
use lib.Seq.{ext_get_or, get_or_at}
use lib.Arith.{lt_of_le-ne}
use lib.Dec.{ltb, eqb}
use lib.Ieee.{Float}
use mir.Syntax.{w64}
use mir.Val.{Fits}
use borrow.Author.Tests.{ltb-true, eqb-true, eqb-false, ne_eqb, not-true}
use Rattle.basis.specs.Choice.{code_of, by-test, and_left, and_right}
use Rattle.outline.specs.Outline.{Triple}
use Rattle.cut.specs.declared.arrival.Cut.{Cut}
use Rattle.cut.specs.Cuts.{Given, cut_count, cut_of, Arrival}
use Rattle.cut.specs.Order.{earlier, order_of, cut_numbers, Accepted}
use Rattle.cut_runs.specs.Sooner.{sooner}
use Rattle.cut_runs.specs.Runs.{Goes, before-it, arrived-first}
use Rattle.cut_order.specs.declared.along.Key.{Key}
use Rattle.cut_order.specs.Along.{key_by, goes_by, goes_on, follows_by, Third, Followed}
use Rattle.cut_order.specs.CutsLaws.{numbers-length, number_at}
use Rattle.cut_order.specs.OrderTheorems.{order-known}
use Rattle.cut_order.proofs.Keying.{distance-fit}

-- ---- a list by its places
abbrev listed : (ℕ → ℕ) → ℕ → List ℕ
listed h zero = []
listed h (suc n) = listed h n ++ (h n ∷ [])

listed-length : (h : ℕ → ℕ) (n : ℕ) → length (listed h n) ≡ n
listed-length h zero = refl
listed-length h (suc n) = length-append (listed h n) (h n ∷ []) ∙ omega (arith, listed-length h n)

listed_at : (h : ℕ → ℕ) (n i : ℕ) → i < n → get_or (listed h n) i 0 ≡ h i
listed_at h zero i k = absurd (omega arith)
listed_at h (suc n) i k =
    let m = listed-length h n in
    by-test (eqb i n) (λ e. let q = eqb-true i n e in rw q (get_or_at (listed h n) (h n) [] 0 n m))
    (λ e. let q = lt_of_le-ne (le_of_suc-le-suc k) (eqb-false i n e) in get_or-append (listed h n) (h n ∷ []) 0 i (omega arith) ∙ listed_at h n i q)

-- ---- what the test says
or_cases : (a b : Bool) → (a || b) ≡ true → a ≡ false → b ≡ true
or_cases true b h k = absurd (true≢false k)
or_cases false b h k = h

module _ (i : ℕ) (last key : Key) (b : Bool) (told : b ≡ sooner last.segment key.segment last.distance key.distance) where
  pub goes_before : b ≡ true → true ≡ goes_on i last key
  unfolding goes_on goes_by
  goes_before t = let e = sym told ∙ t in by-test (eqb i 0) (λ z. rw z) (λ z. rw (z, e))

  pub goes-else : (d r : Bool) → (i ≡ 0 → ⊥) → b ≡ false → d ≡ sooner key.segment last.segment key.distance last.distance → r ≡ (ltb last.arrival key.arrival && not d)
      → r ≡ goes_on i last key
  unfolding goes_on goes_by
  goes-else d r z t u e = let f = sym told ∙ t in let n = ne_eqb i 0 z in rw (n, f, sym u) e

pub ruleset going = (goes_before, goes-else)

module _ (g : Given) where
  goes-told : (x y : ℕ) → goes_by (key_by g.outline (cut_of g x) x) (key_by g.outline (cut_of g y) y) ≡ true → Goes (earlier g) x y
  unfolding goes_by key_by earlier
  goes-told x y h =
      by-test (earlier g x y) (λ e. before-it e)
      (λ e. let r : (ltb x y && not (earlier g y x)) ≡ true = or_cases (earlier g x y) _ h e in arrived-first (not-true (earlier g y x) (and_right (ltb x y) (not (earlier g y x)) r)) (ltb-true x y (and_left (ltb x y) (not (earlier g y x)) r)))

-- ---- the first i places of the hint were looked at
pub record Following (g : Given) (cut_at : List ℕ) (last : Key) (i : ℕ) : Type 0 where
  pub accepted : Accepted g
  pub exact : length cut_at ≡ 3 * cut_count g
  pub ahead : i ≤ cut_count g
  pub inside : (p : ℕ) → p < i → get_or cut_at (3 * p + 2) 0 < cut_count g
  pub segment : (p : ℕ) → p < i → get_or cut_at (3 * p) 0 ≡ (cut_of g (get_or cut_at (3 * p + 2) 0)).segment
  pub mark : (p : ℕ) → p < i → get_or cut_at (3 * p + 1) 0 ≡ code_of (cut_of g (get_or cut_at (3 * p + 2) 0)).mark
  pub goes : (p : ℕ) → p + 1 < i → Goes (earlier g) (get_or cut_at (3 * p + 2) 0) (get_or cut_at (3 * (p + 1) + 2) 0)
  pub newest : (p : ℕ) → p + 1 ≡ i → last ≡ key_by g.outline (cut_of g (get_or cut_at (3 * p + 2) 0)) (get_or cut_at (3 * p + 2) 0)

module _ (here : Given) (cut_at : List ℕ) where
  -- the arrival number that the hint has at a place
  abbrev said : ℕ → ℕ
  said p = get_or cut_at (3 * p + 2) 0

  pub follow-none : (last : Key) → Accepted here → length cut_at ≡ 3 * cut_count here → Following here cut_at last 0
  follow-none last k exact =
      record {
        accepted = k;
        exact = exact;
        ahead = omega arith;
        inside = λ p m. absurd (omega arith);
        segment = λ p m. absurd (omega arith);
        mark = λ p m. absurd (omega arith);
        goes = λ p m. absurd (omega arith);
        newest = λ p m. absurd (omega arith);
      }

  module _ (last : Key) (i : ℕ) (f : Following here cut_at last i) (m : i < cut_count here) where
    pub follow-arrival : said i < cut_count here → Arrival here (said i)
    follow-arrival n = record { ready = f.accepted.ready; arrives = n }

    -- places are machine numbers
    pub follow-fits : (j : ℕ) → j ≤ 3 → Fits w64 (3 * i + j)
    follow-fits j n = let a = f.accepted.ready.few_hits in let b = f.accepted.ready.few_laps in record { fits = omega arith }

    pub follow-next : Fits w64 (i + 1)
    follow-next = let a = f.accepted.ready.few_hits in let b = f.accepted.ready.few_laps in record { fits = omega arith }

    pub follow-triple : (o : List Float) → o ≡ here.outline → (c : Cut) → said i < cut_count here → c ≡ cut_of here (said i) → Triple o c.segment
    follow-triple o same c n e = distance-fit here o same (said i) c f.accepted.ready n e

    pub follow-third : Third cut_at i
    follow-third = record { inside = omega (arith, f.exact) }

    pub follow-more : (c : Cut) (key : Key) (x : Bool) → said i < cut_count here → c ≡ cut_of here (said i) → key ≡ key_by here.outline c (said i)
        → x ≡ follows_by cut_at i c last key → x ≡ true → Following here cut_at key (i + 1)
    unfolding follows_by goes_on
    follow-more c key x n e d q t =
        let same_segment = eqb (get_or cut_at (3 * i) 0) c.segment in
        let same_mark = eqb (get_or cut_at (3 * i + 1) 0) (code_of c.mark) in
        let goes_next = eqb i 0 || goes_by last key in
        let told : (same_segment && (same_mark && goes_next)) ≡ true = sym q ∙ t in
        let rest : (same_mark && goes_next) ≡ true = and_right same_segment (same_mark && goes_next) told in
        let on : goes_next ≡ true = and_right same_mark goes_next rest in
        let a = eqb-true (get_or cut_at (3 * i) 0) c.segment (and_left same_segment (same_mark && goes_next) told) in
        let b = eqb-true (get_or cut_at (3 * i + 1) 0) (code_of c.mark) (and_left same_mark goes_next rest) in
        let whole : key ≡ key_by here.outline (cut_of here (said i)) (said i) = d ∙ ap (λ (v : Cut). key_by here.outline v (said i)) e in
        record {
          accepted = f.accepted;
          exact = f.exact;
          ahead = omega arith;
          inside = λ p u. at p u f.inside n;
          segment = λ p u. by-test (eqb p i) (λ z. let y = eqb-true p i z in rw y (a ∙ ap (λ (v : Cut). v.segment) e)) (λ z. f.segment p (lower p u z));
          mark = λ p u. by-test (eqb p i) (λ z. let y = eqb-true p i z in rw y (b ∙ ap (λ (v : Cut). code_of v.mark) e)) (λ z. f.mark p (lower p u z));
          goes = λ p u. by-test (eqb (p + 1) i)
              (λ z. let y = eqb-true (p + 1) i z in
              let was = f.newest p y in
              let new : goes_by last key ≡ true = or_cases (eqb i 0) (goes_by last key) on (ne_eqb i 0 (λ v. omega arith)) in
              let both : goes_by (key_by here.outline (cut_of here (said p)) (said p)) (key_by here.outline (cut_of here (said i)) (said i)) ≡ true =
              ap (λ (v : Key). goes_by v (key_by here.outline (cut_of here (said i)) (said i))) (sym was) ∙ ap (λ (v : Key). goes_by last v) (sym whole) ∙ new in
              rw y (goes-told here (said p) (said i) both))
              (λ z. f.goes p (lower (p + 1) u z));
          newest = λ p u. let y : p ≡ i = omega arith in rw y whole;
        }
      where
        lower : (p : ℕ) → p < i + 1 → eqb p i ≡ false → p < i
        lower p u z = lt_of_le-ne (omega arith) (eqb-false p i z)

        at : (p : ℕ) → p < i + 1 → ((q : ℕ) → q < i → said q < cut_count here) → said i < cut_count here → said p < cut_count here
        at p u old new = by-test (eqb p i) (λ z. let y = eqb-true p i z in rw y new) (λ z. old p (lower p u z))

  pub follow-no : Followed here cut_at false
  follow-no = record { yes = λ e. absurd (true≢false (sym e)) }

  pub follow-end : (last : Key) (i : ℕ) → Following here cut_at last i → cut_count here ≤ i → Followed here cut_at true
  follow-end last i f m =
      let n = cut_count here in
      let order : listed said n ≡ order_of here = order-known here f.accepted (listed said n) (listed-length said n)
      (λ p u. rw (listed_at said n p u) (f.inside p (omega arith))) (λ p u. rw (listed_at said n p (omega arith), listed_at said n (p + 1) u) (f.goes p (omega arith))) in
      let same : (p : ℕ) → p < n → said p ≡ get_or (order_of here) p 0 = λ p u. sym (listed_at said n p u) ∙ ap (λ (z : List ℕ). get_or z p 0) order in
      record { yes = λ t. all f.exact (λ p u. same p u) (λ p u. f.segment p (omega arith)) (λ p u. f.mark p (omega arith)) }
    where
      -- the hint is the numbers of the cuts in their order
      all : length cut_at ≡ 3 * cut_count here → ((p : ℕ) → p < cut_count here → said p ≡ get_or (order_of here) p 0) → ((p : ℕ) → p < cut_count here → get_or cut_at (3 * p) 0 ≡ (cut_of here (said p)).segment)
          → ((p : ℕ) → p < cut_count here → get_or cut_at (3 * p + 1) 0 ≡ code_of (cut_of here (said p)).mark) → cut_at ≡ cut_numbers here
      all exact same segs marks =
          ext_get_or 0 cut_at (cut_numbers here) (exact ∙ sym (numbers-length here)) (λ q u. word q (omega (arith, exact)) (segs (q / 3) (omega (arith, exact))) (marks (q / 3) (omega (arith, exact))) (same (q / 3) (omega (arith, exact))))
        where
          word : (q : ℕ) → q < 3 * cut_count here → get_or cut_at (3 * (q / 3)) 0 ≡ (cut_of here (said (q / 3))).segment → get_or cut_at (3 * (q / 3) + 1) 0 ≡ code_of (cut_of here (said (q / 3))).mark
              → said (q / 3) ≡ get_or (order_of here) (q / 3) 0 → get_or cut_at q 0 ≡ get_or (cut_numbers here) q 0
          word q u a b c =
              let p = q / 3 in
              let at = number_at here p (omega arith) in
              let first : q % 3 ≡ 0 → get_or cut_at q 0 ≡ get_or (cut_numbers here) q 0 = λ z. let e : q ≡ 3 * p = omega arith in let f : 3 * p ≡ 3 * p + 0 = omega arith in
              ap (λ (v : ℕ). get_or cut_at v 0) e ∙ a ∙ ap (λ (v : ℕ). (cut_of here v).segment) c ∙ sym (at 0 (omega arith)) ∙ ap (λ (v : ℕ). get_or (cut_numbers here) v 0) (sym f ∙ sym e) in
              let second : q % 3 ≡ 1 → get_or cut_at q 0 ≡ get_or (cut_numbers here) q 0 = λ z. let e : q ≡ 3 * p + 1 = omega arith in
              ap (λ (v : ℕ). get_or cut_at v 0) e ∙ b ∙ ap (λ (v : ℕ). code_of (cut_of here v).mark) c ∙ sym (at 1 (omega arith)) ∙ ap (λ (v : ℕ). get_or (cut_numbers here) v 0) (sym e) in
              let third : q % 3 ≡ 2 → get_or cut_at q 0 ≡ get_or (cut_numbers here) q 0 = λ z. let e : q ≡ 3 * p + 2 = omega arith in
              ap (λ (v : ℕ). get_or cut_at v 0) e ∙ c ∙ sym (at 2 (omega arith)) ∙ ap (λ (v : ℕ). get_or (cut_numbers here) v 0) (sym e) in
              by-test (eqb (q % 3) 0) (λ z. first (eqb-true (q % 3) 0 z))
              (λ z. by-test (eqb (q % 3) 1) (λ y. second (eqb-true (q % 3) 1 y)) (λ y. let v = eqb-false (q % 3) 0 z in let x = eqb-false (q % 3) 1 y in third (omega arith)))

pub ruleset following = (follow-none, follow-third, follow-arrival, follow-fits, follow-next, follow-triple, follow-more, follow-no, follow-end)
