-- The invariant of the lists: slices looked at, taken off; marks set, chains begun.
use Rattle.std.specs.Prelude.{ℕ, suc, ◌+◌, ◌-◌, ◌≤◌, ◌<◌, Bool, true, false, not, List, ◌≡◌, refl, eqb, length, get_or, set}
use Rattle.std.proofs.Common.{arith, true≢false, sym, ap, ◌∙◌, length-set, get_or-set_same, get_or-set_other, lt-ltb, le-ltb, ne_eqb}
use Rattle.std.proofs.Math.Decide.{dec_lt, ℕ_discrete}
use Rattle.std.proofs.Math.ListN.{get_or-eq_default}
use Rattle.std.proofs.lemmas.Bool.{not-false}
use Rattle.basis.specs.Sizes.{most_slices}
use Rattle.select.specs.Select.{no_number}
use Rattle.basis.specs.Choice.{or_left, or_right}
use Rattle.stitch_run.specs.Run.{free}
use Rattle.stitch_layout.specs.declared.layout.Query.{Query}
use Rattle.stitch_layout.specs.Links.{Next, Run, place_of, Linked, ever_free}
use Rattle.stitch_links.specs.Looks.{Looked}

-- ---- where fewer slices are free, the invariant still holds
module _ (f g : ℕ → Bool) (L : ℕ → ℕ) (meets : Query → ℕ → Bool) (lists n : ℕ) (less : (j : ℕ) → f j ≡ false → g j ≡ false) where
  next-fewer : (h from x : ℕ) → Next f L lists n h from x → Next g L lists n h from x
  next-fewer h from x t = record { higher = t.higher; mine = t.mine; passed = λ j a b c d. less j (t.passed j a b c d) }

  pub linked-fewer : (link : List ℕ) → Linked f L meets lists n link → Linked g L meets lists n link
  linked-fewer link t = record { size = t.size; at = λ a h. next-fewer _ _ _ (t.at a h); runs = t.runs }

module _ (L : ℕ → ℕ) (meets : Query → ℕ → Bool) (lists n : ℕ) (link : List ℕ) where
  -- before any mark is set
  pub linked-fresh : (g : ℕ → Bool) → Linked ever_free L meets lists n link → Linked g L meets lists n link
  linked-fresh g t = linked-fewer ever_free g L meets lists n (λ j e. absurd (true≢false e)) link t

  marked : (visited : List Bool) (i j : ℕ) → get_or visited j false ≡ true → get_or (set visited i true) j false ≡ true
  marked visited i j e = go (ℕ_discrete j i) (dec_lt i (length visited))
    where
      go : Dec (j ≡ i) → Dec (i < length visited) → get_or (set visited i true) j false ≡ true
      go (no h) k = get_or-set_other visited i j true false h ∙ e
      go (yes h) (yes k) = rw h (get_or-set_same visited i true false k)
      go (yes h) (no k) = absurd (true≢false (sym e ∙ get_or-eq_default visited false (omega arith)))

  gone : (visited : List Bool) (first j : ℕ) → free visited first j ≡ false → (get_or visited j false ≡ true) × (eqb j first ≡ false)
  unfolding free
  gone visited first j e = (not-false _ (or_left _ _ e), or_right (not (get_or visited j false)) _ e)

  not_free : (visited : List Bool) (first j : ℕ) → get_or visited j false ≡ true → eqb j first ≡ false → free visited first j ≡ false
  unfolding free
  not_free visited first j e h = rw (e, h)

  -- a slice is visited, while a chain runs
  pub linked-visit : (visited : List Bool) (first i : ℕ) → Linked (free visited first) L meets lists n link → Linked (free (set visited i true) first) L meets lists n link
  linked-visit visited first i t =
      linked-fewer (free visited first) (free (set visited i true) first) L meets lists n
      (λ j e. let g = gone visited first j e in not_free (set visited i true) first j (marked visited i j g.0) g.1) link t

  -- a chain begins, with a slice that is not visited: it is the first now, and visited
  pub linked-begin : (visited : List Bool) (first i : ℕ) → get_or visited i false ≡ false → Linked (free visited first) L meets lists n link → Linked (free (set visited i true) i) L meets lists n link
  linked-begin visited first i h t =
      linked-fewer (free visited first) (free (set visited i true) i) L meets lists n
      (λ j e. let g = gone visited first j e in not_free (set visited i true) i j (marked visited i j g.0) (ne_eqb j i (λ q. true≢false (sym g.0 ∙ ap (λ (k : ℕ). get_or visited k false) q ∙ h))))
      link t

-- ---- a list is looked through
pub record Looking (f hit : ℕ → Bool) (L : ℕ → ℕ) (meets : Query → ℕ → Bool) (lists n h : ℕ) (link : List ℕ) (at next : ℕ) : Type 0 where
  pub linked : Linked f L meets lists n link
  pub place : at < lists + n
  pub home : place_of L lists at ≡ h
  pub here : next ≡ get_or link at 0
  pub passed : (j : ℕ) → j < suc at - lists → L j ≡ h → hit j ≡ false

module _ (f hit : ℕ → Bool) (L : ℕ → ℕ) (meets : Query → ℕ → Bool) (lists n h : ℕ) (asks : (j : ℕ) → f j ≡ false → hit j ≡ false) where
  pub looking-none : (link : List ℕ) → Linked f L meets lists n link → h < lists → Looking f hit L meets lists n h link h (get_or link h 0)
  unfolding place_of
  looking-none link t l =
      record { linked = t; place = omega arith; home = rw (lt-ltb h lists l); here = refl; passed = λ j p q. absurd (omega arith) }

  module _ (link : List ℕ) (at next : ℕ) (t : Looking f hit L meets lists n h link at next) where
    at_here : Next f L lists n h (suc at - lists) next
    at_here = let x = t.linked.at at t.place in rw (t.home, sym t.here) at x

    module _ (k : next < lists + n) where
      beyond : lists ≤ next
      beyond = omega (arith, at_here.higher)

      home-next : place_of L lists next ≡ h
      unfolding place_of
      home-next = rw (le-ltb next lists beyond) (at_here.mine k)

      at_next : Next f L lists n h (suc next - lists) (get_or link next 0)
      at_next = let x = t.linked.at next k in rw home-next at x

      -- the next link is higher: a look ends
      pub looking-less : next < get_or link next 0
      looking-less = let b = beyond in omega (arith, at_next.higher)

      pub looking-slice : (next - lists) < n
      looking-slice = let b = beyond in omega arith

      pub looking-under : lists ≤ next
      looking-under = beyond

      pub looking-home : L (next - lists) ≡ h
      looking-home = at_here.mine k

      -- a run of which no slice is a hit is passed
      module _ (last : ℕ) (r : Run L meets lists n (next - lists) last) where
        home-last : place_of L lists last ≡ h
        unfolding place_of
        home-last = let b = beyond in rw (le-ltb last lists (omega (arith, r.higher))) (r.mine ∙ at_here.mine k)

        at_last : Next f L lists n h (suc last - lists) (get_or link last 0)
        at_last = let x = t.linked.at last r.inside in rw home-last at x

        pub looking-further : next < get_or link last 0
        looking-further = let b = beyond in omega (arith, at_last.higher, r.higher)

        pub looking-on : ((j : ℕ) → next - lists ≤ j → lists + j ≤ last → L j ≡ h → hit j ≡ false) → Looking f hit L meets lists n h link last (get_or link last 0)
        looking-on m =
            record { linked = t.linked; place = r.inside; home = home-last; here = refl; passed = λ j p q. go j p q (dec_lt j (suc at - lists)) (dec_lt j (next - lists)) }
          where
            go : (j : ℕ) → j < suc last - lists → L j ≡ h → Dec (j < suc at - lists) → Dec (j < next - lists) → hit j ≡ false
            go j p q (yes u) v = t.passed j u q
            go j p q (no u) (yes v) = let b = beyond in asks j (at_here.passed j (omega arith) (omega arith) (omega arith) q)
            go j p q (no u) (no v) = let b = beyond in m j (omega arith) (omega (arith, r.higher)) q

      -- a slice that is not free is taken off
      pub looking-skip : f (next - lists) ≡ false → Looking f hit L meets lists n h (set link at (get_or link next 0)) at (get_or link next 0)
      looking-skip m =
          record { linked = record { size = omega (arith, t.linked.size, length-set link at (get_or link next 0)); at = λ a l. go a l (ℕ_discrete a at); runs = runs-kept }; place = t.place; home = t.home; here = sym same; passed = t.passed }
        where
          same : get_or (set link at (get_or link next 0)) at 0 ≡ get_or link next 0
          same = get_or-set_same link at (get_or link next 0) 0 (let s = t.linked.size in let p = t.place in omega arith)

          runs-kept : (j : ℕ) → j < n → Run L meets lists n j (get_or (set link at (get_or link next 0)) (lists + j + n) 0)
          runs-kept j l = rw (get_or-set_other link at (lists + j + n) (get_or link next 0) 0 (λ u. omega (arith, t.place))) (t.linked.runs j l)

          past : (j : ℕ) → suc at - lists ≤ j → j < n → lists + j < get_or link next 0 → L j ≡ h → Dec (lists + j < next) → Dec (j ≡ next - lists) → f j ≡ false
          past j a b c d (yes u) v = at_here.passed j a b u d
          past j a b c d (no u) (yes v) = rw v m
          past j a b c d (no u) (no v) = let z = beyond in at_next.passed j (omega arith) b c d

          go : (a : ℕ) → a < lists + n → Dec (a ≡ at) → Next f L lists n (place_of L lists a) (suc a - lists) (get_or (set link at (get_or link next 0)) a 0)
          go a l (no u) = rw (get_or-set_other link at a (get_or link next 0) 0 u) (t.linked.at a l)
          go a l (yes u) =
              rw (u, t.home, same)
              (record {
                higher = (let y = at_here.higher in let z = looking-less in omega arith);
                mine = at_next.mine;
                passed = λ j p q r s. past j p q r s (dec_lt (lists + j) next) (ℕ_discrete j (next - lists));
              })

      pub looking-found : n ≤ most_slices → hit (next - lists) ≡ true → Looked f hit L meets (λ j. L j ≡ h) lists n link (next - lists)
      looking-found few m =
          record {
            linked = t.linked;
            found = record { most = omega (arith, looking-slice); found = λ x. (looking-slice, m); passed = λ j a b q. go j a b q (dec_lt j (suc at - lists)) };
          }
        where
          go : (j : ℕ) → j < n → j < next - lists → L j ≡ h → Dec (j < suc at - lists) → hit j ≡ false
          go j a b q (yes u) = t.passed j u q
          go j a b q (no u) = asks j (at_here.passed j (omega arith) a (omega arith) q)

    pub looking-end : lists + n ≤ next → n ≤ most_slices → Looked f hit L meets (λ j. L j ≡ h) lists n link no_number
    looking-end k few =
        record { linked = t.linked; found = record { most = omega arith; found = λ x. absurd (omega arith); passed = λ j a b q. go j a q (dec_lt j (suc at - lists)) } }
      where
        go : (j : ℕ) → j < n → L j ≡ h → Dec (j < suc at - lists) → hit j ≡ false
        go j a q (yes u) = t.passed j u q
        go j a q (no u) = asks j (at_here.passed j (omega arith) a (omega arith) q)
