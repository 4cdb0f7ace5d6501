-- Slices that stand in line: each ends where the next begins, and none ends where the first begins. Then all of them come into one chain. Over any rules.
use Prim.Native.Nat.{ℕ, zero, suc, ◌+◌, ◌≤◌, ◌<◌}
use Rattle.std.proofs.Math.Bool.{true, false}
use Rattle.std.specs.Prelude.{not, ◌&&◌, ◌||◌, ◌≡◌, eqb, ltb, set, replicate, Some}
use Rattle.std.proofs.Math.Path.{refl, sym, ap, subst}
use Rattle.std.proofs.Common.{◌∙◌, ⊎_elim}
use mathlib.Core.List.Memᴰ
use mathlib.Core.List.{List, [], ◌∷◌, Memᴰ}
use Rattle.std.proofs.Math.Decide.{dec_lt}
use native.Mathlib.Omega.{arith}
use borrow.Author.Tests.{ltb-true, lt-ltb, le-ltb, le-leb, lt-leb, ne_eqb}
use Rattle.std.proofs.Math.Dec.{leb}
use Rattle.std.proofs.Math.ListN.{length, get_or, length-set, length-replicate, get_or-replicate}
use Rattle.std.proofs.Math.Seq.{get_or-set_same, get_or-set_other}
use Rattle.basis.specs.All.{all-mem}
use Rattle.stitch_run.specs.Run.{Rules, Next, onto, ends, no_candidate, Underway, Finished, Stitched, free, candidate, candidates_of, taken, answered, asked, next_of}
use Rattle.stitch_run.specs.Run.{opened, onward, ended, walk, chain_from, added, begun, turn, turns, run, passing}
use Rattle.select.specs.SelectTheorems.{Ascending}
use Rattle.stitch_run.specs.TallyLaws.{passing-mem, passing-all, passing-ascends, passing-same}

-- m + 1 slices, and what a chain has built once slice i is joined
pub record InLine {C : Type 0} (R : Rules C) (m : ℕ) (build : ℕ → C) : Type 0 where
  pub count : R.count ≡ suc m
  pub begins : R.begin 0 ≡ build 0
  pub joins : (i : ℕ) → i < m → R.join (build i) (suc i) ≡ build (suc i)
  -- every slice but the first is offered
  pub offers : (i j : ℕ) → j < suc m → R.offers (build i) j ≡ ltb 0 j
  -- and the lowest of any slices is selected
  pub selects : (current j : ℕ) (l : List ℕ) → current < suc m → ((k : ℕ) → Memᴰ k (j ∷ l) → k < suc m) → R.select current (j ∷ l) ≡ Some j

module _ {C : Type 0} (R : Rules C) (m : ℕ) (build : ℕ → C) (line : InLine R m build) where
  -- ---- a chain under way that has joined slice i last

  record At (i : ℕ) (w : Underway C) : Type 0 where
    pub first : w.first ≡ 0
    pub here : w.current < suc m
    pub built : w.built ≡ build i
    pub size : length w.visited ≡ suc m
    pub marks : (j : ℕ) → j < suc m → get_or w.visited j false ≡ leb j i

  -- the candidates are the slices past i
  past : (i j : ℕ) → ((not (leb j i) || eqb j 0) && ltb 0 j) ≡ ltb i j
  past i zero = rw (le-leb 0 i (omega arith), le-ltb i 0 (omega arith))
  past i (suc j) = go (dec_lt i (suc j))
    where
      go : Dec (i < suc j) → ((not (leb (suc j) i) || eqb (suc j) 0) && ltb 0 (suc j)) ≡ ltb i (suc j)
      go (yes d) = rw (lt-leb (suc j) i d, lt-ltb i (suc j) d, lt-ltb 0 (suc j) (omega arith))
      go (no d) = rw (le-leb (suc j) i (omega arith), le-ltb i (suc j) (omega arith), ne_eqb (suc j) 0 (λ e. let z : suc j ≡ 0 = e in omega arith))

  candidates : (i : ℕ) (w : Underway C) → At i w → candidates_of R w.visited w.first w.built ≡ passing (ltb i) (suc m)
  unfolding candidates_of candidate free
  candidates i w a =
      rw (line.count, a.first, a.built)
      (passing-same _ (ltb i) (suc m) (λ j h. rw (a.marks j h, line.offers i j h) (past i j)))

  -- where there are some, the lowest is slice i + 1, which is joined
  asked-next : (i current : ℕ) (b : C) (l : List ℕ) → current < suc m → Ascending l → ((k : ℕ) → Memᴰ k l → (ltb i k ≡ true) × (k < suc m)) → Memᴰ (suc i) l
      → asked R 0 current b l ≡ onto (suc i)
  unfolding asked answered taken
  asked-next i current b [] d a h k = absurd (Memᴰ.not-nil k)
  asked-next i current b (c ∷ l) d a h k = rw (line.selects current c l d (λ j q. (h j q).1)) (⊎_elim here there (Memᴰ.cases_cons k))
    where
      here : suc i ≡ c → answered R 0 b (Some c) ≡ onto (suc i)
      here e = rw (sym e, ne_eqb (suc i) 0 (λ q. omega arith))

      there : Memᴰ (suc i) l → answered R 0 b (Some c) ≡ onto (suc i)
      there q = absurd (omega (arith, ltb-true i c (h c (Memᴰ.head refl)).0, all-mem (λ j. c < j) l (suc i) a.0 q))

  next-onto : (i : ℕ) (w : Underway C) → At i w → i < m → next_of R w ≡ onto (suc i)
  unfolding next_of
  next-onto i w a h =
      rw (candidates i w a, a.first)
      (asked-next i w.current w.built (passing (ltb i) (suc m)) a.here (passing-ascends (ltb i) (suc m)) (λ k q. passing-mem (ltb i) (suc m) k q)
      (passing-all (ltb i) (suc m) (suc i) (lt-ltb i (suc i) (omega arith)) (omega arith)))

  -- and past the last slice there is none
  asked-end : (current : ℕ) (b : C) (l : List ℕ) → ((k : ℕ) → Memᴰ k l → ⊥) → asked R 0 current b l ≡ ends no_candidate
  unfolding asked
  asked-end current b [] h = refl
  asked-end current b (c ∷ l) h = absurd (h c (Memᴰ.head refl))

  next-end : (w : Underway C) → At m w → next_of R w ≡ ends no_candidate
  unfolding next_of
  next-end w a =
      rw (candidates m w a, a.first)
      (asked-end w.current w.built (passing (ltb m) (suc m))
      λ k q. let p = passing-mem (ltb m) (suc m) k q in omega (arith, ltb-true m k p.0, p.1))

  at_onward : (i : ℕ) (w : Underway C) → At i w → i < m → At (suc i) (onward R w (suc i))
  unfolding onward
  at_onward i w a h =
      record {
        first = a.first;
        here = omega arith;
        built = ap (λ (b : C). R.join b (suc i)) a.built ∙ line.joins i h;
        size = length-set w.visited (suc i) true ∙ a.size;
        marks = λ j k. go j k (dec_lt j (suc i));
      }
    where
      go : (j : ℕ) → j < suc m → Dec (j < suc i) → get_or (set w.visited (suc i) true) j false ≡ leb j (suc i)
      go j k (yes d) =
          get_or-set_other w.visited (suc i) j true false (λ e. let z : j ≡ suc i = e in omega arith) ∙ a.marks j k ∙ rw (le-leb j i (omega arith), le-leb j (suc i) (omega arith))
      go j k (no d) = later (dec_lt (suc i) j)
        where
          later : Dec (suc i < j) → get_or (set w.visited (suc i) true) j false ≡ leb j (suc i)
          later (yes c) =
              get_or-set_other w.visited (suc i) j true false (λ e. let z : j ≡ suc i = e in omega arith) ∙ a.marks j k ∙ rw (lt-leb j i (omega arith), lt-leb j (suc i) (omega arith))
          later (no c) =
              let e : j ≡ suc i = omega arith in
              rw (e, get_or-set_same w.visited (suc i) true false (rw a.size (omega arith)), le-leb (suc i) (suc i) (omega arith))

  -- ---- the chain at its end

  record Done (t : Finished C) : Type 0 where
    pub built : t.chain.built ≡ build m
    pub marks : (j : ℕ) → j < suc m → get_or t.visited j false ≡ true

  done-walk : (left k i : ℕ) (w : Underway C) → At i w → i + k ≡ m → k ≤ left → Done (walk R left (next_of R w) w)
  unfolding walk ended
  done-walk zero zero i w a e h =
      let q : i ≡ m = omega arith in
      let b : At m w = rw q at a in
      subst (λ (x : Next). Done (walk R zero x w)) (sym (next-end w b)) (record { built = b.built; marks = λ j d. b.marks j d ∙ le-leb j m (omega arith) })
  done-walk zero (suc k) i w a e h = absurd (omega arith)
  done-walk (suc left) zero i w a e h =
      let q : i ≡ m = omega arith in
      let b : At m w = rw q at a in
      subst (λ (x : Next). Done (walk R (suc left) x w)) (sym (next-end w b)) (record { built = b.built; marks = λ j d. b.marks j d ∙ le-leb j m (omega arith) })
  done-walk (suc left) (suc k) i w a e h =
      let d : i < m = omega arith in
      subst (λ (x : Next). Done (walk R (suc left) x w)) (sym (next-onto i w a d))
      (done-walk left k (suc i) (onward R w (suc i)) (at_onward i w a d) (omega arith) (omega arith))

  -- ---- the run

  abbrev pub whole : Finished C
  whole = chain_from R (replicate R.count false) 0

  at-opened : At 0 (opened R (replicate R.count false) 0)
  unfolding opened
  at-opened =
      let n : length (replicate R.count false) ≡ suc m = length-replicate R.count false ∙ line.count in
      record {
        first = refl;
        here = omega arith;
        built = line.begins;
        size = length-set (replicate R.count false) 0 true ∙ n;
        marks = λ j d. go j d n;
      }
    where
      go : (j : ℕ) → j < suc m → length (replicate R.count false) ≡ suc m → get_or (set (replicate R.count false) 0 true) j false ≡ leb j 0
      go zero d n = get_or-set_same (replicate R.count false) 0 true false (rw n (omega arith)) ∙ sym (le-leb 0 0 (omega arith))
      go (suc j) d n =
          get_or-set_other (replicate R.count false) 0 (suc j) true false (λ e. let z : suc j ≡ 0 = e in omega arith)
          ∙ get_or-replicate R.count (suc j) false false (rw line.count d)
          ∙ sym (lt-leb (suc j) 0 (omega arith))

  done : Done whole
  unfolding chain_from
  done = done-walk R.count m 0 (opened R (replicate R.count false) 0) at-opened (omega arith) (omega (arith, line.count))

  -- what the whole chain has built
  pub whole-built : whole.chain.built ≡ build m
  whole-built = done.built

  -- after the first turn every slice has been visited, so no other begins a chain
  turns_same : (i : ℕ) → i ≤ m → turns R (suc i) ≡ record { visited = whole.visited; chains = whole.chain ∷ [] }
  unfolding turns turn begun added
  turns_same zero h = rw (get_or-replicate R.count 0 false false (rw line.count (omega arith)))
  turns_same (suc i) h = rw (turns_same i (omega arith), done.marks (suc i) (omega arith))

  pub alone : run R ≡ whole.chain ∷ []
  unfolding run
  alone = ap (λ (n : ℕ). (turns R n).chains) line.count ∙ ap (λ (s : Stitched C). s.chains) (turns_same m (omega arith))
