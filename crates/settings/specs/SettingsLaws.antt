-- Laws of the record: what an edition is, what entering leaves, and that nothing that is there changes. All but the last group hold for every content.
use Prim.Native.Nat.{ℕ, zero, suc, ◌+◌, ◌-◌, ◌*◌, ◌≤◌, ◌<◌}
use Rattle.std.specs.Prelude.{true, false, not, ◌≡◌, eqb, ltb, leb, Float}
use Rattle.std.proofs.Math.Path.{refl, ap}
use Rattle.std.proofs.Common.{sym, ◌∙◌, add-one, length-append}
use mathlib.Core.List.{List, [], ◌∷◌, ◌++◌}
use native.Mathlib.Omega.{arith}
use Rattle.std.proofs.Math.ListN.{length, get_or, set, length-set, get_or-append}
use Rattle.std.proofs.Math.Seq.{length-sets, get_or-set_same, get_or-set_other}
use Rattle.std.proofs.lemmas.List.{get_or_at}
use borrow.Author.Tests.{ltb-true, leb-true, lt-ltb, le-leb, eqb-true, eqb-false, eq-eqb, not-false}
use Rattle.basis.specs.Number.{+0}
use Rattle.basis.specs.Choice.{by-test, and_left, and_right, or_left, or_right}
use Rattle.settings.specs.declared.Setting.{Setting}
use Rattle.settings.specs.Settings.{Held, Sized, lengths_fault, count_of, setting_at, settings_to, settings_of, known, asked_of, none, full, written, extended, Open}

-- ---- the lists of a record

pub lengths-ok : (h : Held) → lengths_fault h ≡ false → Sized h
unfolding lengths_fault
lengths-ok h f =
    let one = or_left (not (eqb (length h.entered) 1)) (not (eqb (length h.numbers) 48)) f in
    let all = or_right (not (eqb (length h.entered) 1)) (not (eqb (length h.numbers) 48)) f in
    record { one = eqb-true _ _ (not-false _ one); all = eqb-true _ _ (not-false _ all) }

pub ok-lengths : (h : Held) → Sized h → lengths_fault h ≡ false
unfolding lengths_fault
ok-lengths h z = rw (eq-eqb (length h.entered) 1 z.one, eq-eqb (length h.numbers) 48 z.all)

-- ---- how many settings there are, and which editions are known

pub count_most : (entered : List ℕ) → count_of entered ≤ 16
unfolding count_of
count_most entered = omega arith

module _ (entered : List ℕ) (e : ℕ) where
  pub known-least : known entered e ≡ true → 0 < e
  unfolding known
  known-least k = ltb-true 0 e (and_left (ltb 0 e) (leb e (count_of entered)) k)

  pub known-most : known entered e ≡ true → e ≤ count_of entered
  unfolding known
  known-most k = leb-true e (count_of entered) (and_right (ltb 0 e) (leb e (count_of entered)) k)

  pub known-between : 0 < e → e ≤ count_of entered → known entered e ≡ true
  unfolding known
  known-between a b = rw (lt-ltb 0 e a, le-leb e (count_of entered) b)

pub not_full : (entered : List ℕ) → full entered ≡ false → count_of entered < 16
unfolding full
not_full entered f = let d = eqb-false (count_of entered) 16 f in let m = count_most entered in omega (arith, d)

-- ---- the settings as a plain list

pub settings-length : (numbers : List Float) (n : ℕ) → length (settings_to numbers n) ≡ n
unfolding settings_to
settings-length numbers zero = refl
settings-length numbers (suc n) = length-append (settings_to numbers n) (setting_at numbers n ∷ []) ∙ rw (settings-length numbers n) (omega arith)

pub settings-at : (numbers : List Float) (n k : ℕ) (d : Setting) → k < n → get_or (settings_to numbers n) k d ≡ setting_at numbers k
unfolding settings_to
settings-at numbers zero k d h = absurd (omega arith)
settings-at numbers (suc n) k d h =
    by-test (eqb k n)
    (λ t.
    let q : k ≡ n = eqb-true k n t in
    get_or_at (settings_to numbers n) (setting_at numbers n) [] d k (settings-length numbers n ∙ sym q) ∙ rw q)
    (λ t.
    let q = eqb-false k n t in
    let before : k < length (settings_to numbers n) = rw (settings-length numbers n) (omega (arith, q)) in
    get_or-append (settings_to numbers n) (setting_at numbers n ∷ []) d k before ∙ settings-at numbers n k d (omega (arith, q)))

pub held-length : (h : Held) → length (settings_of h) ≡ count_of h.entered
unfolding settings_of
held-length h = settings-length h.numbers (count_of h.entered)

-- a known edition is a place of the plain list
pub held_at : (h : Held) (e : ℕ) (d : Setting) → known h.entered e ≡ true → get_or (settings_of h) (e - 1) d ≡ asked_of h e
unfolding settings_of asked_of
held_at h e d k =
    let least = known-least h.entered e k in
    let most = known-most h.entered e k in
    rw k (settings-at h.numbers (count_of h.entered) (e - 1) d (omega arith))

-- an unknown edition has no setting
pub asked-none : (h : Held) (e : ℕ) → known h.entered e ≡ false → asked_of h e ≡ none
unfolding asked_of
asked-none h e f = rw f

-- ---- a setting written: its three numbers, and no other place

module _ (numbers : List Float) (n : ℕ) (s : Setting) where
  pub written-length : length (written numbers n s) ≡ length numbers
  unfolding written
  written-length = length-sets numbers (3 * n) (s.tolerance_x ∷ s.tolerance_y ∷ s.area_limit ∷ [])

  -- a place that is none of the three
  pub written-other : (i : ℕ) (d : Float) → (3 * n ≤ i → i < 3 * n + 3 → ⊥) → get_or (written numbers n s) i d ≡ get_or numbers i d
  unfolding written
  written-other i d apart =
      get_or-set_other (set (set numbers (3 * n) s.tolerance_x) (suc (3 * n)) s.tolerance_y) (suc (suc (3 * n))) i s.area_limit d (λ e. apart (omega arith) (omega arith))
      ∙ get_or-set_other (set numbers (3 * n) s.tolerance_x) (suc (3 * n)) i s.tolerance_y d (λ e. apart (omega arith) (omega arith))
      ∙ get_or-set_other numbers (3 * n) i s.tolerance_x d (λ e. apart (omega arith) (omega arith))

  -- the setting itself
  pub written_at_lem : 3 * n + 3 ≤ length numbers → setting_at (written numbers n s) n ≡ s
  unfolding setting_at written
  written_at_lem h =
      let one = set numbers (3 * n) s.tolerance_x in
      let two = set one (suc (3 * n)) s.tolerance_y in
      let three = set two (suc (suc (3 * n))) s.area_limit in
      let l1 : length one ≡ length numbers = length-set numbers (3 * n) s.tolerance_x in
      let l2 : length two ≡ length one = length-set one (suc (3 * n)) s.tolerance_y in
      let p : 3 * n + 1 ≡ suc (3 * n) = omega arith in
      let q : 3 * n + 2 ≡ suc (suc (3 * n)) = omega arith in
      let x : get_or three (3 * n) +0 ≡ s.tolerance_x =
      get_or-set_other two (suc (suc (3 * n))) (3 * n) s.area_limit +0 (λ e. omega arith)
      ∙ get_or-set_other one (suc (3 * n)) (3 * n) s.tolerance_y +0 (λ e. omega arith)
      ∙ get_or-set_same numbers (3 * n) s.tolerance_x +0 (omega arith) in
      let y : get_or three (3 * n + 1) +0 ≡ s.tolerance_y =
      rw p (get_or-set_other two (suc (suc (3 * n))) (suc (3 * n)) s.area_limit +0 (λ e. omega arith) ∙ get_or-set_same one (suc (3 * n)) s.tolerance_y +0 (omega arith)) in
      let a : get_or three (3 * n + 2) +0 ≡ s.area_limit = rw q (get_or-set_same two (suc (suc (3 * n))) s.area_limit +0 (omega arith)) in
      λ i. record { tolerance_x = x i; tolerance_y = y i; area_limit = a i }

  -- those before it are as they were
  before : (k : ℕ) → k < n → setting_at (written numbers n s) k ≡ setting_at numbers k
  unfolding setting_at
  before k h =
      rw (
        written-other (3 * k) +0 (λ a b. omega arith),
        written-other (3 * k + 1) +0 (λ a b. omega arith),
        written-other (3 * k + 2) +0 (λ a b. omega arith),
      )

  pub written-before : (k : ℕ) → k ≤ n → settings_to (written numbers n s) k ≡ settings_to numbers k
  unfolding settings_to
  written-before zero h = refl
  written-before (suc k) h = rw (written-before k (omega arith), before k h)

  pub written-more : 3 * n + 3 ≤ length numbers → settings_to (written numbers n s) (n + 1) ≡ settings_to numbers n ++ (s ∷ [])
  unfolding settings_to
  written-more h = rw (add-one n, written-before n (omega arith), written_at_lem h)

-- ---- a setting entered into an open record: one more at the end of the list

module _ (h : Held) (s : Setting) (o : Open h) where
  pub extended-count : count_of (extended h s).entered ≡ count_of h.entered + 1
  unfolding extended
  extended-count =
      let n = count_of h.entered in
      let few = o.fewer in
      let one = o.sized.one in
      let told : get_or (set h.entered 0 (n + 1)) 0 0 ≡ n + 1 = get_or-set_same h.entered 0 (n + 1) 0 (omega arith) in
      reads (set h.entered 0 (n + 1)) (n + 1) told (omega arith)
    where
      reads : (l : List ℕ) (k : ℕ) → get_or l 0 0 ≡ k → k ≤ 16 → count_of l ≡ k
      reads l k e m = unfold count_of in omega arith

  pub extended-settings : settings_of (extended h s) ≡ settings_of h ++ (s ∷ [])
  unfolding settings_of extended
  extended-settings =
      let n = count_of h.entered in
      let few = o.fewer in
      let all = o.sized.all in
      ap (λ (k : ℕ). settings_to (written h.numbers n s) k) extended-count ∙ written-more h.numbers n s (omega arith)

  pub extended-sized : Sized (extended h s)
  unfolding extended
  extended-sized = record { one = length-set h.entered 0 (count_of h.entered + 1) ∙ o.sized.one; all = written-length h.numbers (count_of h.entered) s ∙ o.sized.all }
