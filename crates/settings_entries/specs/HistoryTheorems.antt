-- Request K7, over every record and every sequence of calls: entries, refused entries and questions.
-- The calls answer as a plain list would; what is asked of an edition is what was entered under it; no call changes a setting that is there.
use Prim.Native.Nat.{ℕ, zero, suc, ◌+◌, ◌-◌, ◌≤◌, ◌<◌}
use Rattle.std.proofs.Math.Bool.{true, false}
use Rattle.std.specs.Prelude.{cond, ◌&&◌, ◌≡◌, List, [], ◌∷◌, ◌++◌, length, eqb, ltb}
use Rattle.std.proofs.Math.Path.{refl, sym}
use Rattle.std.proofs.Common.{ap, ◌∙◌, append_assoc, append-nil, arith, length-append, lt-ltb, le-leb, ne_eqb, eq-eqb, ltb-true, leb-true}
use Rattle.std.proofs.Math.ListN.{get_or-append}
use Rattle.std.proofs.lemmas.List.{get_or_at}
use Rattle.std.proofs.Math.Dec.{leb}
use Rattle.basis.specs.Choice.{by-test, and_left, and_right}
use Rattle.basis.specs.Machine.{answers, after, Alike, all_alike, all-mean, all_keep}
use Rattle.basis.specs.Refuse.{first_of, answer}
use Rattle.basis.specs.RefuseLaws.{answer-zero}
use Rattle.settings.specs.declared.Setting.{Setting}
use Rattle.settings.specs.Settings.{Held, Sized, lengths_fault, count_of, settings_of, known, none, full, extended, Open}
use Rattle.settings.specs.SettingsLaws.{count_most, lengths-ok, ok-lengths, known-between, held-length, held_at, extended-count, extended-settings, extended-sized}
use Rattle.settings_entries.specs.declared.answer.EditionAnswer.{EditionAnswer}
use Rattle.settings_entries.specs.Answers.{edition_refused, edition_given, setting_given}
use Rattle.settings_entries.specs.SettingsEntry.{enter_refusal, enter_answer, enter_held, ask_refusal, ask_answer}
use Rattle.settings_entries.specs.SettingsEntryLaws.{enter-open}
use Rattle.settings_entries.specs.History.{Call, enter, ask, Told, entered, asked, step, plain_number, plain_entered, plain_more, plain_asked, plain_step, entry_in, accepted, held_after}

-- ---- every content of the lists is some record, of 16 settings at most
pub every-content : (h : Held) → length (settings_of h) ≤ 16
every-content h = rw (held-length h) (count_most h.entered)

-- ---- one call, on a record and on the plain list of its settings

module _ (h : Held) (z : Sized h) where
  same_number : (s : Setting) → enter_refusal h s ≡ plain_number (settings_of h) s
  unfolding enter_refusal plain_number first_of full
  same_number s = rw (ok-lengths h z, held-length h)

  pub same-entered : (s : Setting) → enter_answer h s ≡ plain_entered (settings_of h) s
  unfolding enter_answer plain_entered
  same-entered s = rw (same_number s, held-length h)

  pub same_more : (s : Setting) → settings_of (enter_held h s) ≡ plain_more (settings_of h) s
  unfolding enter_held plain_more
  same_more s = go (enter_refusal h s) refl ∙ rw (same_number s)
    where
      go : (n : ℕ) → enter_refusal h s ≡ n → settings_of (answer (λ _. h) n (extended h s)) ≡ answer (λ _. settings_of h) n (settings_of h ++ (s ∷ []))
      go zero e = unfold answer in extended-settings h s (enter-open h s 0 (sym e) refl)
      go (suc n) e = unfold answer in refl

  pub stays-sized : (s : Setting) → Sized (enter_held h s)
  unfolding enter_held
  stays-sized s = go (enter_refusal h s) refl
    where
      go : (n : ℕ) → enter_refusal h s ≡ n → Sized (answer (λ _. h) n (extended h s))
      go zero e = unfold answer in extended-sized h s (enter-open h s 0 (sym e) refl)
      go (suc n) e = unfold answer in z

  pub same_asked : (e : ℕ) → ask_answer h e ≡ plain_asked (settings_of h) e
  unfolding ask_answer ask_refusal first_of answer plain_asked
  same_asked e =
      by-test (known h.entered e)
      (λ t.
      let b : (ltb 0 e && leb e (length (settings_of h))) ≡ true = rw (held-length h) (unfold known in t) in
      rw (ok-lengths h z, t, b, held_at h e none t))
      (λ f.
      let b : (ltb 0 e && leb e (length (settings_of h))) ≡ false = rw (held-length h) (unfold known in f) in
      rw (ok-lengths h z, f, b))

alike : (h : Held) (c : Call) → Sized h → Alike settings_of Sized step plain_step h c
unfolding step plain_step
alike h (enter s) z = record { says = ap entered (same-entered h z s); leaves = same_more h z s; keeps = stays-sized h z s }
alike h (ask e) z = record { says = ap asked (same_asked h z e); leaves = refl; keeps = z }

-- ---- THEOREM: whatever the sequence of calls, a record answers as the plain list of its settings would
pub as-a-plain-list : (h : Held) (calls : List Call) → Sized h → answers step h calls ≡ answers plain_step (settings_of h) calls
as-a-plain-list h calls z = all_alike settings_of Sized step plain_step alike h calls z

-- ---- a plain list grows by the accepted entries, at its end

entered-grows : (l : List Setting) (s : Setting) → plain_more l s ≡ l ++ entry_in (enter s) (entered (plain_entered l s))
unfolding plain_more plain_entered entry_in
entered-grows l s = go (plain_number l s)
  where
    go : (n : ℕ) → answer (λ _. l) n (l ++ (s ∷ [])) ≡ l ++ cond (eqb (answer edition_refused n (edition_given (length l + 1))).refusal 0) (s ∷ []) []
    go zero = unfold answer in refl
    go (suc n) = unfold answer in rw (ne_eqb (suc n) 0 (λ e. omega arith)) (sym (append-nil l))

one_grows : (l : List Setting) (c : Call) → (plain_step l c).left ≡ l ++ entry_in c (plain_step l c).answer
unfolding plain_step
one_grows l (enter s) = entered-grows l s
one_grows l (ask e) = unfold entry_in in sym (append-nil l)

all-grow : (l : List Setting) (calls : List Call) → after plain_step l calls ≡ l ++ accepted calls (answers plain_step l calls)
unfolding after answers accepted
all-grow l [] = sym (append-nil l)
all-grow l (c ∷ calls) =
    let more = entry_in c (plain_step l c).answer in
    let rest = accepted calls (answers plain_step (plain_step l c).left calls) in
    all-grow (plain_step l c).left calls ∙ ap (λ (k : List Setting). k ++ rest) (one_grows l c) ∙ append_assoc l more rest

-- ---- THEOREM: what a record holds after any calls is what it held, and then the settings of the accepted entries in their order

pub holds-accepted : (h : Held) (calls : List Call) → Sized h → settings_of (after step h calls) ≡ held_after h calls
unfolding held_after
holds-accepted h calls z =
    all-mean settings_of Sized step plain_step alike h calls z
    ∙ all-grow (settings_of h) calls
    ∙ ap (λ (told : List Told). settings_of h ++ accepted calls told) (sym (as-a-plain-list h calls z))

-- so a question about edition k is answered with the k-th of them, and with 16 where there is none
pub asked-after : (h : Held) (calls : List Call) (e : ℕ) → Sized h → ask_answer (after step h calls) e ≡ plain_asked (held_after h calls) e
asked-after h calls e z =
    same_asked (after step h calls) (all_keep settings_of Sized step plain_step alike h calls z) e
    ∙ ap (λ (l : List Setting). plain_asked l e) (holds-accepted h calls z)

-- ---- lists of other lengths: every call is refused with 1, and the lists stay as they are

pub never-taken : (h : Held) (c : Call) → lengths_fault h ≡ true → (step h c).left ≡ h
unfolding step enter_held enter_refusal first_of answer
never-taken h (enter s) f = rw f
never-taken h (ask e) f = refl

never-changed : (h : Held) (calls : List Call) → lengths_fault h ≡ true → after step h calls ≡ h
unfolding after
never-changed h [] f = refl
never-changed h (c ∷ calls) f = ap (λ (k : Held). after step k calls) (never-taken h c f) ∙ never-changed h calls f

-- ---- THEOREM: "Asking for an edition returns exactly what was entered under it, after any sequence of entries and refused entries."
-- Any record, any setting that was taken, any calls after it

-- a place of a list that is longer now
kept-place : (l more : List Setting) (e : ℕ) → (ltb 0 e && leb e (length l)) ≡ true → plain_asked (l ++ more) e ≡ plain_asked l e
unfolding plain_asked
kept-place l more e t =
    let least : 0 < e = ltb-true 0 e (and_left (ltb 0 e) (leb e (length l)) t) in
    let most : e ≤ length l = leb-true e (length l) (and_right (ltb 0 e) (leb e (length l)) t) in
    let long : length (l ++ more) ≡ length l + length more = length-append l more in
    let u : (ltb 0 e && leb e (length (l ++ more))) ≡ true = rw (lt-ltb 0 e least, le-leb e (length (l ++ more)) (omega arith)) in
    rw (t, u, get_or-append l more none (e - 1) (omega arith))

last-place : (l : List Setting) (s : Setting) (e : ℕ) → e ≡ length l + 1 → plain_asked (l ++ (s ∷ [])) e ≡ setting_given s
unfolding plain_asked
last-place l s e q =
    let long : length (l ++ (s ∷ [])) ≡ length l + 1 = length-append l (s ∷ []) in
    let u : (ltb 0 e && leb e (length (l ++ (s ∷ [])))) ≡ true = rw (lt-ltb 0 e (omega arith), le-leb e (length (l ++ (s ∷ []))) (omega arith)) in
    rw (u, get_or_at l s [] none (e - 1) (omega arith))

-- no call changes a setting that is there: a known edition is answered the same after any calls
pub stays : (h : Held) (calls : List Call) (e : ℕ) → known h.entered e ≡ true → ask_answer (after step h calls) e ≡ ask_answer h e
unfolding held_after
stays h calls e t =
    by-test (lengths_fault h)
    (λ f. ap (λ (k : Held). ask_answer k e) (never-changed h calls f))
    (λ f.
    let z = lengths-ok h f in
    let b : (ltb 0 e && leb e (length (settings_of h))) ≡ true = rw (held-length h) (unfold known in t) in
    asked-after h calls e z ∙ kept-place (settings_of h) (accepted calls (answers step h calls)) e b ∙ sym (same_asked h z e))

module _ (h : Held) (s : Setting) (taken : (enter_answer h s).refusal ≡ 0) where
  no_number_lem : enter_refusal h s ≡ 0
  unfolding enter_answer
  no_number_lem = answer-zero edition_refused (λ (a : EditionAnswer). a.refusal) (enter_refusal h s) _ (enter_answer h s) (λ k. refl) refl taken

  an-open : Open h
  an-open = enter-open h s 0 (sym no_number_lem) refl

  -- the edition is the next one
  pub next-edition : (enter_answer h s).edition ≡ count_of h.entered + 1
  unfolding enter_answer answer
  next-edition = rw no_number_lem

  left_so : enter_held h s ≡ extended h s
  unfolding enter_held answer
  left_so = rw no_number_lem

  -- the setting is found under it
  pub found : ask_answer (enter_held h s) (enter_answer h s).edition ≡ setting_given s
  found =
      let o = an-open in
      let n = count_of h.entered in
      same_asked (enter_held h s) (stays-sized h o.sized s) (enter_answer h s).edition
      ∙ rw (next-edition, left_so, extended-settings h s o) (last-place (settings_of h) s (n + 1) (ap (λ (k : ℕ). k + 1) (sym (held-length h))))

  pub stands : (calls : List Call) → ask_answer (after step (enter_held h s) calls) (enter_answer h s).edition ≡ setting_given s
  stands calls = stays (enter_held h s) calls (enter_answer h s).edition knows ∙ found
    where
      knows : known (enter_held h s).entered (enter_answer h s).edition ≡ true
      knows = rw (next-edition, left_so) (known-between (extended h s).entered (count_of h.entered + 1) (omega arith) (rw (extended-count h s an-open) (omega arith)))

-- ---- THEOREM: "A seventeenth is refused and changes nothing."; nor does any entry that is refused
pub seventeenth : (h : Held) (s : Setting) → Sized h → length (settings_of h) ≡ 16 → enter_answer h s ≡ edition_refused 17
unfolding enter_answer enter_refusal first_of answer full
seventeenth h s z q = rw (ok-lengths h z, eq-eqb (count_of h.entered) 16 (sym (held-length h) ∙ q))

pub refused-changes-nothing : (h : Held) (s : Setting) → ((enter_answer h s).refusal ≡ 0 → ⊥) → enter_held h s ≡ h
unfolding enter_answer enter_held
refused-changes-nothing h s = go (enter_refusal h s)
  where
    go : (n : ℕ) → ((answer edition_refused n (edition_given (count_of h.entered + 1))).refusal ≡ 0 → ⊥) → answer (λ _. h) n (extended h s) ≡ h
    go zero d = unfold answer in absurd (d (unfold answer in refl))
    go (suc n) d = unfold answer in refl
