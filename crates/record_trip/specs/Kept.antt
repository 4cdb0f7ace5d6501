-- What a version keeps of editions, and the versions whose records are read back as they were written.
use Rattle.std.specs.Prelude.{ℕ, ◌*◌, ◌%◌, ◌^◌, ◌≤◌, ◌<◌, ◌≡◌, refl, List, [], ◌∷◌, map, ◌⊎◌, eqb, length, get_or, replicate}
use Rattle.std.proofs.Common.{sym, ap, ◌∙◌, inl, inr, mod-eq_of_lt, arith}
use Rattle.std.proofs.Math.Nat.{mod-one, zero-mod}
use Rattle.std.proofs.lemmas.List.{length-map}
use Rattle.std.proofs.Math.ListN.{get_or-map}
use Rattle.basis.specs.All.{All}
use Rattle.basis.specs.Choice.{by-test}
use Rattle.fields.specs.Fields.{size}
use Rattle.slice.specs.Slice.{code_width, codes_at}
use Rattle.slice.specs.Editions.{Editions, editions, edition_of}
use Rattle.slice.specs.EditionLaws.{edition-at, at-edition}
use Rattle.stitch_run.specs.Stitch.{Given}
use Rattle.stitch_faults.specs.Matching.{Matched, one_edition}
use Rattle.record_form.specs.declared.form.Version.{Version}
use Rattle.record_form.specs.Form.{form1, form2, form_for, taken_vertices, taken_slices}
use Rattle.record_form.specs.Ready.{FormOk}
use Rattle.record.specs.Record.{length_of}
use Rattle.record.specs.RecordExamples.{counts}

-- an edition as a version keeps it: cut to its bytes
abbrev pub kept_in : Version → ℕ → ℕ
kept_in v x = x % 256 ^ v.edition

abbrev pub kept_editions : Version → Editions → Editions
kept_editions v e = editions (kept_in v e.first) (kept_in v e.second) (map (kept_in v) e.slices)

-- a version whose records are read back: its number fits its field, it has a whole second tolerance or none, and it takes all that the program does
pub record TripOk (v : Version) : Type 0 where
  pub form : FormOk v
  pub number : v.number < 65536
  pub axes : (v.second ≡ 0) ⊎ (v.second ≡ 8)
  pub most : length_of v (counts taken_vertices taken_vertices taken_slices) ≤ v.most

-- both versions are
pub trip1 : TripOk form1
unfolding length_of size
trip1 = record { form = record { second = omega arith; edition = omega arith }; number = omega arith; axes = inl refl; most = omega arith }

pub trip2 : TripOk form2
unfolding length_of size
trip2 = record { form = record { second = omega arith; edition = omega arith }; number = omega arith; axes = inr refl; most = omega arith }

pub trip-ok : (n : ℕ) → TripOk (form_for n)
unfolding form_for
trip-ok n = by-test (eqb n 2) (λ t. rw t trip2) (λ f. rw f trip1)

-- ---- what is kept matches where what was handed in does
kept_of_lem : (v : Version) (first second source : ℕ) → kept_in v (edition_of first second source) ≡ edition_of (kept_in v first) (kept_in v second) source
kept_of_lem v first second source = by-test (eqb source 1) (λ t. rw t) (λ f. rw f)

pub kept-matched : (v : Version) (g : Given) (e : Editions) → length g.slice_at ≡ code_width * g.slices → Matched g e → Matched g (kept_editions v e)
kept-matched v g e whole m =
    let none : kept_in v 0 ≡ 0 = zero-mod (256 ^ v.edition) in
    record {
      each = length-map e.slices (kept_in v) ∙ m.each;
      same =
          at-edition (kept_editions v e) g.slice_at g.slices whole
          (λ i h. ap (get_or (map (kept_in v) e.slices) i) (sym none) ∙ get_or-map (kept_in v) e.slices i 0
          ∙ ap (kept_in v) (edition-at e g.slice_at g.slices whole m.same i h)
          ∙ kept_of_lem v e.first e.second (codes_at g.slice_at i).source);
    }

-- ---- editions that fit are kept as they are
pub record EditionsFit (v : Version) (e : Editions) : Type 0 where
  pub first : e.first < 256 ^ v.edition
  pub second : e.second < 256 ^ v.edition
  pub slices : All (λ (x : ℕ). x < 256 ^ v.edition) e.slices

kept-list : (v : Version) (l : List ℕ) → All (λ (x : ℕ). x < 256 ^ v.edition) l → map (kept_in v) l ≡ l
kept-list v [] h = refl
kept-list v (x ∷ l) h = rw (mod-eq_of_lt h.0, kept-list v l h.1)

pub kept_same : (v : Version) (e : Editions) → EditionsFit v e → kept_editions v e ≡ e
kept_same v e f = rw (mod-eq_of_lt f.first, mod-eq_of_lt f.second, kept-list v e.slices f.slices)

-- a version without editions keeps none of them
none_list : (v : Version) → v.edition ≡ 0 → (l : List ℕ) → map (kept_in v) l ≡ replicate (length l) 0
none_list v z [] = refl
none_list v z (x ∷ l) = rw (none_list v z l, z, mod-one x)

pub kept-none : (v : Version) → v.edition ≡ 0 → (e : Editions) → kept_editions v e ≡ one_edition 0 (length e.slices)
kept-none v z e = rw (none_list v z e.slices, z, mod-one e.first, mod-one e.second)
