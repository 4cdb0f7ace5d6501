-- The items of the candidates in each of the three lists: how many there are, one place after the other.
use Rattle.std.specs.Prelude.{ℕ, zero, suc, ◌*◌, ◌≤◌, ◌≡◌, refl, Option, Some, None}
use Rattle.std.proofs.Common.{zero-le, ◌∙◌, mul-zero, arith}
use Rattle.std.proofs.Math.Path.{sym, ap}
use mathlib.Core.List.{List, ◌++◌, flat_map}
use Rattle.std.proofs.Math.Nat.{mul-add}
use Rattle.std.proofs.Math.ListN.{length, length-append}
use Rattle.basis.specs.FlatLaws.{flat_append}
use Rattle.candidate.specs.declared.at_cut.Candidate.{Candidate}
use Rattle.candidate.specs.Candidates.{Given, candidate_at, kept, candidates_to, numbers_of, shape_of, probe_of}

pub kept-few : (c : Option Candidate) → length (kept c) ≤ 1
kept-few None = zero-le
kept-few (Some c) = omega arith

-- ---- one list: its items are w numbers for each candidate
pub record Wide {A : Type 0} (w : ℕ) (f : Option Candidate → List A) : Type 0 where
  pub sized : (c : Option Candidate) → length (f c) ≡ w * length (kept c)
  pub alone : (c : Option Candidate) → flat_map f (kept c) ≡ f c

pub wide-numbers : Wide 2 numbers_of
unfolding flat_map
wide-numbers = record { sized = sized; alone = alone }
  where
    sized : (c : Option Candidate) → length (numbers_of c) ≡ 2 * length (kept c)
    sized None = refl
    sized (Some c) = refl

    alone : (c : Option Candidate) → flat_map numbers_of (kept c) ≡ numbers_of c
    alone None = refl
    alone (Some c) = refl

pub wide-shapes : Wide 6 shape_of
unfolding flat_map
wide-shapes = record { sized = sized; alone = alone }
  where
    sized : (c : Option Candidate) → length (shape_of c) ≡ 6 * length (kept c)
    sized None = refl
    sized (Some c) = refl

    alone : (c : Option Candidate) → flat_map shape_of (kept c) ≡ shape_of c
    alone None = refl
    alone (Some c) = refl

pub wide-probes : Wide 6 probe_of
unfolding flat_map
wide-probes = record { sized = sized; alone = alone }
  where
    sized : (c : Option Candidate) → length (probe_of c) ≡ 6 * length (kept c)
    sized None = refl
    sized (Some c) = refl

    alone : (c : Option Candidate) → flat_map probe_of (kept c) ≡ probe_of c
    alone None = refl
    alone (Some c) = refl

module _ {A : Type 0} (w : ℕ) (f : Option Candidate → List A) (wide : Wide w f) (g : Given) where
  pub flat-more : (p : ℕ) → flat_map f (candidates_to g (suc p)) ≡ flat_map f (candidates_to g p) ++ f (candidate_at g p)
  unfolding candidates_to
  flat-more p = flat_append f (candidates_to g p) (kept (candidate_at g p)) ∙ ap (λ (q : List A). flat_map f (candidates_to g p) ++ q) (wide.alone (candidate_at g p))

  -- the length of the items
  pub flat-length : (p : ℕ) → length (flat_map f (candidates_to g p)) ≡ w * length (candidates_to g p)
  flat-length zero = unfold candidates_to flat_map in sym (mul-zero w)
  flat-length (suc p) =
      ap length (flat-more p) ∙ length-append (flat_map f (candidates_to g p)) (f (candidate_at g p))
      ∙ rw (flat-length p, wide.sized (candidate_at g p), ← mul-add w) (unfold candidates_to in ap (λ (n : ℕ). w * n) (sym (length-append (candidates_to g p) (kept (candidate_at g p)))))
