-- K9: "Whatever the sequence of calls, it answers as a plain list would", for every content of lists of up to 2,047 places: a mark names no more.
use Rattle.std.specs.Prelude.{ℕ, ◌≤◌, ◌<◌, ◌≡◌, refl}
use Rattle.std.proofs.Math.Bool.{true, false}
use Rattle.std.proofs.Common.{◌∙◌, arith}
use Rattle.std.proofs.Math.ListN.{length}
use Rattle.std.proofs.Math.Dec.{eqb}
use borrow.Author.Tests.{eqb-false}
use Rattle.basis.specs.Choice.{by-test}
use Rattle.store.specs.Keys.{keyed}
use Rattle.basis.specs.Machine.{Alike}
use Rattle.store.specs.Slice.{Slice, Whole}
use Rattle.store.specs.Plain.{has, Call, put, release, list, compact, plain_step}
use Rattle.store.specs.Marks.{handle_of}
use Rattle.store.specs.MarksLaws.{lives-most}
use Rattle.store.specs.Lists.{Lists, Sized, lives_in, plain_of, list_step}
use Rattle.store.specs.ListsLaws.{plain-length, plain-has, plain-free, released-plain, released-sized, put-plain, put-sized, compacted-plain, compacted-sized}

-- a call whose slice, where it has one, is four codes and six numbers
pub data Sound : Call Slice → Type 0 where
  sound-put : {x : Slice} → Whole x → Sound (put x)
  sound-release : {h : ℕ} → Sound (release h)
  sound-list : Sound list
  sound-compact : Sound compact

module _ (cap : ℕ) (few : cap ≤ 2047) where
  abbrev One : Lists → Call Slice → Type 0
  One s c = Alike (plain_of cap) (Sized cap) (list_step cap) (plain_step cap) s c

  put-alike : (s : Lists) (x : Slice) → Sized cap s → Whole x → One s (put x)
  unfolding list_step plain_step
  put-alike s x z whole =
      by-test (eqb (length (lives_in cap s)) cap)
      (λ f.
      let g : eqb (length (plain_of cap s)) cap ≡ true = rw (plain-length cap s) f in
      record { says = rw (f, g); leaves = rw (f, g); keeps = rw f z })
      (λ f.
      let g : eqb (length (plain_of cap s)) cap ≡ false = rw (plain-length cap s) f in
      let d : length (lives_in cap s) ≡ cap → ⊥ = eqb-false _ _ f in
      let m : length (lives_in cap s) ≤ cap = lives-most cap s.held cap in
      let room : length (lives_in cap s) < cap = omega (arith, d) in
      record {
        says = rw (f, g, plain-free cap s);
        leaves = rw (f, g, plain-free cap s) (put-plain cap s x few z whole room);
        keeps = rw f (put-sized cap s x few z whole room);
      })

  release-alike : (s : Lists) (h : ℕ) → Sized cap s → One s (release h)
  unfolding list_step plain_step
  release-alike s h z =
      by-test (keyed handle_of (lives_in cap s) h)
      (λ e.
      let f : has (plain_of cap s) h ≡ true = plain-has cap s h ∙ e in
      record { says = rw (e, f); leaves = rw (e, f) (released-plain cap s h); keeps = rw e (released-sized cap s h z) })
      (λ e.
      let f : has (plain_of cap s) h ≡ false = plain-has cap s h ∙ e in
      record { says = rw (e, f); leaves = rw (e, f); keeps = rw e z })

  -- one call
  pub alike : (s : Lists) (c : Call Slice) → Sound c → Sized cap s → One s c
  unfolding list_step plain_step
  alike s (put x) (sound-put whole) z = put-alike s x z whole
  alike s (release h) sound-release z = release-alike s h z
  alike s list sound-list z = record { says = refl; leaves = refl; keeps = z }
  alike s compact sound-compact z = record { says = refl; leaves = compacted-plain cap few s z; keeps = compacted-sized cap few s z }
