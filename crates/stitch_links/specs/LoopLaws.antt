-- What the loop keeps that looks through a list, and what each function below asks of it.
use Rattle.std.specs.Prelude.{ℕ, ◌+◌, ◌-◌, ◌≤◌, ◌<◌, Bool, true, false, List, ◌≡◌, refl, length, get_or, set, Float}
use Rattle.std.proofs.Common.{arith, sym, ap, ◌∙◌, length-set}
use Rattle.std.proofs.Math.Bool.{and-false}
use Rattle.select.specs.Select.{no_number}
use Rattle.stitch_layout.specs.declared.layout.Layout.{Layout}
use Rattle.stitch_layout.specs.declared.layout.Query.{Query}
use Rattle.stitch_run.specs.Run.{free}
use Rattle.stitch_layout.specs.Slices.{home_of, meets_of}
use Rattle.stitch_layout.specs.Links.{Run}
use Rattle.stitch_layout.specs.Ready.{Fit, Passed}
use Rattle.stitch_links.specs.Looks.{hit_of, Looked}
use Rattle.stitch_links.specs.Ready.{OnList}
use Rattle.stitch_links.specs.LinkLaws.{Looking, looking-none, looking-less, looking-further, looking-slice, looking-home, looking-under, looking-on, looking-skip, looking-found, looking-end}

-- ---- a list is looked through
module _ (points : List Float) (visited : List Bool) (w : Layout) (q : Query) where
  abbrev f : ℕ → Bool
  f = free visited q.first

  abbrev hit : ℕ → Bool
  hit = hit_of points visited w q

  abbrev L : ℕ → ℕ
  L = home_of points w

  abbrev M : Query → ℕ → Bool
  M = meets_of points w

  asks : (j : ℕ) → f j ≡ false → hit j ≡ false
  asks j e = rw e

  pub record Seeking (link₀ : List ℕ) (h lists end : ℕ) (link : List ℕ) (at next seen : ℕ) : Type 0 where
    pub fit : Fit points w
    pub marks : w.count ≤ length visited
    pub looking : Looking f hit L M w.lists w.count h link at next
    pub same : length link ≡ length link₀
    pub lists-is : lists ≡ w.lists
    pub end_is : end ≡ w.lists + w.count
    pub seen-is : 0 < w.count → seen < w.count

  pub seeking-none : (link : List ℕ) (h : ℕ) → OnList points visited w q.first link h → Seeking link h w.lists (w.lists + w.count) link h (get_or link h 0) 0
  seeking-none link h t =
      record {
        fit = t.ready.fit;
        marks = t.ready.marks;
        looking = looking-none f hit L M w.lists w.count h asks link t.ready.linked t.inside;
        same = refl;
        lists-is = refl;
        end_is = refl;
        seen-is = λ s. s;
      }

  module _ (link₀ : List ℕ) (h lists end : ℕ) (link : List ℕ) (at next seen : ℕ) (t : Seeking link₀ h lists end link at next seen) where
    pub record Onward : Type 0 where
      pub under : lists ≤ next
      pub slice : next - lists < w.count
      pub inside : next < length link
      pub higher : next < get_or link next 0
      pub at-inside : at < length link

    pub onward : next < end → Onward
    onward k =
        let e = t.end_is in
        let l = t.lists-is in
        let z : next < w.lists + w.count = omega arith in
        record {
          under = omega (arith, looking-under f hit L M w.lists w.count h asks link at next t.looking z);
          slice = (let s = looking-slice f hit L M w.lists w.count h asks link at next t.looking z in omega arith);
          inside = omega (arith, t.looking.linked.size);
          higher = looking-less f hit L M w.lists w.count h asks link at next t.looking z;
          at-inside = omega (arith, t.looking.linked.size, t.looking.place);
        }

    module _ (k : next < end) where
      z : next < w.lists + w.count
      z = let e = t.end_is in omega arith

      y : next - w.lists ≡ next - lists
      y = let l = t.lists-is in omega arith

      pub seeking-skip : f (next - lists) ≡ false → Seeking link₀ h lists end (set link at (get_or link next 0)) at (get_or link next 0) seen
      seeking-skip m =
          record {
            fit = t.fit;
            marks = t.marks;
            looking = looking-skip f hit L M w.lists w.count h asks link at next t.looking z (ap f y ∙ m);
            same = length-set link at (get_or link next 0) ∙ t.same;
            lists-is = t.lists-is;
            end_is = t.end_is;
            seen-is = t.seen-is;
          }

      pub seeking-pass : Passed points w link seen (next - lists)
      seeking-pass =
          let s = (onward k).slice in
          record {
            runs = record { fit = t.fit; size = t.looking.linked.size; run = λ j a b. t.looking.linked.runs j b };
            here = s;
            before = t.seen-is (omega arith);
          }

      module _ (last : ℕ) (r : Run L M w.lists w.count (next - lists) last) where
        r' : Run L M w.lists w.count (next - w.lists) last
        r' = rw y r

        pub last-inside : last < length link
        last-inside = omega (arith, t.looking.linked.size, r.inside)

        pub last-further : next < get_or link last 0
        last-further = looking-further f hit L M w.lists w.count h asks link at next t.looking z last r'

        pub seeking-on : meets_of points w q (next - lists) ≡ false → Seeking link₀ h lists end link last (get_or link last 0) (next - lists)
        seeking-on m =
            record {
              fit = t.fit;
              marks = t.marks;
              looking = looking-on f hit L M w.lists w.count h asks link at next t.looking z last r' (λ j a b c. missed j (r'.alike q j a b (c ∙ sym home) ∙ ap (M q) y ∙ m));
              same = t.same;
              lists-is = t.lists-is;
              end_is = t.end_is;
              seen-is = λ s. (onward k).slice;
            }
          where
            home : L (next - w.lists) ≡ h
            home = looking-home f hit L M w.lists w.count h asks link at next t.looking z

            missed : (j : ℕ) → meets_of points w q j ≡ false → hit j ≡ false
            missed j e = rw e (and-false (f j))

      pub seeking-found : f (next - lists) ≡ true → meets_of points w q (next - lists) ≡ true → Looked f hit L M (λ j. L j ≡ h) w.lists w.count link (next - lists)
      seeking-found a b =
          let r = looking-found f hit L M w.lists w.count h asks link at next t.looking z t.fit.few (ap hit y ∙ rw (a, b)) in
          rw y at r

    pub seeking-end : end ≤ next → Looked f hit L M (λ j. L j ≡ h) w.lists w.count link no_number
    seeking-end k =
        let e = t.end_is in
        looking-end f hit L M w.lists w.count h asks link at next t.looking (omega arith) t.fit.few
