-- Each look's answer, in its place in the order.
use Prim.Native.Nat.{ℕ, ◌-◌, ◌≤◌}
use native.Mathlib.Omega.{arith}
use mathlib.Core.Bool.{Bool, true, false}
use mathlib.Core.List.{List}
use mathlib.Core.Path.{◌≡◌, refl, sym, ◌∙◌}
use lib.Dec.{eqb}
use Rattle.std.specs.Prelude.{Option, Some, None}
use lib.Ieee.{Float}
use borrow.Author.Tests.{eq-eqb, ne_eqb}
use Rattle.stitch_run.specs.Run.{free, passing}
use Rattle.basis.specs.Choice.{and_assoc}
use Rattle.select.specs.declared.class.Starts.{Starts}
use Rattle.select.specs.declared.class.Class.{Class}
use Rattle.select.specs.declared.class.Class.TheVariants.{OfOne, OfTwo, OverlapOfOne, OverlapOfTwo}
use Rattle.select.specs.Select.{no_number, class_of}
use Rattle.stitch_layout.specs.declared.layout.Layout.{Layout}
use Rattle.stitch_layout.specs.declared.layout.Query.{Query}
use Rattle.stitch_links.specs.declared.look.Cells.{Cells}
use Rattle.stitch_layout.specs.Slices.{group_of, home_of, starts_in, meets_of}
use Rattle.stitch_links.specs.Looks.{hit_of, lowest_of, cells_of}
use Rattle.stitch_layout.specs.Links.{Linked}
use Rattle.stitch_links.specs.Ready.{Sides, Lowest}
use Rattle.stitch_links.specs.Ready as links
use Rattle.stitch_answer.specs.Answer.{offered_of, answer_of, group_first, refused_of, in_order, in_group, grouped, Ready, Grouped}
use Rattle.stitch_answer.specs.GroupLaws.{lowest-same}
use Rattle.stitch_answer.specs.TableLaws.{order_is}

module _ (points : List Float) (visited : List Bool) (w : Layout) (q : Query) where
  -- a look for a group is a look among the candidates
  hit-group : (g j : ℕ) → hit_of points visited w (grouped q g) j ≡ in_group (offered_of points visited q) w g j
  unfolding meets_of offered_of
  hit-group g j = sym (and_assoc (free visited q.first j) (starts_in points q j) (eqb (group_of w j) g))

  abbrev X : ℕ → ℕ
  X g = lowest_of (in_group (offered_of points visited q) w g) w.count

  looked : (g : ℕ) (link : List ℕ) (r : ℕ) (v : Query) → v ≡ grouped q g → Lowest points visited w v link r → r ≡ X g
  looked g link r v e t =
      let i = t.is in
      (rw e at i) ∙ lowest-same (hit_of points visited w (grouped q g)) (in_group (offered_of points visited q) w g) w.count (λ j l. hit-group g j)

  still : (g : ℕ) (link : List ℕ) (r : ℕ) (v : Query) → v ≡ grouped q g → Lowest points visited w v link r → Linked (free visited q.first) (home_of points w) (meets_of points w) w.lists w.count link
  still g link r v e t = let l = t.linked in rw e at l

  module _ (selector : ℕ) (s : Starts) where
    pub sides-of : (link : List ℕ) → Ready points visited w q link selector s → Sides w
    sides-of link a = record { x = a.ready.fit.x; y = a.ready.fit.y }

    -- what a look asks: at first, and after a look
    pub asked-first : (link : List ℕ) (g : ℕ) (v : Query) (c : Cells) → Ready points visited w q link selector s → v ≡ grouped q g → c ≡ cells_of w q → links.Asked points visited w v link c
    asked-first link g v c a e f =
        rw e
        (record {
          ready = a.ready;
          cells = f;
        })

    pub asked-again : (link link' : List ℕ) (g h r : ℕ) (u v : Query) (c : Cells) → Ready points visited w q link selector s → u ≡ grouped q h → Lowest points visited w u link' r → v ≡ grouped q g → c ≡ cells_of w q
        → links.Asked points visited w v link' c
    asked-again link link' g h r u v c a d t e f =
        rw e
        (record {
          ready = record { fit = a.ready.fit; marks = a.ready.marks; linked = still h link' r u d t };
          cells = f;
        })

  module _ (selector : ℕ) (s : Starts) (current : ℕ) where
    module _ (link₀ : List ℕ) (class : Class) (g : ℕ) (ready : Ready points visited w q link₀ selector s) (k : class ≡ class_of s current) (first : g ≡ group_first class) where
      order : (a b o : ℕ) → a ≡ X g → b ≡ X (1 - g) → o ≡ X 2 → in_order (refused_of selector class) a b o ≡ answer_of selector s current (passing (offered_of points visited q) w.count)
      order a b o x y z = rw (x, y, z, first) (sym (order_is (offered_of points visited q) w s w.count ready.ready.fit.few ready.classed selector current class ready.known.few k))

      module _ (link₁ : List ℕ) (a : ℕ) (u : Query) (d : u ≡ grouped q g) (t : Lowest points visited w u link₁ a) where
        pub chosen-first : (a ≡ no_number → ⊥) → Grouped points visited w q selector s current link₁ (Some (Some a))
        chosen-first n =
            record { is = told ∙ order a (X (1 - g)) (X 2) (looked g link₁ a u d t) refl refl; linked = still g link₁ a u d t }
          where
            told : Some (Some a) ≡ in_order (refused_of selector class) a (X (1 - g)) (X 2)
            told = unfold in_order in rw (ne_eqb a no_number n)

        module _ (none : a ≡ no_number) (link₂ : List ℕ) (b : ℕ) (v : Query) (e : v ≡ grouped q (1 - g)) (t₂ : Lowest points visited w v link₂ b) where
          pub chosen-second : (b ≡ no_number → ⊥) → Grouped points visited w q selector s current link₂ (Some (Some b))
          chosen-second n =
              record { is = told ∙ order a b (X 2) (looked g link₁ a u d t) (looked (1 - g) link₂ b v e t₂) refl; linked = still (1 - g) link₂ b v e t₂ }
            where
              told : Some (Some b) ≡ in_order (refused_of selector class) a b (X 2)
              told = unfold in_order in rw (eq-eqb a no_number none, ne_eqb b no_number n)

          module _ (none₂ : b ≡ no_number) (link₃ : List ℕ) (o : ℕ) (x : Query) (f : x ≡ grouped q 2) (t₃ : Lowest points visited w x link₃ o) where
            whole : (r : Option (Option ℕ)) → r ≡ in_order (refused_of selector class) a b o → Grouped points visited w q selector s current link₃ r
            whole r h = record { is = h ∙ order a b o (looked g link₁ a u d t) (looked (1 - g) link₂ b v e t₂) (looked 2 link₃ o x f t₃); linked = still 2 link₃ o x f t₃ }

            pub none-chosen : o ≡ no_number → Grouped points visited w q selector s current link₃ None
            none-chosen n = whole None (unfold in_order in rw (eq-eqb a no_number none, eq-eqb b no_number none₂, eq-eqb o no_number n))

            pub overlap-refused : (m : Bool) → (o ≡ no_number → ⊥) → m ≡ refused_of selector class → m ≡ true → Grouped points visited w q selector s current link₃ (Some None)
            overlap-refused m n h i = whole (Some None) (unfold in_order in rw (eq-eqb a no_number none, eq-eqb b no_number none₂, ne_eqb o no_number n, sym h, i))

            pub overlap-chosen : (m : Bool) → (o ≡ no_number → ⊥) → m ≡ refused_of selector class → m ≡ false → Grouped points visited w q selector s current link₃ (Some (Some o))
            overlap-chosen m n h i = whole (Some (Some o)) (unfold in_order in rw (eq-eqb a no_number none, eq-eqb b no_number none₂, ne_eqb o no_number n, sym h, i))

pub first-few : (class : Class) (g : ℕ) → g ≡ group_first class → g ≤ 1
first-few class g e = rw e (go class)
  where
    go : (k : Class) → group_first k ≤ 1
    go OfOne = omega arith
    go OfTwo = omega arith
    go OverlapOfOne = omega arith
    go OverlapOfTwo = omega arith
