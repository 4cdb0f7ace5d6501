-- Theorems about the entries for starting anywhere. No code is proved by them.
use Rattle.std.specs.Prelude.{ℕ, ◌-◌, Bool, true, false, not, ◌≡◌, List, eqb, Float, Some}
use Rattle.std.proofs.Math.Path.{refl, ap}
use Rattle.std.proofs.Common.{sym, ◌∙◌, arith, le-ltb}
use Rattle.std.proofs.lemmas.Bool.{lt-leb, not-false}
use Rattle.basis.specs.Choice.{code_of}
use Rattle.basis.specs.All.{all_of, all-at}
use Rattle.basis.specs.Number.{+0, within, all_within}
use Rattle.basis.specs.declared.number.Tolerance.{Tolerance}
use Rattle.basis.specs.Refuse.{choice_fault}
use Rattle.basis.specs.RefuseLaws.{clear, none-clear, ok-length, ok-size, answer-accepted}
use Rattle.outline.specs.declared.point.Point.{Point}
use Rattle.outline.specs.Points.{point_numbers, vertex_numbers}
use Rattle.view.specs.declared.data.ViewData.{ViewData}
use Rattle.view.specs.View.{Fit, view_numbers}
use Rattle.view_entries.specs.declared.input.Split.{Split}
use Rattle.view_entries.specs.Inputs.{flat_view}
use Rattle.view_entries.specs.Answers.{view_refused, segment_made}
use Rattle.view_entries.specs.ViewVertex.{view_vertex_rows, view_vertex_refusal}
use Rattle.view_span.specs.declared.span.Ends.{Ends}
use Rattle.view_span.specs.Span.{ends_of, span_of}
use Rattle.view_start.specs.SlicePoints.{slice_view}
use Rattle.view_start.specs.NewStart.{new_ends, new_start_view}
use Rattle.view_start.specs.Asked.{Asked, Parts, start_asked, end_asked, handed_in}
use Rattle.view_start.specs.StartTheorems.{slice_fits, slice-numbers, new-start-fits, new-start-numbers}
use Rattle.view_start_entries.specs.RustText as rust
use Rattle.view_start_entries.specs.RustTheorems.{slice_is, new-start-is}
use Rattle.view_start_entries.specs.StartRows.{splits_of, ends_numbers, split_numbers}
use Rattle.view_start_entries.specs.SliceEntry.{slice_rows, slice_refusal, slice_answer, slice-accepted}
use Rattle.view_start_entries.specs.NewStartEntry.{new_start_rows, new_start_refusal, new_start_answer, new-start-accepted}

-- ---- A view that an entry gives is accepted again: `mask_view_vertex` refuses it at no index.
a-code : (b : Bool) → choice_fault (code_of b) ≡ false
a-code true = refl
a-code false = refl

fitting-accepted : (o : List Float) (vc : ℕ) (v : ViewData) → Fit o vc v → all_within o ≡ true → all_within (view_numbers v) ≡ true → view_vertex_refusal o vc (flat_view v) ≡ 0
unfolding view_vertex_refusal
fitting-accepted o vc v f a b =
    none-clear (view_vertex_rows o vc (flat_view v))
    (ok-length 3 _ vc f.whole.triples, (ok-size vc f.whole.least f.whole.most, (a-code v.inverted_direction, (ap not a, (ap not b, (lt-leb vc v.start_index f.starts, (le-ltb vc v.end_index_offset f.reaches, tt)))))))

-- the numbers of a split, and of two points, each in range where all are
part-passes : (s : Split) → all_within (split_numbers s) ≡ true → all_within (vertex_numbers s.updated_start) ≡ true
unfolding all_of
part-passes s a = simp (all-at within (split_numbers s) 0 +0 a (omega arith), all-at within (split_numbers s) 1 +0 a (omega arith), all-at within (split_numbers s) 2 +0 a (omega arith))

vertex-passes : (s : Split) → all_within (split_numbers s) ≡ true → all_within (vertex_numbers s.split_vertex) ≡ true
unfolding all_of
vertex-passes s a = simp (all-at within (split_numbers s) 3 +0 a (omega arith), all-at within (split_numbers s) 4 +0 a (omega arith), all-at within (split_numbers s) 5 +0 a (omega arith))

end-passes : (e : Ends) → all_within (ends_numbers e) ≡ true → all_within (point_numbers e.end_point) ≡ true
unfolding all_of
end-passes e a = simp (all-at within (ends_numbers e) 2 +0 a (omega arith), all-at within (ends_numbers e) 3 +0 a (omega arith))

pub slice-accepted-again : (o : List Float) (vc closed : ℕ) (e : Ends) (t : Tolerance) (start end : Split) (v : ViewData) → slice_refusal o vc closed e t start end ≡ 0
    → slice_view o vc e t (splits_of start end) ≡ Some v → view_vertex_refusal o vc (flat_view v) ≡ 0
unfolding slice_refusal
slice-accepted-again o vc closed e t start end v z is =
    let ok = clear (slice_rows o vc closed e t start end) tt z in
    let f = slice-accepted o vc closed e t start end 0 (sym z) refl in
    let numbers : all_within o ≡ true = not-false (all_within o) (search ok) in
    let first : all_within (split_numbers start) ≡ true = not-false (all_within (split_numbers start)) (search ok) in
    let last : all_within (split_numbers end) ≡ true = not-false (all_within (split_numbers end)) (search ok) in
    let points : all_within (ends_numbers e) ≡ true = not-false (all_within (ends_numbers e)) (search ok) in
    fitting-accepted o vc v (slice_fits o vc e t (splits_of start end) v is f) numbers
    (slice-numbers o vc e t (splits_of start end) v is within f.whole numbers (vertex-passes start first) (part-passes end last) (end-passes e points))

pub new-start-accepted-again : (o : List Float) (vc closed i : ℕ) (p : Point) (t : Tolerance) (start end : Split) (v : ViewData) → new_start_refusal o vc closed i p t start end ≡ 0
    → new_start_view o vc (eqb closed 1) i p t (splits_of start end) ≡ Some v → view_vertex_refusal o vc (flat_view v) ≡ 0
unfolding new_start_refusal
new-start-accepted-again o vc closed i p t start end v z is =
    let ok = clear (new_start_rows o vc closed i p t start end) tt z in
    let g = new-start-accepted o vc closed i p t start end 0 (sym z) refl in
    let numbers : all_within o ≡ true = not-false (all_within o) (search ok) in
    let first : all_within (split_numbers start) ≡ true = not-false (all_within (split_numbers start)) (search ok) in
    let last : all_within (split_numbers end) ≡ true = not-false (all_within (split_numbers end)) (search ok) in
    let point : all_within (point_numbers p) ≡ true = not-false (all_within (point_numbers p)) (search ok) in
    fitting-accepted o vc v (new-start-fits o vc (eqb closed 1) i p t (splits_of start end) v is g) numbers
    (new-start-numbers o vc (eqb closed 1) i p t (splits_of start end) v is within g.whole numbers (all-at within (split_numbers start) 2 +0 first (omega arith)) (vertex-passes start first)
    (part-passes end last) point)

-- ---- An accepted call whose splits the host made as it was asked answers what the Rust gives with the same splits.
abbrev split_of : Parts → Split
split_of s = record { updated_start = s.part; split_vertex = s.vertex }

module _ (host : Asked → Parts) (o : List Float) (vc closed : ℕ) (t : Tolerance) where
  abbrev pub start_split : Ends → Split
  start_split e = split_of (host (start_asked o vc e (span_of o vc e t)))

  abbrev pub end_split : Ends → Split
  end_split e = split_of (host (end_asked o vc e (span_of o vc e t) (host (start_asked o vc e (span_of o vc e t))).vertex))

  pub slice-as-rust : (p : Point) (i : ℕ) (q : Point) (j : ℕ) → slice_refusal o vc closed (ends_of (eqb closed 1) i p j q) t (start_split (ends_of (eqb closed 1) i p j q)) (end_split (ends_of (eqb closed 1) i p j q)) ≡ 0
      → slice_answer o vc closed (ends_of (eqb closed 1) i p j q) t (start_split (ends_of (eqb closed 1) i p j q)) (end_split (ends_of (eqb closed 1) i p j q)) ≡ segment_made (rust.from_slice_points host o vc t (eqb closed 1) p i q j)
  unfolding handed_in
  slice-as-rust p i q j z =
      let e = ends_of (eqb closed 1) i p j q in
      answer-accepted view_refused _ _ _ refl z
      ∙ ap segment_made (sym (slice_is host o vc t (eqb closed 1) p i q j (slice-accepted o vc closed e t (start_split e) (end_split e) 0 (sym z) refl)))

  pub new-start-as-rust : (p : Point) (i : ℕ) → new_start_refusal o vc closed i p t (start_split (new_ends o vc (eqb closed 1) i p)) (end_split (new_ends o vc (eqb closed 1) i p)) ≡ 0
      → new_start_answer o vc closed i p t (start_split (new_ends o vc (eqb closed 1) i p)) (end_split (new_ends o vc (eqb closed 1) i p)) ≡ segment_made (rust.from_new_start host o vc t (eqb closed 1) p i)
  unfolding handed_in
  new-start-as-rust p i z =
      let e = new_ends o vc (eqb closed 1) i p in
      answer-accepted view_refused _ _ _ refl z
      ∙ ap segment_made (sym (new-start-is host o vc t p i (new-start-accepted o vc closed i p t (start_split e) (end_split e) 0 (sym z) refl) (eqb closed 1)))
