-- "The lowest number that applies is given, and none otherwise", entry by entry: the number given applies, and none before it in the order of refusals does. Where the
-- numbers that apply are document 01's own, that is the lowest (basis/specs/RefusalOrderLaws.antt `own-lowest`).
use Rattle.std.specs.Prelude.{ℕ, List, ◌++◌, T, ℤ, Float}
use Rattle.basis.specs.declared.number.Tolerance.{Tolerance}
use Rattle.basis.specs.RefusalOrder.{First, in_order, before, refusal_order}
use Rattle.basis.specs.RefusalOrderLaws.{first-of}
use Rattle.outline.specs.declared.point.Point.{Point}
use Rattle.outline.specs.declared.point.Vertex.{Vertex}
use Rattle.view.specs.declared.create.Walk.{Walk}
use Rattle.view_entries.specs.declared.input.View.{View}
use Rattle.view_entries.specs.declared.input.Split.{Split}
use Rattle.view_entries.specs.ViewVertex.{view_vertex_rows, view_vertex_refusal}
use Rattle.view_entries.specs.ViewVertices.{view_vertices_rows, view_vertices_refusal}
use Rattle.view_entries.specs.CreateEntry.{create_rows, create_refusal}
use Rattle.view_entries.specs.SingleEntry.{single_rows, single_refusal}
use Rattle.view_entries.specs.EntireEntry.{entire_rows, entire_refusal}
use Rattle.view_span.specs.declared.span.Ends.{Ends}
use Rattle.view_start_entries.specs.SpanEntry.{span_rows, span_refusal}
use Rattle.view_start_entries.specs.SliceEntry.{slice_rows, slice_refusal}
use Rattle.view_start_entries.specs.NewStartEntry.{new_start_rows, new_start_refusal}
use Rattle.verdict_entries.specs.ValidateEntry.{ask_rows, ask_refusal, validate_rows, validate_refusal}
use Rattle.unmoved_entries.specs.UnmovedEntry.{unmoved_rows, unmoved_refusal}
use Rattle.cut.specs.Cuts as cuts
use Rattle.cut_entries.specs.CutRows.{list_rows, value_rows, index_rows}
use Rattle.cut_entries.specs.CutOrder.{cut_input_rows, cut_order_rows, cut_order_refusal}
use Rattle.candidate_faults.specs.declared.Lengths as candidate
use Rattle.candidate_entries.specs.Candidates.{later_rows, candidates_rows, candidates_refusal}
use Rattle.prune.specs.Prune as Prune
use Rattle.prune_entries.specs.PruneEntry.{input_rows, lent_rows, prune_refusal}
use Rattle.stitch_run.specs.Stitch as stitch
use Rattle.stitch_faults.specs.declared.faults.Lengths.{Lengths}
use Rattle.slice.specs.Editions.{Editions}
use Rattle.named_entries.specs.NamedStitch.{named_stitch_rows, named_stitch_refusal}
use Rattle.named_entries.specs.NamedArea.{named_area_rows, named_area_refusal}
use Rattle.settings.specs.declared.Setting.{Setting}
use Rattle.settings.specs.Settings.{Held}
use Rattle.settings_entries.specs.SettingsEntry as settings
use Rattle.straight_entries.specs.WindingEntry.{winding_rows, winding_refusal}
use Rattle.straight_entries.specs.AreaEntry as straight
use Rattle.straight_entries.specs.ReportEntry.{report_rows, report_refusal}
use Rattle.straight_slices.specs.Slices.{Given}
use Rattle.straight_slices.specs.Rows as slices
use Rattle.store.specs.Lists as store
use Rattle.store_entries.specs.StoreEntry.{Asked, to_put, to_release, to_list, to_compact, called, own_rows, call_rows, store_turn, last_rows, whole_rows, refusal_in}
use Rattle.store_entries.specs.StoreTheorems.{whole-table}

pub vertex-first : (o : List Float) (vc : ℕ) (v : View) → First (view_vertex_rows o vc v) (view_vertex_refusal o vc v)
unfolding view_vertex_refusal before refusal_order
vertex-first o vc v = first-of (view_vertex_rows o vc v) tt

pub vertices-first : (o : List Float) (vc : ℕ) (v : View) (len : ℕ) → First (view_vertices_rows o vc v len) (view_vertices_refusal o vc v len)
unfolding view_vertices_refusal before refusal_order
vertices-first o vc v len = first-of (view_vertices_rows o vc v len) tt

pub create-first : (o : List Float) (vc : ℕ) (w : Walk) (t : Tolerance) (split : Split) → First (create_rows o vc w t split) (create_refusal o vc w t split)
unfolding create_refusal before refusal_order
create-first o vc w t split = first-of (create_rows o vc w t split) tt

pub single-first : (o : List Float) (vc start : ℕ) (first : Vertex) (end : Point) (t : Tolerance) → First (single_rows o vc start first end t) (single_refusal o vc start first end t)
unfolding single_refusal before refusal_order
single-first o vc start first end t = first-of (single_rows o vc start first end t) tt

pub entire-first : (o : List Float) (vc closed : ℕ) → First (entire_rows o vc closed) (entire_refusal o vc closed)
unfolding entire_refusal before refusal_order
entire-first o vc closed = first-of (entire_rows o vc closed) tt

pub validate-first : (o : List Float) (vc edition : ℕ) (v : View) (view_edition start_on end_on : ℕ)
    → First (validate_rows o vc edition v view_edition start_on end_on) (validate_refusal o vc edition v view_edition start_on end_on)
unfolding validate_refusal before refusal_order
validate-first o vc edition v view_edition start_on end_on = first-of (validate_rows o vc edition v view_edition start_on end_on) tt

pub reopen-first : (o : List Float) (vc : ℕ) (v : View) (start_on end_on : ℕ) → First (ask_rows o vc v start_on end_on) (ask_refusal o vc v start_on end_on)
unfolding ask_refusal before refusal_order
reopen-first o vc v start_on end_on = first-of (ask_rows o vc v start_on end_on) tt

pub unmoved-first : (o1 : List Float) (vc1 : ℕ) (o2 : List Float) (vc2 : ℕ) (v : View) → First (unmoved_rows o1 vc1 o2 vc2 v) (unmoved_refusal o1 vc1 o2 vc2 v)
unfolding unmoved_refusal before refusal_order
unmoved-first o1 vc1 o2 vc2 v = first-of (unmoved_rows o1 vc1 o2 vc2 v) tt

pub span-first : (o : List Float) (vc closed : ℕ) (e : Ends) (t : Tolerance) → First (span_rows o vc closed e t) (span_refusal o vc closed e t)
unfolding span_refusal before refusal_order
span-first o vc closed e t = first-of (span_rows o vc closed e t) tt

pub slice_first : (o : List Float) (vc closed : ℕ) (e : Ends) (t : Tolerance) (start end : Split) → First (slice_rows o vc closed e t start end) (slice_refusal o vc closed e t start end)
unfolding slice_refusal before refusal_order
slice_first o vc closed e t start end = first-of (slice_rows o vc closed e t start end) tt

pub new-start-first : (o : List Float) (vc closed i : ℕ) (p : Point) (t : Tolerance) (start end : Split)
    → First (new_start_rows o vc closed i p t start end) (new_start_refusal o vc closed i p t start end)
unfolding new_start_refusal before refusal_order
new-start-first o vc closed i p t start end = first-of (new_start_rows o vc closed i p t start end) tt

pub order-first : (g : cuts.Given) (numbers points : ℕ) → First (cut_order_rows g numbers points) (cut_order_refusal g numbers points)
unfolding cut_order_refusal cut_input_rows list_rows value_rows index_rows before refusal_order
order-first g numbers points = first-of (cut_order_rows g numbers points) tt

pub candidates-first : (g : cuts.Given) (splits : List Float) (lent : candidate.Lengths) → First (candidates_rows g splits lent) (candidates_refusal g splits lent)
unfolding candidates_refusal list_rows later_rows value_rows index_rows before refusal_order
candidates-first g splits lent = first-of (candidates_rows g splits lent) tt

pub prune-first : (g : Prune.Given) (at slice edition : ℕ) → First (input_rows g ++ lent_rows g at slice edition) (prune_refusal g at slice edition)
unfolding prune_refusal input_rows before refusal_order
prune-first g at slice edition = first-of (input_rows g ++ lent_rows g at slice edition) tt

pub stitch-first : (h : Held) (k : ℕ) (g : stitch.Given) (e : Editions) (l : Lengths) → First (named_stitch_rows h k g e l) (named_stitch_refusal h k g e l)
unfolding named_stitch_refusal before refusal_order
stitch-first h k g e l = first-of (named_stitch_rows h k g e l) tt

pub area-first : (h : Held) (e : ℕ) (areas : List Float) (loops kept : ℕ) → First (named_area_rows h e areas loops kept) (named_area_refusal h e areas loops kept)
unfolding named_area_refusal before refusal_order
area-first h e areas loops kept = first-of (named_area_rows h e areas loops kept) tt

pub enter-first : (h : Held) (s : Setting) → First (settings.enter_rows h s) (settings.enter_refusal h s)
unfolding settings.enter_refusal before refusal_order
enter-first h s = first-of (settings.enter_rows h s) tt

pub ask-first : (h : Held) (e : ℕ) → First (settings.ask_rows h e) (settings.ask_refusal h e)
unfolding settings.ask_refusal before refusal_order
ask-first h e = first-of (settings.ask_rows h e) tt

pub winding-first : (o : List ℤ) (vc : ℕ) (x y : ℤ) → First (winding_rows o vc x y) (winding_refusal o vc x y)
unfolding winding_refusal before refusal_order
winding-first o vc x y = first-of (winding_rows o vc x y) tt

pub straight-area-first : (o : List ℤ) (vc : ℕ) → First (straight.area_rows o vc) (straight.area_refusal o vc)
unfolding straight.area_refusal before refusal_order
straight-area-first o vc = first-of (straight.area_rows o vc) tt

pub report-first : (points : List ℤ) (ends : List ℕ) (loops : ℕ) → First (report_rows points ends loops) (report_refusal points ends loops)
unfolding report_refusal before refusal_order
report-first points ends loops = first-of (report_rows points ends loops) tt

pub slices-first : (g : Given) (at slice edition : ℕ) → First (slices.slices_rows g at slice edition) (slices.slices_refusal g at slice edition)
unfolding slices.slices_refusal slices.input_rows list_rows before refusal_order
slices-first g at slice edition = first-of (slices.slices_rows g at slice edition) tt

store-ordered : (w : store.Lists) (p : ℕ) (a : Asked) → T (in_order (whole_rows w (called p a)))
unfolding whole_rows call_rows own_rows last_rows before refusal_order
store-ordered w p (to_put x) = tt
store-ordered w p (to_release h) = tt
store-ordered w p (to_list h a s e) = tt
store-ordered w p to_compact = tt

pub store-first : (w : store.Lists) (p : ℕ) (a : Asked) → First (whole_rows w (called p a)) (refusal_in (store_turn w (called p a)).answer)
store-first w p a = rw (whole-table w (called p a)) (first-of (whole_rows w (called p a)) (store-ordered w p a))
