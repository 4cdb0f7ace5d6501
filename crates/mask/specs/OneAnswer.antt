-- Two permitted answers are equal, entry by entry: the result, and every list lent. Each contract is met by one answer at most.
use Rattle.std.specs.Prelude.{ℕ, ◌≡◌, List, ℤ, Float}
use Rattle.basis.specs.declared.number.Tolerance.{Tolerance}
use Rattle.basis.specs.RefuseLaws.{one_answer}
use Rattle.outline.specs.declared.point.Point.{Point}
use Rattle.outline.specs.declared.point.Vertex.{Vertex}
use Rattle.view.specs.declared.create.Walk.{Walk}
use Rattle.view_entries.specs.declared.input.View.{View}
use Rattle.view_entries.specs.declared.input.Split.{Split}
use Rattle.view_entries.specs.declared.answer.VertexAnswer.{VertexAnswer}
use Rattle.view_entries.specs.declared.answer.ViewAnswer.{ViewAnswer}
use Rattle.verdict_answer.specs.declared.answer.VerdictAnswer.{VerdictAnswer}
use Rattle.verdict_answer.specs.declared.answer.ReopenAnswer.{ReopenAnswer}
use Rattle.unmoved_entries.specs.declared.answer.UnmovedAnswer.{UnmovedAnswer}
use Rattle.view_entries.specs.ViewVertex.{view_vertex_answer}
use Rattle.view_entries.specs.ViewVertices.{VerticesLeft}
use Rattle.view_entries.specs.CreateEntry.{create_answer}
use Rattle.view_entries.specs.SingleEntry.{single_answer}
use Rattle.view_entries.specs.EntireEntry.{entire_answer}
use Rattle.verdict_entries.specs.ValidateEntry.{validate_answer}
use Rattle.view_span.specs.declared.span.Ends.{Ends}
use Rattle.view_start_entries.specs.declared.answer.SpanAnswer.{SpanAnswer}
use Rattle.view_start_entries.specs.SpanEntry.{span_answer}
use Rattle.view_start_entries.specs.SliceEntry.{slice_answer}
use Rattle.view_start_entries.specs.NewStartEntry.{new_start_answer}
use Rattle.verdict_entries.specs.ReopenEntry.{reopen_answer}
use Rattle.unmoved_entries.specs.UnmovedEntry.{unmoved_answer}
use Rattle.cut.specs.Cuts as cuts
use Rattle.basis.specs.declared.answer.CountAnswer.{CountAnswer}
use Rattle.cut_entries.specs.CutOrder.{CutOrdered}
use Rattle.candidate_entries.specs.Candidates.{Lent, Sliced}
use Rattle.slice.specs.Ready as slice
use Rattle.slice.specs.Editions.{Editions}
use Rattle.prune.specs.Prune.{Given}
use Rattle.prune_entries.specs.declared.answer.PruneAnswer.{PruneAnswer}
use Rattle.prune_entries.specs.PruneEntry.{PruneLeft}
use Rattle.stitch_run.specs.Stitch as stitch
use Rattle.stitch.specs.Lent.{Lists}
use Rattle.stitch_entries.specs.declared.answer.StitchAnswer.{StitchAnswer}
use Rattle.named_entries.specs.NamedStitch.{NamedStitch}
use Rattle.named_entries.specs.NamedArea.{NamedArea}
use Rattle.settings.specs.declared.Setting.{Setting}
use Rattle.settings.specs.Settings.{Held}
use Rattle.settings_entries.specs.declared.answer.EditionAnswer.{EditionAnswer}
use Rattle.settings_entries.specs.declared.answer.SettingAnswer.{SettingAnswer}
use Rattle.settings_entries.specs.SettingsEntry.{EnterLeft, ask_answer}
use Rattle.straight_entries.specs.declared.answer.WindingAnswer.{WindingAnswer}
use Rattle.straight_entries.specs.declared.answer.AreaAnswer.{AreaAnswer}
use Rattle.straight_entries.specs.declared.answer.ReportAnswer.{ReportAnswer}
use Rattle.straight_entries.specs.WindingEntry.{winding_answer}
use Rattle.straight_entries.specs.AreaEntry.{area_answer}
use Rattle.straight_entries.specs.ReportEntry.{report_answer}
use Rattle.straight_slices.specs.Slices as straight
use Rattle.straight_slices.specs.Rows.{SlicesLeft}
use Rattle.store.specs.Slice.{Slice}
use Rattle.store.specs.Plain.{Answer}
use Rattle.store.specs.Lists as store
use Rattle.store_write.specs.Calls as kept
use Rattle.store_entries.specs.StoreEntry as stored
use Rattle.store_entries.specs.StoreEntry.{StoreLeft, ListLeft}

pub vertex-one : (o : List Float) (vc : ℕ) (v : View) (k : ℕ) (r s : VertexAnswer) → r ≡ view_vertex_answer o vc v k → s ≡ view_vertex_answer o vc v k → r ≡ s
vertex-one o vc v k r s e f = one_answer r s (view_vertex_answer o vc v k) e f

pub vertices-one : (o : List Float) (vc : ℕ) (v : View) (room : List Float) (r s : CountAnswer) (a b : List Float)
    → VerticesLeft o vc v room r a → VerticesLeft o vc v room s b → (r ≡ s) × (a ≡ b)
vertices-one o vc v room r s a b x y = (one_answer r s _ x.answers y.answers, one_answer a b _ x.vertices y.vertices)

pub create-one : (o : List Float) (vc : ℕ) (w : Walk) (t : Tolerance) (split : Split) (r s : ViewAnswer) → r ≡ create_answer o vc w t split → s ≡ create_answer o vc w t split → r ≡ s
create-one o vc w t split r s e f = one_answer r s (create_answer o vc w t split) e f

pub single-one : (o : List Float) (vc start : ℕ) (first : Vertex) (end : Point) (t : Tolerance) (r s : ViewAnswer) → r ≡ single_answer o vc start first end t → s ≡ single_answer o vc start first end t → r ≡ s
single-one o vc start first end t r s e f = one_answer r s (single_answer o vc start first end t) e f

pub entire-one : (o : List Float) (vc closed : ℕ) (r s : ViewAnswer) → r ≡ entire_answer o vc closed → s ≡ entire_answer o vc closed → r ≡ s
entire-one o vc closed r s e f = one_answer r s (entire_answer o vc closed) e f

pub validate-one : (o : List Float) (vc edition : ℕ) (v : View) (view_edition start_on end_on : ℕ) (r s : VerdictAnswer)
    → r ≡ validate_answer o vc edition v view_edition start_on end_on → s ≡ validate_answer o vc edition v view_edition start_on end_on → r ≡ s
validate-one o vc edition v view_edition start_on end_on r s e f = one_answer r s (validate_answer o vc edition v view_edition start_on end_on) e f

pub reopen-one : (o : List Float) (vc edition : ℕ) (v : View) (view_edition start_on end_on : ℕ) (r s : ReopenAnswer)
    → r ≡ reopen_answer o vc edition v view_edition start_on end_on → s ≡ reopen_answer o vc edition v view_edition start_on end_on → r ≡ s
reopen-one o vc edition v view_edition start_on end_on r s e f = one_answer r s (reopen_answer o vc edition v view_edition start_on end_on) e f

pub unmoved-one : (o1 : List Float) (vc1 : ℕ) (o2 : List Float) (vc2 : ℕ) (v : View) (r s : UnmovedAnswer) → r ≡ unmoved_answer o1 vc1 o2 vc2 v → s ≡ unmoved_answer o1 vc1 o2 vc2 v → r ≡ s
unmoved-one o1 vc1 o2 vc2 v r s e f = one_answer r s (unmoved_answer o1 vc1 o2 vc2 v) e f

pub span-one : (o : List Float) (vc closed : ℕ) (e : Ends) (t : Tolerance) (r s : SpanAnswer) → r ≡ span_answer o vc closed e t → s ≡ span_answer o vc closed e t → r ≡ s
span-one o vc closed e t r s f g = one_answer r s (span_answer o vc closed e t) f g

pub slice-one : (o : List Float) (vc closed : ℕ) (e : Ends) (t : Tolerance) (start end : Split) (r s : ViewAnswer) → r ≡ slice_answer o vc closed e t start end → s ≡ slice_answer o vc closed e t start end → r ≡ s
slice-one o vc closed e t start end r s f g = one_answer r s (slice_answer o vc closed e t start end) f g

pub new-start-one : (o : List Float) (vc closed i : ℕ) (p : Point) (t : Tolerance) (start end : Split) (r s : ViewAnswer)
    → r ≡ new_start_answer o vc closed i p t start end → s ≡ new_start_answer o vc closed i p t start end → r ≡ s
new-start-one o vc closed i p t start end r s f g = one_answer r s (new_start_answer o vc closed i p t start end) f g

pub order-one : (g : cuts.Given) (cut_at : List ℕ) (cut : List Float) (r s : CountAnswer) (a b : List ℕ) (p q : List Float)
    → CutOrdered g cut_at cut r a p → CutOrdered g cut_at cut s b q → (r ≡ s) × (a ≡ b) × (p ≡ q)
order-one g cut_at cut r s a b p q x y =
    (one_answer r s _ x.answers y.answers, one_answer a b _ x.numbers y.numbers, one_answer p q _ x.points y.points)

pub candidates-one : (g : cuts.Given) (splits : List Float) (edition : ℕ) (l : Lent) (r s : CountAnswer) (a b : Lent)
    → Sliced g splits edition l r a → Sliced g splits edition l s b → (r ≡ s) × (a.at ≡ b.at) × (a.cand ≡ b.cand) × (a.probe ≡ b.probe) × (a.edition ≡ b.edition)
candidates-one g splits edition l r s a b x y = (
  one_answer r s _ x.answers y.answers,
  one_answer a.at b.at _ x.at y.at,
  one_answer a.cand b.cand _ x.cand y.cand,
  one_answer a.probe b.probe _ x.probe y.probe,
  one_answer a.edition b.edition _ x.editions y.editions,
)

-- `mask_candidates` and `mask_candidates_along` over one call: their contracts are the same, and do not speak of the hint. So the answers are equal for every hint.
pub along_one : (g : cuts.Given) (splits : List Float) (edition : ℕ) (l : Lent) (r s : CountAnswer) (a b : Lent) (hint : List ℕ)
    → Sliced g splits edition l r a → Sliced g splits edition l s b → (r ≡ s) × (a.at ≡ b.at) × (a.cand ≡ b.cand) × (a.probe ≡ b.probe) × (a.edition ≡ b.edition)
along_one g splits edition l r s a b hint = candidates-one g splits edition l r s a b

pub prune-one : (c : Given) (l : slice.Rooms) (r s : PruneAnswer) (a b : slice.Rooms)
    → PruneLeft c l r a → PruneLeft c l s b → (r ≡ s) × (a.at ≡ b.at) × (a.shape ≡ b.shape) × (a.edition ≡ b.edition)
prune-one c l r s a b x y = (
  one_answer r s _ x.answers y.answers,
  one_answer a.at b.at _ x.at y.at,
  one_answer a.shape b.shape _ x.shape y.shape,
  one_answer a.edition b.edition _ x.edition y.edition,
)

pub stitch-one : (h : Held) (k : ℕ) (g : stitch.Given) (e : Editions) (l : Lists) (r s : StitchAnswer) (a b : Lists)
    → NamedStitch h k g e l r a → NamedStitch h k g e l s b
    → (r ≡ s) × (a.room ≡ b.room) × (a.ends ≡ b.ends) × (a.chain ≡ b.chain) × (a.chain_ends ≡ b.chain_ends) × (a.chain_how ≡ b.chain_how)
stitch-one h k g e l r s a b x y = (
  one_answer r s _ x.answers y.answers,
  one_answer a.room b.room _ x.room y.room,
  one_answer a.ends b.ends _ x.ends y.ends,
  one_answer a.chain b.chain _ x.chain y.chain,
  one_answer a.chain_ends b.chain_ends _ x.chain_ends y.chain_ends,
  one_answer a.chain_how b.chain_how _ x.chain_how y.chain_how,
)

pub area-one : (h : Held) (e : ℕ) (areas : List Float) (loops : ℕ) (kept : List ℕ) (r s : CountAnswer) (a b : List ℕ)
    → NamedArea h e areas loops kept r a → NamedArea h e areas loops kept s b → (r ≡ s) × (a ≡ b)
area-one h e areas loops kept r s a b x y = (one_answer r s _ x.answers y.answers, one_answer a b _ x.list y.list)

pub enter_one : (h : Held) (s : Setting) (r q : EditionAnswer) (a b : Held) → EnterLeft h s r a → EnterLeft h s q b → (r ≡ q) × (a ≡ b)
enter_one h s r q a b x y = (one_answer r q _ x.answers y.answers, one_answer a b _ x.lists y.lists)

pub ask-one : (h : Held) (e : ℕ) (r s : SettingAnswer) → r ≡ ask_answer h e → s ≡ ask_answer h e → r ≡ s
ask-one h e r s p q = one_answer r s (ask_answer h e) p q

pub winding-one : (o : List ℤ) (vc : ℕ) (x y : ℤ) (r s : WindingAnswer) → r ≡ winding_answer o vc x y → s ≡ winding_answer o vc x y → r ≡ s
winding-one o vc x y r s e f = one_answer r s (winding_answer o vc x y) e f

pub straight-area-one : (o : List ℤ) (vc : ℕ) (r s : AreaAnswer) → r ≡ area_answer o vc → s ≡ area_answer o vc → r ≡ s
straight-area-one o vc r s e f = one_answer r s (area_answer o vc) e f

pub report-one : (points : List ℤ) (ends : List ℕ) (loops : ℕ) (r s : ReportAnswer) → r ≡ report_answer points ends loops → s ≡ report_answer points ends loops → r ≡ s
report-one points ends loops r s e f = one_answer r s (report_answer points ends loops) e f

pub slices-one : (g : straight.Given) (l : slice.Rooms) (r s : PruneAnswer) (a b : slice.Rooms)
    → SlicesLeft g l r a → SlicesLeft g l s b → (r ≡ s) × (a.at ≡ b.at) × (a.shape ≡ b.shape) × (a.edition ≡ b.edition)
slices-one g l r s a b x y = (
  one_answer r s _ x.answers y.answers,
  one_answer a.at b.at _ x.at y.at,
  one_answer a.shape b.shape _ x.shape y.shape,
  one_answer a.edition b.edition _ x.edition y.edition,
)

-- the four entries of the store: put, release and compaction leave the lists, the list leaves its room
pub store-one : {R : Type 0} (f : Answer Slice → R) (w : store.Lists) (c : stored.Called) (r s : R) (v u : store.Lists) → StoreLeft f w c r v → StoreLeft f w c s u → (r ≡ s) × (v ≡ u)
store-one f w c r s v u x y = (one_answer r s _ x.answers y.answers, one_answer v u _ x.lists y.lists)

pub list-one : (w : store.Lists) (p : ℕ) (o : kept.Rooms) (r s : CountAnswer) (v u : kept.Rooms) → ListLeft w p o r v → ListLeft w p o s u → (r ≡ s) × (v ≡ u)
list-one w p o r s v u x y = (one_answer r s _ x.answers y.answers, one_answer v u _ x.room y.room)
