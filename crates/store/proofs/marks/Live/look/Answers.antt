use Rattle.store.proofs.Looking.{looked-unnamed, handle-low, place-low, looked-handle, looked-place, looked-more}
use Rattle.store.proofs.marks.Live.look.Goals as goal

pub returns-then-not-names : goal.returns-then-not-names
returns-then-not-names c = search looked-unnamed

pub bounds-self-h : goal.bounds-self-h
bounds-self-h c = search handle-low

pub returns-then-self-h : goal.returns-then-self-h
returns-then-self-h c = search looked-handle

pub bounds-self-t : goal.bounds-self-t
bounds-self-t c = search place-low

pub returns-then-self-t : goal.returns-then-self-t
returns-then-self-t c = search looked-place

pub bounds-self-h-2 : goal.bounds-self-h-2
bounds-self-h-2 c = search handle-low

pub bounds-self-t-2 : goal.bounds-self-t-2
bounds-self-t-2 c = search place-low

pub returns : goal.returns
returns c = search looked-more
