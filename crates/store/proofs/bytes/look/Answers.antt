use Rattle.store.proofs.LookingBytes.{looked-unnamed, handle-low, place-low, looked-handle, looked-place, looked-more}
use Rattle.store.proofs.bytes.look.Goals as goal

pub returns-then-not-names : goal.returns-then-not-names
returns-then-not-names c = search looked-unnamed

pub bounds-handles-h : goal.bounds-handles-h
bounds-handles-h c = search handle-low

pub returns-then-handles-h-ne0 : goal.returns-then-handles-h-ne0
returns-then-handles-h-ne0 c = search looked-handle

pub bounds-places-t : goal.bounds-places-t
bounds-places-t c = search place-low

pub returns-then-places-t-ne0 : goal.returns-then-places-t-ne0
returns-then-places-t-ne0 c = search looked-place

pub bounds-handles-h-2 : goal.bounds-handles-h-2
bounds-handles-h-2 c = search handle-low

pub bounds-places-t-2 : goal.bounds-places-t-2
bounds-places-t-2 c = search place-low

pub returns : goal.returns
returns c = search looked-more
