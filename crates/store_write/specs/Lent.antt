-- What the code lends to be read, as what is said of it.
use Rattle.store_write.specs.declared.lent.Store.{Store}
use Rattle.store_write.specs.declared.lent.NewSlice.{NewSlice}
use Rattle.store.specs.Slice.{Slice, slice_of}
use Rattle.store.specs.Lists.{Lists, lists}

abbrev pub lists_of : Store → Lists
lists_of s = lists s.held.now s.at.now s.shape.now s.edition.now

abbrev pub slice_in : NewSlice → Slice
slice_in s = slice_of s.code.now s.number.now s.edition
