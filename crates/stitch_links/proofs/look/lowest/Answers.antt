use Rattle.stitch_links.proofs.RowLaws.{rows_of, lowest-of}
use Rattle.stitch_links.proofs.look.lowest.Goals as goal

pub search-requires : goal.search-requires
search-requires c = rows_of _ _ _ _ _ _ c.requires

pub returns : goal.returns
returns c = lowest-of _ _ _ _ _ _ _ _ c.requires c.search.ensures
