-- What the functions that gather slices from their places require and ensure.
use Rattle.std.specs.Prelude.{ℕ, ◌*◌, ◌≤◌, ◌<◌, ◌≡◌, length}
use mathlib.Core.List.{List, flat_map}
use Rattle.basis.specs.All.{All}
use Rattle.store.specs.Blocks.{block}
use Rattle.store.specs.Marks.{place_of}

-- marks that name places of a list of w elements a place, and room for what stands there
pub record GatherFits {A B : Type 0} (w : ℕ) (src : List A) (marks : List ℕ) (dst : List B) : Type 0 where
  pub many : ℕ
  pub width : w * many ≤ length src
  pub below : All (λ m. place_of m < many) marks
  pub room : w * length marks ≤ length dst

-- what stands at the places that marks name, one after the other
unfoldable pub blocks_at : {A : Type 0} → ℕ → List A → List ℕ → List A
blocks_at w src ms = flat_map (λ m. block w src (place_of m)) ms

-- the same within one list of `most` elements at most
pub record LayFits {A : Type 0} (w most : ℕ) (l : List A) (marks : List ℕ) : Type 0 where
  pub many : ℕ
  pub width : length l ≡ w * many
  pub small : w * many ≤ most
  pub few : length marks ≤ many
  pub below : All (λ m. place_of m < many) marks

-- and to lent room that needs w elements for each of `need` items
pub record ShowFits {A B : Type 0} (w need : ℕ) (src : List A) (marks : List ℕ) (dst : List B) : Type 0 where
  pub gather : GatherFits w src marks dst
  pub least : length marks ≤ need
  pub room : w * need ≤ length dst

pub record ShowHandles (need : ℕ) (marks dst : List ℕ) : Type 0 where
  pub least : length marks ≤ need
  pub room : need ≤ length dst
