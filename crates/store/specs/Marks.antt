-- The marks of a store, one number for each live slice, in the order put; a store has as many numbers as places, and those that are no mark say nothing.
-- A mark says which handle a slice has and at which place it stands. So the order put is kept by the marks alone, and a slice stays where it stands.
use Rattle.std.specs.Prelude.{ℕ, zero, suc, ◌+◌, ◌-◌, ◌*◌, ◌/◌, ◌%◌, Bool, not, cond, ◌&&◌, List, [], ◌∷◌, ◌++◌, length, get_or, replicate, leb, ltb}
use Rattle.store.specs.Keys.{keyed}

-- the most places that lists have here: a party's half
abbrev pub most_places : ℕ
most_places = 896

-- the mark of the slice with handle h at place t
unfoldable pub mark_of : ℕ → ℕ → ℕ
mark_of t h = 2048 * t + (h + 1)

unfoldable pub handle_of : ℕ → ℕ
handle_of m = m % 2048 - 1

unfoldable pub place_of : ℕ → ℕ
place_of m = m / 2048

-- of a store of cap places: m names a handle below cap and a place below cap
unfoldable pub named : ℕ → ℕ → Bool
named cap m = ltb 0 (m % 2048) && (leb (m % 2048) cap && ltb (m / 2048) cap)

-- m is live after the live marks l: it names a handle and a place, and none of them names the same handle or the same place.
-- So every list of numbers is the marks of some store, and zeros are those of the empty one.
unfoldable pub fresh : ℕ → List ℕ → ℕ → Bool
fresh cap l m = named cap m && (not (keyed handle_of l (handle_of m)) && not (keyed place_of l (place_of m)))

unfoldable pub then_live : ℕ → List ℕ → ℕ → List ℕ
then_live cap l m = cond (fresh cap l m) (l ++ (m ∷ [])) l

-- the live marks among the first p numbers
unfoldable pub lives_to : ℕ → List ℕ → ℕ → List ℕ
lives_to cap held zero = []
lives_to cap held (suc p) = then_live cap (lives_to cap held p) (get_or held p 0)

abbrev pub lives_of : ℕ → List ℕ → List ℕ
lives_of cap held = lives_to cap held cap

-- items in front, and zero up to n
unfoldable pub filled : {A : Type 0} → A → ℕ → List A → List A
filled none n items = items ++ replicate (n - length items) none
