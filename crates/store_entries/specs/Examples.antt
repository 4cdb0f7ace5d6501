-- A plain list on a few calls, and marks that a host may hand in.
use Rattle.std.specs.Prelude.{ℕ, ◌≡◌, refl, [], ◌∷◌}
use Rattle.store.specs.Keys.{keyed, without, lowest_from}
use Rattle.basis.specs.Machine.{answers}
use Rattle.store.specs.Plain.{kept, put, release, list, compact, refused, given, done, listed, plain_step}
use Rattle.store.specs.Marks.{handle_of, place_of, named, fresh, then_live, lives_to}

-- a store of two: the lowest free handle, full, released, a dead handle, a handle used again, and the order put
pub few-calls : answers (plain_step {A = ℕ} 2) [] (put 7 ∷ put 8 ∷ put 9 ∷ release 0 ∷ release 0 ∷ compact ∷ put 9 ∷ list ∷ [])
    ≡ given 0 ∷ given 1 ∷ refused 20 ∷ done ∷ refused 21 ∷ done ∷ given 0 ∷ listed (kept 1 8 ∷ kept 0 9 ∷ []) ∷ []
unfolding answers plain_step keyed without lowest_from
few-calls = refl

-- of four places: 5 names no handle of theirs, a second mark of handle 1 is not live, nor is a second one of place 0
pub any-marks : lives_to 4 (5 ∷ 2 ∷ 2050 ∷ 1 ∷ []) 4 ≡ 2 ∷ []
unfolding lives_to then_live fresh named keyed handle_of place_of
any-marks = refl
