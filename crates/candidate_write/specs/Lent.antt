-- The lists that are lent to candidates.
use Rattle.std.specs.Prelude.{◌≡◌, refl}
use Rattle.std.proofs.Common.{◌∙◌}
use Rattle.candidate.specs.Ready.{Rooms, rooms}
use Rattle.candidate_write.specs.declared.put.Lent.{Lent}

-- what they hold
abbrev pub lent : Lent → Rooms
lent l = rooms l.at.now l.cand.now l.probe.now

-- they are the same lists, whatever they hold: so who lent them has them back as they were left
pub record Same (l l' : Lent) : Type 0 where
  pub at : l'.at.ghost_name ≡ l.at.ghost_name
  pub cand : l'.cand.ghost_name ≡ l.cand.ghost_name
  pub probe : l'.probe.ghost_name ≡ l.probe.ghost_name

pub same_self : (l : Lent) → Same l l
same_self l = record { at = refl; cand = refl; probe = refl }

pub same_on : (k l m : Lent) → Same k l → Same l m → Same k m
same_on k l m s t = record { at = t.at ∙ s.at; cand = t.cand ∙ s.cand; probe = t.probe ∙ s.probe }

pub ruleset sames = (same_self, same_on)
