use Rattle.std.proofs.Common.{◌≡◌, drop}
use Rattle.lab_races.specs.Races.{is_told}
use Rattle.lab_races.proofs.alike.is_told.Given as goal

-- the answer for what is left is the answer for all
abbrev pub invariant-loop-told : goal.invariant-loop-told
invariant-loop-told l = is_told (drop l.told-index l.races) l.race ≡ is_told l.races l.race
