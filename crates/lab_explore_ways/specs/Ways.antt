-- What still holds of what was found, once a shorter way was taken to it.
use Rattle.std.specs.Prelude.{◌≡◌, ℕ, ◌^◌, ◌-◌, List, map, All, slice_index_or}
use Rattle.om_code.specs.declared.raw.Raw.{Raw}
use Rattle.om_undo.specs.Machines.{MachineView}
use Rattle.lab_explore_closed.specs.declared.found.Explored.{Explored}
use Rattle.lab_explore_closed.specs.declared.found.Limits.{Limits}
use Rattle.lab_explore_closed.specs.Explored.{IsExplored, IsPossibleEnd, IsPossibleRace, ending_of_found, pair_of_found}

-- a machine of the same program, with as many workers
pub record IsOfSame (m n : MachineView) : Type 0 where
  pub program : n.program ≡ m.program
  pub workers : n.workers ≡ m.workers

-- a thing that was found is told alike, and is there if it was
pub record IsStill {F K : Type 0} (told : F → K) (IsThere : F → Type 0) (old new : F) : Type 0 where
  pub alike : told new ≡ told old
  pub there : IsThere old → IsThere new

-- so are things that were found, each at its place
pub record AreStill {F K : Type 0} (told : F → K) (IsThere : F → Type 0) (old new : List F) : Type 0 where
  pub alike : map told new ≡ map told old
  pub there : All IsThere old → All IsThere new

-- the ends and races that were found, each by a way that leads there, and all else as it was
pub record IsByShortWays (program : Raw) (workers : ℕ) (old new : Explored) : Type 0 where
  pub ends : AreStill ending_of_found (IsPossibleEnd program workers) old.ends new.ends
  pub races : AreStill pair_of_found (IsPossibleRace program workers) old.races new.races
  pub rest : new ≡ record old { ends = new.ends; races = new.races }

-- what an exploration promises still holds
abbrev pub IsStillExplored : Raw → ℕ → Explored → Explored → Type 0
IsStillExplored program workers old new = (limits : Limits) → IsExplored program workers limits old
    → IsExplored program workers limits new

-- the count at a place; all where there is none
abbrev pub told_of : List ℕ → ℕ → ℕ
told_of counts index = slice_index_or counts index (2 ^ 64 - 1)
