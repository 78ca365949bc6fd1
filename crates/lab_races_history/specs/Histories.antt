-- The races of a machine's history.
use Rattle.std.specs.Prelude.{◌≡◌, List}
use Rattle.std.specs.List.{AllZip}
use Rattle.om_undo.specs.Machines.{MachineView}
use Rattle.lab_graph.specs.declared.traced.Traced.{Traced}
use Rattle.lab_graph.specs.Pictures.{touched}
use Rattle.lab_races.specs.declared.made.Made.{Made}
use Rattle.lab_races.specs.declared.made.Race.{Race}
use Rattle.lab_races.specs.Orders.{accesses_of}
use Rattle.lab_races.specs.Races.{AreRaces}
use Rattle.lab_replay.specs.Said.{AreSaid}
use Rattle.lab_replay.specs.Traces.{traced, transitions_of}

-- a step as it is judged: what it touched, and how its instruction accesses variables
pub record IsMadeOf (t : Traced) (m : Made) : Type 0 where
  pub serial : m.serial ≡ t.entry.serial
  pub worker : m.worker ≡ t.entry.worker
  pub line : m.line ≡ t.entry.line
  pub manner : m.manner ≡ t.manner
  pub touches : accesses_of m ≡ touched t

-- a step touched its own worker's control first
abbrev pub IsOwn : Traced → Type 0
IsOwn t = t.footprint.now.worker ≡ t.entry.worker

-- these are the races of the steps of a machine's history. Each step is an entry, with what it touches at its place in
-- the replay, and with the manner of its instruction there.
pub record AreRacesOf (m : MachineView) (races : List Race) : Type 0 where
  pub steps : List Traced
  pub touches : traced steps ≡ transitions_of m
  pub said : AreSaid m m.history.entries steps
  pub history : List Made
  pub made : AllZip IsMadeOf steps history
  pub told : AreRaces history races
