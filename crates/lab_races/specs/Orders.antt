-- What orders the steps of one history.
use Rattle.std.specs.Prelude.{◌≡◌, ◌<◌, Bool, true, false, ◌&&◌, ◌||◌, List, ◌∷◌, ◌++◌, filter, Contains}
use Rattle.om_foot.specs.declared.footprint.Access.{Access}
use Rattle.om_foot.specs.declared.footprint.Mode.TheVariants as mode
use Rattle.om_foot.specs.declared.object.Obj.{Obj}
use Rattle.om_foot.specs.declared.object.Obj.TheVariants as object
use Rattle.om_foot.specs.Cells.{cells_listed}
use Rattle.om_foot.specs.Footprint.{modes_conflict}
use Rattle.lab_races.specs.declared.made.Made.{Made}
use Rattle.lab_races.specs.declared.made.Manner.{Manner}
use Rattle.lab_races.specs.declared.made.Manner.TheVariants as manner

-- what a step touches: its worker's control first
abbrev pub accesses_of : Made → List Access
accesses_of m = record { object = object.Control m.worker; mode = mode.Write }
    ∷ (m.first.now ++ (cells_listed m.cells.now ++ m.last.now))

-- the cells of variables
abbrev pub is_data : Obj → Bool
is_data (object.Cell task frame slot index) = true
is_data (object.Global variable index) = true
is_data _ = false

-- OpenMP 5.2, 1.4: what orders steps whatever their instructions are. These are a worker's own steps and the begin of a
-- team (Control), critical regions (Lock), barriers (Arrived), the making and begin of a task (Task), and its end before
-- a wait (Kids, Pending, Group). Who is handed a chunk, a section or a single (Work) orders nothing, and nor do the
-- output and event records.
abbrev pub does_order : Obj → Bool
does_order (object.Control worker) = true
does_order (object.Task task) = true
does_order (object.Kids task) = true
does_order (object.Pending team phase) = true
does_order (object.Arrived team number) = true
does_order (object.Lock lock) = true
does_order (object.Group group) = true
does_order _ = false

abbrev pub is_atomic : Manner → Bool
is_atomic manner.Atomic = true
is_atomic _ = false

-- an access that may order its step: also of a variable, where the step is atomic there
abbrev pub orders_by : Manner → Access → Bool
orders_by manner access = does_order access.object || (is_atomic manner && is_data access.object)

abbrev pub ordering_of : Made → List Access
ordering_of m = filter (orders_by m.manner) (accesses_of m)

-- the order of two steps can't be exchanged, by what orders them
pub record AreOrdered (a b : Made) : Type 0 where
  pub one : Access
  pub other : Access
  pub first : Contains (ordering_of a) one
  pub second : Contains (ordering_of b) other
  pub same : one.object ≡ other.object
  pub conflict : modes_conflict one.mode other.mode ≡ true

-- two steps of a history, the second made after the first and ordered with it
pub record Follows (history : List Made) (a b : Made) : Type 0 where
  pub first : Contains history a
  pub second : Contains history b
  pub later : a.serial < b.serial
  pub ordered : AreOrdered a b

-- a step is another one or happens before it: the least order that has each pair of steps that follow each other
pub data HappensBefore (history : List Made) (a : Made) : Made → Type 0 where
  itself : (b : Made) → Contains history b → a ≡ b → HappensBefore history a b
  further : (b c : Made) → HappensBefore history a b → Follows history b c → HappensBefore history a c
