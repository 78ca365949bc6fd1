-- Values: the defaults, one reader a kind, numbers of blocked steps, sums of counts, and what is appended.
use Rattle.std.specs.Prelude.{ℕ, Bool, true, false, ℤ, pos, ◌+ℤ◌, FitsSigned, Option, Some, None, List, [], ◌++◌}
use Rattle.std.specs.Prelude.{length, take}
use Rattle.std.specs.Int.{w128}
use Rattle.om_code.specs.declared.frame.Cell as cells
use Rattle.om_code.specs.declared.frame.Cell.TheVariants as cell
use Rattle.om_events.specs.declared.event.Record.{Record}
use Rattle.om_foot.specs.declared.object.Obj.{Obj}
use Rattle.om_foot.specs.declared.object.Obj.TheVariants as obj
use Rattle.om_state.specs.declared.control.Control as controls
use Rattle.om_state.specs.declared.control.Control.TheVariants as control
use Rattle.om_state.specs.declared.step.Blocked.{Blocked}
use Rattle.om_state.specs.declared.step.Blocked.TheVariants as blocked
use Rattle.om_state.specs.declared.step.Tail.{Tail}
use Rattle.om_state.specs.declared.step.Tail.TheVariants as tail
use Rattle.om_state.specs.declared.value.Task as tasks
use Rattle.om_state.specs.declared.value.Task.TheVariants as task
use Rattle.om_state.specs.declared.value.Val.{Val}
use Rattle.om_state.specs.declared.value.Val.TheVariants.{Control, Cell, Task, Count, Number, Lock, Output, Events}

-- what an object holds where nothing was ever put
abbrev pub default_of : Obj → Val
default_of (obj.Control w) = Control control.Idle
default_of (obj.Cell t f s i) = Cell cell.Unset
default_of (obj.Global g i) = Cell (cell.Int (pos 0))
default_of (obj.Task t) = Task task.Absent
default_of (obj.Kids t) = Count (pos 0)
default_of (obj.Pending t p) = Count (pos 0)
default_of (obj.Arrived t n) = Number 0
default_of (obj.Work t r) = Number 0
default_of (obj.Lock l) = Lock None
default_of (obj.Group g) = Count (pos 0)
default_of obj.Output = Output []
default_of (obj.Events w) = Events []

-- the number of a reason why a step is blocked: 5 for B5
abbrev pub blocked_number : Blocked → ℕ
blocked_number blocked.Barrier = 1
blocked_number (blocked.Critical worker) = 2
blocked_number blocked.Children = 3
blocked_number (blocked.Busy worker) = 4
blocked_number blocked.Idle = 5
blocked_number blocked.Task = 6
blocked_number blocked.Place = 7
blocked_number blocked.Group = 8

-- the control that a value is, or an idle one
abbrev pub control_in : Val → controls.Control
control_in (Control c) = c
control_in _ = control.Idle

abbrev pub is_idle : controls.Control → Bool
is_idle control.Idle = true
is_idle _ = false

-- the cell that a value is, or one that is unset
abbrev pub cell_in : Val → cells.Cell
cell_in (Cell c) = c
cell_in _ = cell.Unset

-- the task that a value is, or one that was never made
abbrev pub task_in : Val → tasks.Task
task_in (Task t) = t
task_in _ = task.Absent

-- the number that a value is, or 0
abbrev pub number_in : Val → ℕ
number_in (Number n) = n
number_in _ = 0

-- the worker that holds the lock that a value is, if one does
abbrev pub holder_in : Val → Option ℕ
holder_in (Lock holder) = holder
holder_in _ = None

-- the count that a value is, if it is one
abbrev pub count_of : Val → Option ℤ
count_of (Count n) = Some n
count_of _ = None

-- the count that a value is, or 0
abbrev pub count_in : Val → ℤ
count_in (Count n) = n
count_in _ = pos 0

-- the bytes that a value is, or none
abbrev pub bytes_in : Val → List ℕ
bytes_in (Output bytes) = bytes
bytes_in _ = []

-- the event records that a value is, or none
abbrev pub records_in : Val → List Record
records_in (Events records) = records
records_in _ = []

-- a value after a number is added to it: only a count changes
abbrev pub value_plus : ℤ → Val → Val
value_plus d (Count n) = Count (n +ℤ d)
value_plus d v = v

-- a count's sum with a number has 128 bits
abbrev pub SumFits : Val → ℤ → Type 0
SumFits (Count n) d = FitsSigned w128 (n +ℤ d)
SumFits _ d = Unit {0}

-- a value with more behind it: only output takes bytes, and only events take records
abbrev pub value_with : Tail → Val → Val
value_with (tail.Bytes bytes) (Output before) = Output (before ++ bytes)
value_with (tail.Events records) (Events before) = Events (before ++ records)
value_with t v = v

-- how many items a value has that only grows
abbrev pub items_of : Val → ℕ
items_of (Output bytes) = length bytes
items_of (Events records) = length records
items_of v = 0

-- a value with so many of its items
abbrev pub value_cut : ℕ → Val → Val
value_cut n (Output bytes) = Output (take n bytes)
value_cut n (Events records) = Events (take n records)
value_cut n v = v
