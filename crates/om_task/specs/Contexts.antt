-- For proofs: the contexts of a stack, those that begin, and what a step does to them.
use Rattle.std.specs.Prelude.{ℕ, ℤ, Bool, Option, None, List, [], ◌∷◌, map, slice_get}
use Rattle.std.specs.declared.boxed.Box.{Box}
use Rattle.std.specs.declared.alloc.Global.{Global}
use Rattle.om_foot.specs.declared.footprint.Access.{Access}
use Rattle.om_foot.specs.declared.object.Obj.TheVariants as obj
use Rattle.om_code.specs.declared.instruction.Instr.{Instr}
use Rattle.om_code.specs.declared.raw.Body.{Body}
use Rattle.om_code.specs.declared.raw.Raw.{Raw}
use Rattle.om_code.specs.Places.{instruction_at}
use Rattle.om_state.specs.declared.control.Construct.TheVariants as construct
use Rattle.om_state.specs.declared.control.Context.{Context}
use Rattle.om_state.specs.declared.control.Frame.{Frame}
use Rattle.om_state.specs.declared.control.Kind.TheVariants as kind
use Rattle.om_state.specs.declared.control.Stack.{Stack}
use Rattle.om_state.specs.declared.control.Edit.{Edit}
use Rattle.om_state.specs.declared.control.Edit.TheVariants.{Go, BeginContext, EndContext, Open, CountBirth}
use Rattle.om_state.specs.declared.step.Update.{Update}
use Rattle.om_state.specs.declared.step.Update.TheVariants.{Put}
use Rattle.om_state.specs.declared.value.Ready.{Ready}
use Rattle.om_state.specs.declared.value.Task as tasks
use Rattle.om_state.specs.declared.value.Task.TheVariants as task
use Rattle.om_state.specs.declared.value.Val.TheVariants as value
use Rattle.om_state.specs.State.{State, with_value}
use Rattle.om_state.specs.Values.{task_in}
use Rattle.om_memory.specs.declared.control.Context as live
use Rattle.om_memory.specs.declared.memory.Memory.{Memory}
use Rattle.om_memory.specs.Plain.{plain_held}
use Rattle.om_memory.specs.Memories.{state_of}
use Rattle.om_team_serial.specs.declared.row.Row.{Row}
use Rattle.om_team_serial.specs.declared.row.Row.TheVariants.{Goes}
use Rattle.om_team_serial.specs.Rows.{Asked}
use Rattle.om_team_serial.specs.Begins.{new_context}
use Rattle.om_task.specs.declared.task.Making.{Making}
use Rattle.om_task.specs.Rows.{made_row, ended_updates}
use Rattle.om_task.specs.Rules.{first_control, admits_all}
use Rattle.om_task.specs.Tasks.{born, ready_of, task_context}

-- the instruction at which a context stands
abbrev pub instruction_on : Raw → Context → Option Instr
instruction_on program c = instruction_at program c.frame.body c.frame.next

-- the context at this place of those that are held in boxes
abbrev pub held_at : List (Box live.Context Global) → ℕ → Option Context
held_at contexts depth = slice_get (map plain_held contexts) depth

-- whether a task may be started on a stack
abbrev pub admits_stack : Raw → List ℕ → Stack → Bool
admits_stack program name stack = admits_all program name (stack.top ∷ stack.below)

-- the context of the initial task, which is alone in its team and in no group
abbrev pub initial_context : Frame → Context
initial_context frame = new_context kind.Initial 0 (0 ∷ []) (record { name = []; number = 0; size = 1; level = 0 })
    None frame

-- a state in which worker 0 has the initial task
abbrev pub initial_begun : Raw → State → State
initial_begun program s = with_value (obj.Control 0) (value.Control (first_control program 0)) s

-- the edit by which a task begins on a context
abbrev pub beginning : List ℕ → Context → Ready → List Edit
beginning name on ready = BeginContext (task_context name on ready) ∷ []

-- the edits by which a task group opens
abbrev pub opening : ℕ → List ℕ → List Edit
opening to group = Go to 0 None ∷ CountBirth ∷ Open (construct.Group group) ∷ []

-- the row of the end of a task, whose own cells end with it, above a context of this next task
abbrev pub ending : Context → List Access → List ℕ → Row
ending c own next = Goes (EndContext ∷ []) (ended_updates c own next)

-- a task that is ready, as what is put
abbrev pub ready_put : Making → Body → Context → List Update
ready_put m body c = Put (value.Task (task.Ready (ready_of m body c))) ∷ []

-- what a step asks that makes a task with these values, under the next name of its context
abbrev pub born_row : Making → Body → Context → List ℤ → Asked
born_row m body c ns = made_row m body c ns (born c)

-- the task of a name
abbrev pub task_at : Memory → List ℕ → tasks.Task
task_at store name = task_in (state_of store (obj.Task name))
