-- Two workers whose next steps access one variable, and what tells two such pairs apart.
use Rattle.std.specs.Prelude.{◌≡◌, ◌≢◌, ℕ, ◌<◌, Bool, true, false, cond, nat_eq, nat_lt, ◌&&◌, ◌||◌, is_some}
use Rattle.std.specs.Prelude.{Option, None, Some, List, [], ◌∷◌, ◌++◌, zero, suc, length, Contains, if◌then◌else◌}
use Rattle.std.specs.Prelude.{slice_get}
use Rattle.std.specs.List.{list_any}
use Rattle.om_code.specs.declared.instruction.Instr.{Instr}
use Rattle.om_code.specs.declared.instruction.Instr.TheVariants as i
use Rattle.om_code.specs.declared.instruction.Serial.TheVariants as serials
use Rattle.om_code.specs.declared.instruction.Function.TheVariants as calls
use Rattle.om_code.specs.declared.instruction.Team.TheVariants as teams
use Rattle.om_code.specs.declared.instruction.Sharing.TheVariants as sharings
use Rattle.om_code.specs.declared.instruction.Task.TheVariants as taskings
use Rattle.om_code.specs.declared.raw.Body.{Body}
use Rattle.om_code.specs.declared.raw.Raw.{Raw}
use Rattle.om_code.specs.Places.{instruction_at}
use Rattle.om_foot.specs.declared.footprint.Access.{Access}
use Rattle.om_foot.specs.declared.footprint.Mode.{Mode}
use Rattle.om_foot.specs.declared.footprint.Mode.TheVariants as mode
use Rattle.om_foot.specs.declared.object.Obj as objects
use Rattle.om_foot.specs.declared.object.Obj.TheVariants as obj
use Rattle.om_foot.specs.Footprint.{modes_conflict}
use Rattle.om_state.specs.declared.control.Control as controls
use Rattle.om_state.specs.declared.control.Control.TheVariants.{Running}
use Rattle.om_state.specs.declared.step.Choice.{Choice}
use Rattle.om_state.specs.declared.step.Choice.TheVariants.{Next, Start}
use Rattle.om_state.specs.declared.step.Label.{Label}
use Rattle.om_state.specs.Rules.{Rules, step_at, next_state}
use Rattle.om_state.specs.State.{State}
use Rattle.om_state.specs.Values.{holder_in}
use Rattle.om_task.specs.Rules.{rules_of, line_in}
use Rattle.lab_explore_closed.specs.declared.found.AccessKind.{AccessKind}
use Rattle.lab_explore_closed.specs.declared.found.AccessKind.TheVariants.{Reads, Writes, Ends}
use Rattle.lab_explore_closed.specs.declared.found.Atomicity.{Atomicity}
use Rattle.lab_explore_closed.specs.declared.found.Atomicity.TheVariants.{Atomic, Plain, Reduction}
use Rattle.lab_explore_closed.specs.declared.found.Pair.{Pair}
use Rattle.lab_explore_closed.specs.declared.found.Place.{Place}
use Rattle.lab_explore_closed.specs.declared.found.Racer.{Racer}
use Rattle.lab_explore_closed.specs.Endings.{control_at}

-- the cells of variables
abbrev pub is_data : objects.Obj → Bool
is_data (obj.Cell task frame slot index) = true
is_data (obj.Global variable index) = true
is_data _ = false

-- a step can be made at a state, and has this access
pub record Accesses (r : Rules) (s : State) (l : Label) (a : Access) : Type 0 where
  pub possible : is_some (next_state r s l) ≡ true
  pub touches : Contains (step_at r s l).footprint a

-- the instruction that a control carries out next
abbrev pub instruction_in : Raw → controls.Control → Option Instr
instruction_in program (Running stack) = instruction_at program stack.top.frame.body stack.top.frame.next
instruction_in program _ = None

-- the instruction that a step carries out: none where it begins a task
abbrev pub instruction_of : Raw → controls.Control → Choice → Option Instr
instruction_of program control Next = instruction_in program control
instruction_of program control (Start task) = None

-- OpenMP 5.2, 15.8.4: an update of `atomic`
abbrev pub is_update : Option Instr → Bool
is_update (Some (i.Serial (serials.Atomic operator side place))) = true
is_update (Some (i.Serial (serials.AtomicElement operator side place))) = true
is_update _ = false

-- OpenMP 5.2, 5.5: an instruction that combines the copy of a reduction with the original variable
abbrev pub is_reduction : Option Instr → Bool
is_reduction (Some (i.Sharing (sharings.Reduce reduction copy place))) = true
is_reduction _ = false

-- OpenMP 5.2, 15.8.4: a place of a body that is the access of an `atomic read` or an `atomic write`
abbrev pub atomic_in : Option Body → List ℕ
atomic_in None = []
atomic_in (Some body) = body.atomic

abbrev pub is_atomic_place : Raw → (body at : ℕ) → Bool
is_atomic_place program body at = list_any (λ place. nat_eq place at) (atomic_in (slice_get program.bodies body))

-- how an instruction is atomic, at such a place or at another one
abbrev pub atomicity : Option Instr → (at_place : Bool) → Atomicity
atomicity instr at_place =
    if is_reduction instr then Reduction else (if is_update instr || at_place then Atomic else Plain)

-- how the instruction that a control carries out next is atomic
abbrev pub atomicity_in : Raw → controls.Control → Atomicity
atomicity_in program (Running stack) =
    let frame = stack.top.frame in
    atomicity (instruction_at program frame.body frame.next) (is_atomic_place program frame.body frame.next)
atomicity_in program _ = Plain

-- how a step is atomic: not, where it begins a task
abbrev pub atomicity_of : Raw → controls.Control → Choice → Atomicity
atomicity_of program control Next = atomicity_in program control
atomicity_of program control (Start task) = Plain

-- an access that combines: a reduction writes the original, and reads its copy as any other instruction does
abbrev pub is_combining : Atomicity → Mode → Bool
is_combining Reduction mode.Write = true
is_combining _ _ = false

abbrev pub is_atomic : Atomicity → Bool
is_atomic Atomic = true
is_atomic _ = false

-- accesses of one variable that are ordered by being atomic: two of `atomic`, or two of reductions that both combine
abbrev pub are_atomic_together : Atomicity → Mode → Atomicity → Mode → Bool
are_atomic_together a m b n = (is_atomic a && is_atomic b) || (is_combining a m && is_combining b n)

-- two workers stand before steps that can both be made. They access one cell or global, one of them to write it, and
-- these accesses are not atomic together (OpenMP 5.2, 1.4.1; C17 5.1.2.4p35)
pub record IsRace (program : Raw) (workers : ℕ) (s : State) (a b : Label) (x y : Access) : Type 0 where
  pub others : a.worker ≢ b.worker
  pub first : Accesses (rules_of program workers) s a x
  pub second : Accesses (rules_of program workers) s b y
  pub same : x.object ≡ y.object
  pub variable : is_data x.object ≡ true
  pub conflict : modes_conflict x.mode y.mode ≡ true
  pub plain : are_atomic_together (atomicity_of program (control_at s a.worker) a.choice) x.mode
      (atomicity_of program (control_at s b.worker) b.choice) y.mode ≡ false

-- C17 6.2.4: an instruction that ends the lives of variables, or makes one unset where it is declared
abbrev pub ends_lives : Option Instr → Bool
ends_lives (Some (i.Serial (serials.Clear slot))) = true
ends_lives (Some (i.Function calls.Return)) = true
ends_lives (Some (i.Function calls.ReturnNothing)) = true
ends_lives (Some (i.Team teams.Leave)) = true
ends_lives (Some (i.Task taskings.TaskEnd)) = true
ends_lives _ = false

-- how an instruction accesses a variable, by the mode. No row adds to a variable
abbrev pub kind_of : Option Instr → Mode → AccessKind
kind_of instr mode.Read = Reads
kind_of instr mode.Write = cond (ends_lives instr) Ends Writes
kind_of instr mode.Add = Writes

abbrev pub kind_number : AccessKind → ℕ
kind_number Reads = 0
kind_number Writes = 1
kind_number Ends = 2

-- where a worker stands before a step's access: the line of its next instruction, and the kind of the access. A step
-- that begins a task accesses no variable
abbrev pub place_at : Raw → State → Label → Access → Place
place_at program s l a = record {
  line = line_in program (control_at s l.worker);
  kind = kind_of (instruction_of program (control_at s l.worker) l.choice) a.mode;
}

-- a place is behind another one: its line is greater, or of one line its kind is
abbrev pub is_behind : Place → Place → Bool
is_behind p q = nat_lt q.line p.line || (nat_eq q.line p.line && nat_lt (kind_number q.kind) (kind_number p.kind))

-- two places, so ordered that a pair and its mirror are one
abbrev pub pair_of : Place → Place → objects.Obj → Pair
pair_of p q object = cond (is_behind p q) (record { first = q; second = p; object = object })
    (record { first = p; second = q; object = object })

-- what is told of a race: both lines, how each accesses it, and the object
abbrev pub pair_at : Raw → State → Label → Label → Access → Access → Pair
pair_at program s a b x y = pair_of (place_at program s a x) (place_at program s b y) x.object

-- whether a worker holds a lock
abbrev pub is_holder : Option ℕ → ℕ → Bool
is_holder None worker = false
is_holder (Some holder) worker = nat_eq holder worker

-- the locks among the first so many that a worker holds, ascending
abbrev pub locks_below : State → ℕ → ℕ → List ℕ
locks_below s worker zero = []
locks_below s worker (suc lock) =
    locks_below s worker lock ++ cond (is_holder (holder_in (s (obj.Lock lock))) worker) (lock ∷ []) []

-- how many locks a program has, each of which has a number of 32 bits
abbrev pub lock_count : Raw → ℕ
lock_count program = if nat_lt (length program.locks) 4294967295 then length program.locks else 4294967295

-- who stands before a step's access, and what it holds there
abbrev pub racer_at : Raw → State → Label → Racer
racer_at program s l = record { worker = l.worker; locks = locks_below s l.worker (lock_count program) }
