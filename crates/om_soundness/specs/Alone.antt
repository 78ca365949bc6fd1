-- A worker that takes each step by its next instruction while no other takes one: its steps, and what a state
-- shows of the frame that it runs.
use Rattle.std.specs.Prelude.{◌≡◌, ℕ, ◌<◌, false, ◌&&◌, nat_eq, Option, List, replicate}
use Rattle.std.specs.Cmp.Lexicographic.{pointwise}
use Rattle.om_foot.specs.declared.object.Obj.{Obj}
use Rattle.om_foot.specs.declared.object.Obj.TheVariants as obj
use Rattle.om_code.specs.declared.frame.Cell.TheVariants as cell
use Rattle.om_code.specs.declared.frame.Operand.{Operand}
use Rattle.om_code.specs.declared.instruction.Place.TheVariants as place
use Rattle.om_code.specs.declared.raw.Raw.{Raw}
use Rattle.om_code.specs.Frames.{cells_in}
use Rattle.om_code.specs.Places.{slots_of}
use Rattle.om_state.specs.declared.control.Context.{Context}
use Rattle.om_state.specs.declared.control.Control.{Control}
use Rattle.om_state.specs.declared.control.Home.TheVariants.{Own}
use Rattle.om_state.specs.declared.control.Stack.{Stack}
use Rattle.om_state.specs.declared.step.Choice.TheVariants.{Next}
use Rattle.om_state.specs.declared.step.Label.{Label}
use Rattle.om_state.specs.declared.value.Val.TheVariants as value
use Rattle.om_state.specs.Rules.{replay_from}
use Rattle.om_state.specs.State.{State}
use Rattle.om_team_serial.specs.Objects.{home_at}
use Rattle.om_task.specs.Rules.{rules_of}
use Rattle.om_lower_rules.specs.Worlds.{World}

-- ---- steps

abbrev pub next_of : ℕ → Label
next_of worker = record { worker = worker; choice = Next }

-- the state behind n steps of a worker, where each can be made in its turn
abbrev pub stepped : Raw → (workers worker n : ℕ) → State → Option State
stepped program workers worker n s = replay_from (rules_of program workers) s (replicate n (next_of worker))

-- ---- the frame

-- a stack with its running frame at this place, with these operands
abbrev pub stack_at : Stack → ℕ → List Operand → Stack
stack_at stack place operands =
    record stack { top = record stack.top { frame = record stack.top.frame { next = place; operands = operands } } }

-- the cells of all its slots are in the running frame itself, as those of every function are
abbrev pub OwnsCells : Context → Type 0
OwnsCells c = (slot : ℕ) → home_at c.frame.homes slot ≡ Own

-- ---- states

-- The worker has this control, and the state holds a world: in the cells of the running frame of a context, in
-- those of globals, and in the output.
pub record Shows (program : Raw) (worker : ℕ) (c : Context) (doing : Control) (w : World) (s : State) : Type 0 where
  pub control : s (obj.Control worker) ≡ value.Control doing
  pub slots : (slot index : ℕ) → index < cells_in program (slots_of program c.frame.body) (place.Slot slot) →
      s (obj.Cell c.task c.frame.ordinal slot index) ≡ value.Cell (w.slots slot index)
  pub globals : (variable index : ℕ) → s (obj.Global variable index) ≡ value.Cell (w.globals variable index)
  pub output : s obj.Output ≡ value.Output w.output

-- what belongs neither to the worker and the frame that it runs, nor to all: not its control, its event records,
-- a cell of the frame, a global or the output
abbrev pub IsApart : ℕ → Context → Obj → Type 0
IsApart worker c (obj.Control other) = nat_eq worker other ≡ false
IsApart worker c (obj.Events other) = nat_eq worker other ≡ false
IsApart worker c (obj.Cell task frame slot index) =
    (pointwise nat_eq c.task task && nat_eq c.frame.ordinal frame) ≡ false
IsApart worker c (obj.Global variable index) = ⊥
IsApart worker c obj.Output = ⊥
IsApart worker c _ = Unit {0}

-- all that is apart is as before
abbrev pub Keeps : ℕ → Context → State → State → Type 0
Keeps worker c before s = (q : Obj) → IsApart worker c q → s q ≡ before q

-- the world of a frame that has ended: its cells are dead (C17 6.2.4p2)
abbrev pub dead : World → World
dead w = record w { slots = λ slot index. cell.Dead }
