-- Steps of a worker up to a place.
use Rattle.std.specs.Prelude.{ℕ, zero, suc, ◌+◌, Bool, cond, Option, None, Some}
use Rattle.om_state.specs.declared.step.Choice.TheVariants.{Next}
use Rattle.om_book.specs.Books.{BookView, is_full, machine_of}
use Rattle.om_shell_commands.specs.declared.stop.Stop.{Stop}
use Rattle.om_shell_commands.specs.declared.stop.Stop.TheVariants as stop
use Rattle.om_shell_debugger.specs.declared.marks.Marks.{Marks}
use Rattle.om_shell_debugger.specs.Calls.{with_step}
use Rattle.om_shell_debugger.specs.Stops.{stop_after}
use Rattle.om_task.specs.Plans.{label_at}
use Rattle.om_undo.specs.Machines.{step_reply}
use Rattle.om_undo.specs.PlannedSteps.{is_made}
use Rattle.lab_macros.specs.declared.walk.Miss.TheVariants.{Blocked, Faulted, Full, Far}
use Rattle.lab_macros.specs.declared.walk.Stride.{Stride}
use Rattle.lab_macros.specs.declared.walk.Stride.TheVariants as stride
use Rattle.lab_macros.specs.declared.walk.Walk.{Walk}
use Rattle.lab_macros.specs.declared.walk.Walk.TheVariants as walk

-- what a stop says of a step: a fault is no place to come to
abbrev pub stride_by : Option Stop → Stride
stride_by None = stride.On
stride_by (Some (stop.Fault fault worker)) = stride.Missed Faulted
stride_by (Some _) = stride.There

-- a worker can make its next step where a book stands
abbrev pub can_step : ℕ → BookView → Bool
can_step worker b = is_made (step_reply (machine_of b) (label_at worker Next))

-- what comes of a worker's next step where a book stands, if it can be made and recorded
abbrev pub stride_of : Marks → ℕ → BookView → Stride
stride_of marks worker b = cond (can_step worker b)
    (cond (is_full b) (stride.Missed Full) (stride_by (stop_after marks b (label_at worker Next))))
    (stride.Missed Blocked)

-- what it leaves
abbrev pub behind_stride : ℕ → BookView → BookView
behind_stride worker b = cond (can_step worker b)
    (cond (is_full b) b (with_step b (label_at worker Next))) b

-- where the worker is on its way, the rest of the way says it
abbrev pub walk_by : Stride → ℕ → Walk → Walk
walk_by stride.On made rest = rest
walk_by stride.There made rest = walk.There (made + 1)
walk_by (stride.Missed miss) made rest = walk.Missed miss

-- so many more steps at most, behind those that were made
unfoldable pub walk_within : ℕ → ℕ → Marks → ℕ → BookView → Walk
walk_within zero made marks worker b = walk.Missed Far
walk_within (suc left) made marks worker b = walk_by (stride_of marks worker b) made
    (walk_within left (made + 1) marks worker (behind_stride worker b))

-- the least number of a worker's steps that lead to where marks stop a run, of so many at most
abbrev pub walk_of : ℕ → Marks → ℕ → BookView → Walk
walk_of most marks worker b = walk_within most 0 marks worker b
