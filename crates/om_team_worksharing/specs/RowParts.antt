-- For proofs: the parts of rows that functions give.
use Rattle.std.specs.Prelude.{ℕ, ◌+◌, ℤ, Bool, Option, None, List, [], ◌∷◌, ◌++◌, map}
use Rattle.std.specs.declared.boxed.Box.{Box}
use Rattle.std.specs.declared.alloc.Global.{Global}
use Rattle.om_foot.specs.declared.footprint.Access.{Access}
use Rattle.om_foot.specs.declared.object.Obj.TheVariants as obj
use Rattle.om_code.specs.declared.frame.Cell.TheVariants as cell
use Rattle.om_code.specs.declared.instruction.Barrier as barriers
use Rattle.om_events.specs.declared.event.Record.{Record}
use Rattle.om_events.specs.declared.event.Record.TheVariants as event_record
use Rattle.om_events.specs.declared.kind.Endpoint as endpoints
use Rattle.om_events.specs.declared.kind.Endpoint.TheVariants as endpoint
use Rattle.om_events.specs.declared.kind.Work.{Work}
use Rattle.om_state.specs.declared.control.Construct.TheVariants as construct
use Rattle.om_state.specs.declared.control.Context.{Context}
use Rattle.om_state.specs.declared.control.Share.{Share}
use Rattle.om_state.specs.declared.control.Stack.{Stack}
use Rattle.om_state.specs.declared.control.Team.{Team}
use Rattle.om_state.specs.declared.control.Edit.TheVariants.{Replace}
use Rattle.om_state.specs.declared.step.Tail.TheVariants.{Events}
use Rattle.om_state.specs.declared.step.Update.{Update}
use Rattle.om_state.specs.declared.step.Update.TheVariants.{Put, Append}
use Rattle.om_state.specs.declared.value.Val.TheVariants as value
use Rattle.om_memory.specs.declared.control.Context as live
use Rattle.om_memory.specs.Plain.{plain_held}
use Rattle.om_team_serial.specs.declared.row.Row.{Row}
use Rattle.om_team_serial.specs.declared.row.Row.TheVariants.{Goes}
use Rattle.om_team_serial.specs.Objects.{write, events, event, deaths}
use Rattle.om_team_serial.specs.Rows.{Asked, goes}
use Rattle.om_team_worksharing.specs.declared.parts.Branch.{Branch}
use Rattle.om_team_worksharing.specs.Barriers.{barrier}
use Rattle.om_team_worksharing.specs.Rows.{edits, sync_of, team_at_end, kept, left_records, left_row, filtered_row, static_row}
use Rattle.om_team_worksharing.specs.Rows.{iteration_row, chosen_row}

-- the contexts below another one, which are held in boxes
abbrev pub held : List (Box live.Context Global) → List Context
held contexts = map plain_held contexts

-- what a member that reaches a barrier names
abbrev pub reached_names : ℕ → Team → List Access
reached_names worker team = write (obj.Arrived team.name team.number) ∷ events worker ∷ []

-- what comes of that: it has reached its next phase
abbrev pub reached_turn : ℕ → barriers.Barrier → Context → Row
reached_turn to b c = goes to 0 None (Put (value.Number (c.phase + 1))
    ∷ event (event_record.SyncRegion (sync_of b) endpoint.Begin c.team.name c.task) ∷ [])

-- what a member at a barrier names, with these cells of its own
abbrev pub barrier_names : ℕ → Context → List Access → List Access
barrier_names worker c own = barrier c.team c.phase ++ (own ++ events worker ∷ [])

-- what is put where a member goes on from a barrier
abbrev pub departed_updates : barriers.Barrier → Context → List Update
departed_updates b c = kept c.team.size
    ++ event (event_record.SyncRegion (sync_of b) endpoint.End (team_at_end b c.team.name) c.task) ∷ []

-- what is put where a member's task ends above these contexts, with its own cells
abbrev pub left_updates : Context → List Context → List Access → List Update
left_updates c below own = kept c.team.size ++ (deaths own ++ Append (Events (left_records c below)) ∷ [])

-- the end of a member's task on a stack
abbrev pub left_on : ℕ → Stack → List Access → Asked
left_on worker stack own = left_row worker stack.top stack.below own

-- an iteration of a share begins, with this value
abbrev pub iterated : ℕ → Share → ℤ → Row
iterated to share n = Goes (edits to 0 (Replace (construct.Share (record share { next = share.next + 1 }))))
    (Put (value.Cell (cell.Int n)) ∷ [])

-- what a context's task records where a worksharing region begins or ends
abbrev pub work_record : Work → endpoints.Endpoint → Context → ℕ → Record
work_record work e c n = event_record.Work work e c.team.name c.task n

-- rows that go on at one of two places

abbrev pub filtered_by : ℕ → Branch → Context → Bool → Asked
filtered_by worker branch c runs = filtered_row worker branch.to branch.otherwise c runs

abbrev pub static_by : Branch → Context → Share → Option ℕ → Asked
static_by branch c share size = static_row branch.to branch.otherwise c share size

abbrev pub iteration_by : Branch → Context → ℕ → Share → Asked
iteration_by branch c slot share = iteration_row branch.to branch.otherwise c slot share

abbrev pub chosen_by : Branch → Context → Bool → Row
chosen_by branch c is_first = chosen_row branch.to branch.otherwise c is_first
