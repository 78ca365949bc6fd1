-- FORK alone names controls besides its worker's own: it writes those of the team's other members, and puts a
-- control at each.
use Rattle.std.proofs.Common.{refl, ℕ, zero, suc, ◌+◌, ◌-◌, ℤ, pos, negsuc, Bool, true, false, List, [], ◌∷◌, ◌++◌}
use Rattle.std.proofs.Common.{Option, None, Some, length}
use Rattle.std.specs.Prelude.{nat_lt}
use Rattle.om_foot.specs.declared.footprint.Access.{Access}
use Rattle.om_code.specs.declared.frame.Fault.TheVariants as fault
use Rattle.om_code.specs.declared.raw.Body.{Body}
use Rattle.om_state.specs.declared.control.Context.{Context}
use Rattle.om_state.specs.declared.control.Frame.{Frame}
use Rattle.om_state.specs.declared.control.Team.{Team}
use Rattle.om_state.specs.declared.step.Update.{Update}
use Rattle.om_team_serial.specs.declared.row.Launch.{Launch}
use Rattle.om_team_serial.specs.declared.row.Row.TheVariants.{Faults, Lacks}
use Rattle.om_team_serial.specs.Begins.{first_frame}
use Rattle.om_team_serial.specs.Objects.{events, homes_in}
use Rattle.om_team.specs.Teams.{first_busy, member_cells, member_controls, workers_from}
use Rattle.om_team.specs.Rows.{forked, team_row, team_of, named_row, sized_row, fork_row}
use Rattle.om_task.specs.Shapes.{AreShaped, PutCells}
use Rattle.om_task.proofs.CellPuts.{RowPutsCells, only_cells, member_cells_put}
use Rattle.om_task.proofs.NoControls.{NameNoControl, RowShaped, AskedShaped, none_append, none_shaped, members_none}
use Rattle.om_task.proofs.NoControls.{by_control, if_asked}

-- the controls of members meet their names one by one, and what stands behind meets what is named behind
controls_shaped : (team : Team) (frame : Frame) (worker number count : ℕ) (names : List Access) (us : List Update)
    → AreShaped names us → AreShaped (workers_from worker count ++ names) (member_controls team frame number count ++ us)
controls_shaped team frame worker number zero names us h = h
controls_shaped team frame worker number (suc count) names us h = (
  tt,
  controls_shaped team frame (worker + 1) (number + 1) count names us h,
)

controls_apart : (team : Team) (frame : Frame) (worker number count : ℕ) (names : List Access) (us : List Update)
    → PutCells names us → PutCells (workers_from worker count ++ names) (member_controls team frame number count ++ us)
controls_apart team frame worker number zero names us h = h
controls_apart team frame worker number (suc count) names us h = (
  tt,
  controls_apart team frame (worker + 1) (number + 1) count names us h,
)

forked_shaped : (launch : Launch) (task : List ℕ) (team : Team) (frame : Frame) (ns : List ℤ) (names : List Access)
    (busy : Option ℕ) → NameNoControl names
    → RowShaped (workers_from 1 (team.size - 1) ++ names) (forked launch task team frame ns busy)
forked_shaped launch task team frame ns names (Some worker) h = tt
forked_shaped launch task team frame ns names None h = controls_shaped team frame 1 1 (team.size - 1) names _
    (none_shaped names _ h)

forked_cells : (launch : Launch) (task : List ℕ) (team : Team) (frame : Frame) (ns : List ℤ) (names : List Access)
    (busy : Option ℕ) → RowPutsCells (workers_from 1 (team.size - 1) ++ names) (forked launch task team frame ns busy)
forked_cells launch task team frame ns names (Some worker) = tt
forked_cells launch task team frame ns names None = controls_apart team frame 1 1 (team.size - 1) names _
    (only_cells names _ (member_cells_put ns team.size _ tt))

team_shaped : (worker : ℕ) (launch : Launch) (body : Body) (c : Context) (team : Team) (ns : List ℤ)
    → AskedShaped (team_row worker launch body c team ns)
team_shaped worker launch body c team ns = record {
  row = λ values. forked_shaped launch c.task team (first_frame launch.body (homes_in c body.slots)) ns
      (member_cells team.name body.given 0 team.size ++ events worker ∷ [])
      (first_busy 1 (team.size - 1) values)
      (none_append _ _ (members_none team.name body.given 0 team.size) (refl, tt));
  cells = λ values. forked_cells launch c.task team (first_frame launch.body (homes_in c body.slots)) ns
      (member_cells team.name body.given 0 team.size ++ events worker ∷ [])
      (first_busy 1 (team.size - 1) values);
}

named_shaped : (worker workers : ℕ) (launch : Launch) (body : Body) (c : Context) (asked : Option ℕ) (ns : List ℤ)
    → AskedShaped (named_row worker workers launch body c asked ns)
named_shaped worker workers launch body c asked ns = if_asked (nat_lt 62 (length c.task)) _ _
    (by_control (Faults fault.Name)) (team_shaped worker launch body c (team_of workers c asked) ns)

sized_shaped : (worker workers : ℕ) (launch : Launch) (body : Body) (c : Context) (size : Option ℤ) (ns : List ℤ)
    → AskedShaped (sized_row worker workers launch body c size ns)
sized_shaped worker workers launch body c None ns = by_control Lacks
sized_shaped worker workers launch body c (Some (pos zero)) ns = by_control (Faults fault.Size)
sized_shaped worker workers launch body c (Some (pos (suc k))) ns = named_shaped worker workers launch body c
    (Some (suc k)) ns
sized_shaped worker workers launch body c (Some (negsuc k)) ns = by_control (Faults fault.Size)

pub fork_shaped : (worker workers : ℕ) (launch : Launch) (body : Body) (c : Context) (sized : Bool)
    (size : Option ℤ) (ints : Option (List ℤ)) → AskedShaped (fork_row worker workers launch body c sized size ints)
fork_shaped worker workers launch body c sized size None = by_control Lacks
fork_shaped worker workers launch body c false size (Some ns) = named_shaped worker workers launch body c None ns
fork_shaped worker workers launch body c true size (Some ns) = sized_shaped worker workers launch body c size ns
