-- The tables of all instructions but those of tasks: each with its row.
use Rattle.std.specs.Prelude.{ℕ, ◌+◌, Bool, true, false, Option, None, Some}
use Rattle.om_code.specs.declared.instruction.Instr.{Instr}
use Rattle.om_code.specs.declared.instruction.Instr.TheVariants as i
use Rattle.om_code.specs.declared.instruction.Team.{Team}
use Rattle.om_code.specs.declared.instruction.Team.TheVariants as teams
use Rattle.om_code.specs.Frames.{int_at}
use Rattle.om_code.specs.Printing.{ints_on}
use Rattle.om_team_serial.specs.Rows.{Asked}
use Rattle.om_team_serial.specs.SerialRows.{number_row}
use Rattle.om_team_serial.specs.Sites.{Site, context, operands, next, slots, launch, body_of}
use Rattle.om_team_serial.specs.Table.{function_rows, serial_rows}
use Rattle.om_team_worksharing.specs.Rows.{arrive_row, depart_row, leave_row}
use Rattle.om_team_worksharing.specs.Table.{sharing_rows, region_rows}
use Rattle.om_team.specs.Rows.{fork_row, begin_row}

abbrev pub fork_takes : Bool → ℕ → ℕ
fork_takes true values = values + 1
fork_takes false values = values

-- parallel regions, their barriers, and what members know of their team
abbrev pub team_rows : Site → Team → Asked
team_rows s teams.ThreadNumber = number_row (context s) (context s).team.number
team_rows s teams.TeamSize = number_row (context s) (context s).team.size
team_rows s (teams.Fork body sized values) = fork_row s.worker s.workers (launch s (fork_takes sized values) body)
    (body_of s.program body) (context s) sized (int_at values (operands s)) (ints_on values (operands s))
team_rows s teams.Begin = begin_row s.worker (next s) (context s)
team_rows s (teams.Arrive barrier) = arrive_row s.worker (next s) barrier (context s)
team_rows s (teams.Depart barrier) = depart_row s.worker (next s) barrier (context s)
team_rows s teams.Leave = leave_row s.worker (context s) s.stack.below (slots s) (context s).kind (context s).team.number

-- the row of an instruction; there is none here for those of tasks
abbrev pub row_of : Site → Instr → Option Asked
row_of s (i.Serial x) = Some (serial_rows s x)
row_of s (i.Function x) = Some (function_rows s x)
row_of s (i.Team x) = Some (team_rows s x)
row_of s (i.Sharing x) = Some (sharing_rows s x)
row_of s (i.Region x) = Some (region_rows s x)
row_of s (i.Task x) = None
