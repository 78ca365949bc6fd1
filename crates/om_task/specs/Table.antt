-- The whole table: each instruction with its row, those of tasks among them.
use Rattle.om_code.specs.declared.instruction.Instr.{Instr}
use Rattle.om_code.specs.declared.instruction.Instr.TheVariants as i
use Rattle.om_code.specs.declared.instruction.Task.{Task}
use Rattle.om_code.specs.declared.instruction.Task.TheVariants as taskings
use Rattle.om_team_serial.specs.Rows.{Asked}
use Rattle.om_team_serial.specs.Sites.{Site, context, next, slots, line, launch, body_of}
use Rattle.om_team_serial.specs.Table.{function_rows, serial_rows}
use Rattle.om_team_worksharing.specs.Table.{sharing_rows, region_rows}
use Rattle.om_team.specs.Table.{team_rows}
use Rattle.om_task.specs.Rows.{spawn_row, task_end_row, wait_begin_row, wait_end_row, task_yield_row, group_begin_row}
use Rattle.om_task.specs.Rows.{group_end_row}

-- tasks and task groups
abbrev pub task_rows : Site → Task → Asked
task_rows s (taskings.Spawn body values) = spawn_row (record {
  worker = s.worker;
  line = line s;
  launch = launch s values
      body;
}) (body_of s.program body) (context s)
task_rows s taskings.TaskEnd = task_end_row s.worker s.stack (slots s)
task_rows s taskings.WaitBegin = wait_begin_row s.worker (next s) (context s)
task_rows s taskings.WaitEnd = wait_end_row s.worker (next s) (context s)
task_rows s taskings.Yield = task_yield_row (next s)
task_rows s taskings.GroupBegin = group_begin_row s.worker (next s) (context s)
task_rows s taskings.GroupEnd = group_end_row s.worker (next s) (context s)

-- the row of an instruction
abbrev pub row_of : Site → Instr → Asked
row_of s (i.Serial x) = serial_rows s x
row_of s (i.Function x) = function_rows s x
row_of s (i.Team x) = team_rows s x
row_of s (i.Sharing x) = sharing_rows s x
row_of s (i.Region x) = region_rows s x
row_of s (i.Task x) = task_rows s x
