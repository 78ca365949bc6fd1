-- The tables of what members of a team share, and of masked and critical regions: each instruction with its row.
use Rattle.om_code.specs.declared.instruction.Sharing.{Sharing}
use Rattle.om_code.specs.declared.instruction.Sharing.TheVariants as sharings
use Rattle.om_code.specs.declared.instruction.Region.{Region}
use Rattle.om_code.specs.declared.instruction.Region.TheVariants as regionals
use Rattle.om_code.specs.Frames.{int_at}
use Rattle.om_team_serial.specs.Rows.{Asked}
use Rattle.om_team_serial.specs.Objects.{innermost}
use Rattle.om_team_serial.specs.SerialRows.{reduce_row}
use Rattle.om_team_serial.specs.Sites.{Site, context, operands, next, lock_of, targets_of}
use Rattle.om_team_worksharing.specs.Rows.{share_in, loop_row, sections_row, grab_row, iterate_row, pick_row, single_row}
use Rattle.om_team_worksharing.specs.Rows.{end_worksharing_row, masked_row, end_masked_row, ask_critical_row, enter_critical_row}
use Rattle.om_team_worksharing.specs.Rows.{leave_critical_row}

-- worksharing regions and reductions
abbrev pub sharing_rows : Site → Sharing → Asked
sharing_rows s (sharings.Loop form) = loop_row s.worker (next s) (context s) form (int_at 1 (operands s))
    (int_at 0 (operands s))
sharing_rows s (sharings.Sections count) = sections_row s.worker (next s) (context s) count
sharing_rows s (sharings.Grab otherwise) = grab_row (next s) otherwise (context s) (share_in (context s))
sharing_rows s (sharings.Iterate slot otherwise) = iterate_row (next s) otherwise (context s) slot (share_in (context s))
sharing_rows s (sharings.Pick list) = pick_row (targets_of s.program list) (share_in (context s))
sharing_rows s (sharings.Single otherwise) = single_row s.worker (next s) otherwise (context s)
sharing_rows s sharings.EndWorksharing = end_worksharing_row s.worker (next s) (context s)
    (innermost (context s).constructs)
sharing_rows s (sharings.Reduce reduction copy place) = reduce_row (context s) reduction copy place

-- masked and critical regions
abbrev pub region_rows : Site → Region → Asked
region_rows s (regionals.Masked otherwise) = masked_row s.worker (next s) otherwise (context s) (int_at 0 (operands s))
region_rows s regionals.EndMasked = end_masked_row s.worker (next s) (context s) (innermost (context s).constructs)
region_rows s (regionals.AskCritical lock) = ask_critical_row s.worker (next s) (lock_of s.program lock)
region_rows s (regionals.EnterCritical lock) = enter_critical_row s.worker (next s) lock (lock_of s.program lock)
region_rows s (regionals.LeaveCritical lock) = leave_critical_row s.worker (next s) lock (lock_of s.program lock)
    (innermost (context s).constructs)
