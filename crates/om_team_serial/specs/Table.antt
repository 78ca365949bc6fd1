-- The table of calls, returns and the end of the program: each with its row.
use Rattle.std.specs.Prelude.{Some, option_map}
use Rattle.om_code.specs.declared.frame.Operand.TheVariants.{Int, NoValue}
use Rattle.om_code.specs.declared.instruction.Function.{Function}
use Rattle.om_code.specs.declared.instruction.Function.TheVariants as calls
use Rattle.om_code.specs.declared.instruction.Serial.{Serial}
use Rattle.om_code.specs.Frames.{int_at}
use Rattle.om_code.specs.Printing.{ints_on}
use Rattle.om_team_serial.specs.Rows.{Asked}
use Rattle.om_team_serial.specs.SerialRows.{serial_row, call_row, return_row}
use Rattle.om_team_serial.specs.Ends.{finish_row}
use Rattle.om_team_serial.specs.Sites.{Site, context, operands, slots, launch, body_of}

abbrev pub function_rows : Site → Function → Asked
function_rows s (calls.Call body values) = call_row (launch s values body) (body_of s.program body) (context s)
    (ints_on values (operands s))
function_rows s calls.Return = return_row (context s) (slots s) (context s).callers (option_map Int (int_at 0 (operands s)))
function_rows s calls.ReturnNothing = return_row (context s) (slots s) (context s).callers (Some NoValue)
function_rows s (calls.Finish has_value) = finish_row s.worker (context s) has_value

-- serial instructions, which go on in their frame: `act` is their table
abbrev pub serial_rows : Site → Serial → Asked
serial_rows s instr = serial_row s.program (context s) instr
