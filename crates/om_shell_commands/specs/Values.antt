-- The texts of values.
use Rattle.std.specs.Prelude.{List, [], ℕ, ◌++◌, codes, decimal, Option, None, Some}
use Rattle.std.specs.Fmt.{signed_decimal}
use Rattle.om_code.specs.declared.raw.Raw.{Raw}
use Rattle.om_code.specs.declared.frame.Cell.{Cell}
use Rattle.om_code.specs.declared.frame.Cell.TheVariants as cell
use Rattle.om_state.specs.declared.value.Val.{Val}
use Rattle.om_state.specs.Values.{cell_in}
use Rattle.om_shell_commands.specs.declared.command.Variable.{Variable}
use Rattle.om_shell_commands.specs.declared.value.GlobalCell.{GlobalCell}
use Rattle.om_shell_commands.specs.Objects.{variable_text}

abbrev pub cell_text : Cell → List ℕ
cell_text (cell.Int n) = signed_decimal n
cell_text cell.Unset = codes "unset"
cell_text cell.Dead = codes "dead"

-- `x = 3`, `a[2] = 0`
abbrev pub print_text : Raw → GlobalCell → Val → List ℕ
print_text program global value = variable_text program global ++ codes " = " ++ cell_text (cell_in value) ++ codes "\n"

abbrev pub written_index : Option ℕ → List ℕ
written_index None = []
written_index (Some index) = codes "[" ++ decimal index ++ codes "]"

-- the variable that a worker sees by a name, as the command writes it: `i = 3`, `a[2] = unset`, `y = dead`
abbrev pub local_text : Variable → Val → List ℕ
local_text variable value = variable.name ++ written_index variable.index ++ codes " = "
    ++ cell_text (cell_in value) ++ codes "\n"
