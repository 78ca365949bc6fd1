-- The cell of a global variable that a command names.
use Rattle.std.specs.Prelude.{ℕ, nat_lt, if◌then◌else◌, Option, None, Some, option_and_then, option_map}
use Rattle.om_code.specs.declared.raw.Raw.{Raw}
use Rattle.om_shell_commands.specs.declared.command.Variable.{Variable}
use Rattle.om_code_places.specs.Visible.{global_named}
use Rattle.om_shell_commands.specs.declared.value.GlobalCell.{GlobalCell}
use Rattle.om_shell_commands.specs.Objects.{length_of}

-- the element of a variable by its index: an array has one below its length, a scalar none
abbrev pub element_at : Option ℕ → Option ℕ → Option ℕ
element_at None None = Some 0
element_at (Some length) (Some index) = if nat_lt index length then Some index else None
element_at _ _ = None

abbrev pub cell_at : ℕ → Option ℕ → Option ℕ → Option GlobalCell
cell_at variable length index = option_map (λ element. record { variable = variable; index = element })
    (element_at length index)

-- the cell that a variable names, where there is one
abbrev pub cell_of : Raw → Variable → Option GlobalCell
cell_of program variable = option_and_then (λ number. cell_at number (length_of program number) variable.index)
    (global_named program variable.name)
