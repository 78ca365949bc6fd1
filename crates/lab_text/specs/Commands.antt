-- Steps as commands.
use Rattle.std.specs.Prelude.{ℕ, List, ◌++◌, codes, decimal}
use Rattle.om_foot.specs.Names.{name_text}
use Rattle.om_state.specs.declared.step.Choice.{Choice}
use Rattle.om_state.specs.declared.step.Choice.TheVariants.{Next, Start}
use Rattle.om_state.specs.declared.step.Entry.{Entry}
use Rattle.om_shell_commands.specs.Lists.{joined}

-- the command that makes a worker's step by a choice
abbrev pub command_text : ℕ → Choice → List ℕ
command_text worker Next = codes "step " ++ decimal worker ++ codes "\n"
command_text worker (Start task) = codes "start " ++ decimal worker ++ codes " " ++ name_text task ++ codes "\n"

abbrev pub command_line : Entry → List ℕ
command_line e = command_text e.worker e.choice

-- the commands that make the steps of entries, in their order
abbrev pub script_text : List Entry → List ℕ
script_text entries = joined command_line entries
