use Rattle.std.proofs.Common.{◌≡◌, ◌++◌, drop}
use Rattle.om_shell_commands.specs.Lists.{joined}
use Rattle.lab_text.specs.Commands.{command_line}
use Rattle.lab_text.proofs.commands.push_commands.Given as goal

-- the commands so far and those of what is left are all
abbrev pub invariant-loop-entry : goal.invariant-loop-entry
invariant-loop-entry l = l.text.items ++ joined command_line (drop l.entry-index l.entries) ≡ l.initial.text.items
    ++ joined command_line l.entries
