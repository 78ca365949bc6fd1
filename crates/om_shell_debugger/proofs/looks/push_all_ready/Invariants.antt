use Rattle.std.proofs.Common.{◌≡◌, ◌++◌, drop}
use Rattle.om_shell_commands.specs.Lists.{joined}
use Rattle.om_undo.specs.Machines.{state_in}
use Rattle.om_shell_debugger.specs.Looks.{ready_line}
use Rattle.om_shell_debugger.proofs.looks.push_all_ready.Given as goal

-- the lines so far and those of what is left are all
abbrev pub invariant-loop-name : goal.invariant-loop-name
invariant-loop-name l =
    l.text.items ++ joined (ready_line (state_in l.machine)) (drop l.name-index l.names) ≡ l.initial.text.items
    ++ joined (ready_line (state_in l.machine)) l.names
