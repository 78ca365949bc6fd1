use Rattle.std.proofs.Common.{◌≡◌, ◌++◌, drop}
use Rattle.om_shell_commands.specs.Lists.{entry_line, joined}
use Rattle.om_shell_debugger.proofs.looks.push_all.Given as goal

-- the lines so far and those of what is left are all
abbrev pub invariant-loop-entry : goal.invariant-loop-entry
invariant-loop-entry l = l.text.items ++ joined entry_line (drop l.entry-index l.entries)
    ≡ l.initial.text.items ++ joined entry_line l.entries
