use Rattle.std.proofs.Common.{◌≡◌, ◌++◌, drop}
use Rattle.om_shell_commands.specs.Lists.{joined, taken_line}
use Rattle.om_shell_commands.proofs.list.push_members.Given as goal

-- the lines so far and those of what is left are all
abbrev pub invariant-loop-taken : goal.invariant-loop-taken
invariant-loop-taken l = l.text.items ++ joined taken_line (drop l.taken-index l.members) ≡ l.initial.text.items
    ++ joined taken_line l.members
