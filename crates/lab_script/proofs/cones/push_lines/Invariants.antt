use Rattle.std.proofs.Common.{◌≡◌, ◌++◌, drop}
use Rattle.om_shell_commands.specs.Lists.{joined}
use Rattle.lab_script.specs.Cones.{cone_line}
use Rattle.lab_script.proofs.cones.push_lines.Given as goal

-- the lines so far and those of what is left are all
abbrev pub invariant-loop-step : goal.invariant-loop-step
invariant-loop-step l = l.text.items ++ joined cone_line (drop l.step-index l.steps) ≡ l.initial.text.items
    ++ joined cone_line l.steps
