use Rattle.std.proofs.Common.{◌≡◌, drop}
use Rattle.om_shell_debugger.specs.Stops.{has_line}
use Rattle.om_shell_debugger.proofs.marks.has_line.Given as goal

abbrev pub invariant-loop-other : goal.invariant-loop-other
invariant-loop-other l = has_line (drop l.other-index l.lines) l.line ≡ has_line l.initial.lines l.line
