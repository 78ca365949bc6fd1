use Rattle.std.proofs.Common.{◌≡◌, ◌+◌, drop}
use Rattle.lab_port_context.specs.Ahead.{line_size}
use Rattle.lab_port_context.proofs.ahead.line_size.Given as goal

abbrev pub invariant-loop-i : goal.invariant-loop-i
invariant-loop-i l = l.i + line_size (drop l.i l.rest) ≡ line_size l.rest
