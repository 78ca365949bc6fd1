use Rattle.std.proofs.Common.{◌≡◌, drop}
use Rattle.lab_port_context.specs.Ahead.{closes}
use Rattle.lab_port_context.proofs.ahead.call_size.Given as goal

abbrev pub invariant-loop-i : goal.invariant-loop-i
invariant-loop-i l = closes l.call l.i l.depth (drop l.i l.rest) ≡ closes l.call 0 0 l.rest
