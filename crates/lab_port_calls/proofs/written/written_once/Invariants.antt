use Rattle.std.proofs.Common.{◌≡◌, ◌++◌, drop}
use Rattle.lab_port_calls.specs.Written.{once_from}
use Rattle.lab_port_calls.proofs.written.written_once.Given as goal

abbrev pub invariant-loop-i : goal.invariant-loop-i
invariant-loop-i l = l.out.items ++ once_from l.names l.taken (drop l.i l.pieces) ≡ once_from l.names 0 l.pieces
