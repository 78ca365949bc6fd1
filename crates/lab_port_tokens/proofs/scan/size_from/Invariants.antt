use Rattle.std.proofs.Common.{◌≡◌, ◌+◌, drop}
use Rattle.lab_port_tokens.specs.Scans.{size_from}
use Rattle.lab_port_tokens.proofs.scan.size_from.Given as goal

abbrev pub invariant-loop-i : goal.invariant-loop-i
invariant-loop-i l = l.i + size_from l.scan (drop l.i l.bytes) ≡ size_from l.initial.scan l.bytes
