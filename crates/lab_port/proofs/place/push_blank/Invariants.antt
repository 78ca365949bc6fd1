use Rattle.std.proofs.Common.{◌≡◌, ◌++◌, drop, map}
use Rattle.lab_port.specs.Written.{blank}
use Rattle.lab_port.proofs.place.push_blank.Given as goal

abbrev pub invariant-loop-byte : goal.invariant-loop-byte
invariant-loop-byte l = l.out.items ++ map blank (drop l.byte-index l.bytes) ≡ l.initial.out.items ++ map blank l.bytes
