use Rattle.std.proofs.Common.{◌≡◌, ◌++◌, drop, map}
use Rattle.lab_port.specs.Texts.{flat_byte}
use Rattle.lab_port.proofs.list.push_flat.Given as goal

abbrev pub invariant-loop-byte : goal.invariant-loop-byte
invariant-loop-byte l = l.out.items ++ map flat_byte (drop l.byte-index l.bytes)
    ≡ l.initial.out.items ++ map flat_byte l.bytes
