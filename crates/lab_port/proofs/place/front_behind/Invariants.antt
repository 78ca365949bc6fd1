use Rattle.std.proofs.Common.{◌≡◌, ◌≤◌, ◌+◌, drop}
use Rattle.lab_port.specs.Places.{front_behind}
use Rattle.lab_port.proofs.place.front_behind.Given as goal

abbrev pub invariant-loop-byte : goal.invariant-loop-byte
invariant-loop-byte l = record {
  size : l.size ≤ l.fn.size + l.byte-index;
  rest : front_behind l.size (drop l.byte-index l.bytes) ≡ front_behind l.fn.size l.bytes;
}
