use Rattle.std.proofs.Common.{◌≡◌, drop}
use Rattle.lab_port_prints.specs.Formats.{has_number_from, has_number}
use Rattle.lab_port_prints.proofs.format.has_number.Given as goal

abbrev pub invariant-loop-byte : goal.invariant-loop-byte
invariant-loop-byte l = has_number_from l.escaped (drop l.byte-index l.text) ≡ has_number l.text
