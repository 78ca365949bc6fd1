use Rattle.std.proofs.Common.{◌≡◌, drop}
use Rattle.lab_port_prints.specs.Formats.{slot_from, slot_of}
use Rattle.lab_port_prints.proofs.format.slot_of.Given as goal

abbrev pub invariant-loop-i : goal.invariant-loop-i
invariant-loop-i l = slot_from l.is_inside l.i l.number (drop l.i l.format) ≡ slot_of l.format
