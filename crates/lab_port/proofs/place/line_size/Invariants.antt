use Rattle.std.proofs.Common.{◌≡◌, ◌++◌, take, drop}
use Rattle.lab_port.specs.Places.{line_rest}
use Rattle.lab_port.proofs.place.line_size.Given as goal

abbrev pub invariant-loop-i : goal.invariant-loop-i
invariant-loop-i l = take l.i l.bytes ++ line_rest (drop l.i l.bytes) ≡ line_rest l.bytes
