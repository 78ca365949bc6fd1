use Rattle.std.proofs.Common.{◌≡◌, drop}
use Rattle.lab_port_arrays.specs.Brackets.{bracket_end, bracket_size}
use Rattle.lab_port_arrays.proofs.bracket.bracket_size.Given as goal

abbrev pub invariant-loop-i : goal.invariant-loop-i
invariant-loop-i l = bracket_end l.i l.depth (drop l.i l.rest) ≡ bracket_size l.rest
