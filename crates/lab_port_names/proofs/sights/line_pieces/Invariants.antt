use Rattle.std.proofs.Common.{◌≡◌, drop}
use Rattle.lab_port_names.specs.Sights.{line_pieces}
use Rattle.lab_port_names.proofs.sights.line_pieces.Given as goal

abbrev pub invariant-loop-i : goal.invariant-loop-i
invariant-loop-i l = line_pieces l.i (drop l.i l.rest) ≡ line_pieces 0 l.rest
