use Rattle.std.proofs.Common.{◌≡◌, ◌++◌, drop}
use Rattle.lab_port_prints.specs.Printed.{parts_from, parts_of}
use Rattle.lab_port_prints.proofs.printed.push_parts.Given as goal

abbrev pub invariant-loop-piece : goal.invariant-loop-piece
invariant-loop-piece l = l.out.items ++ parts_from l.want l.wanted l.statement (drop l.piece-index l.pieces)
    ≡ l.initial.out.items ++ parts_of l.want l.wanted l.pieces
