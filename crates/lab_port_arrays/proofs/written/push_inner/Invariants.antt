use Rattle.std.proofs.Common.{◌≡◌, ◌++◌, drop}
use Rattle.lab_port_arrays.specs.Written.{inner_from, inner_text}
use Rattle.lab_port_arrays.proofs.written.push_inner.Given as goal

abbrev pub invariant-loop-piece : goal.invariant-loop-piece
invariant-loop-piece l = l.out.items ++ inner_from l.number l.depth l.closed (drop l.piece-index l.pieces)
    ≡ l.initial.out.items ++ inner_text l.number l.pieces
