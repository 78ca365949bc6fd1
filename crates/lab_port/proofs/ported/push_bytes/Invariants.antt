use Rattle.std.proofs.Common.{◌≡◌, ◌++◌, drop}
use Rattle.lab_port_tokens.specs.Pieces.{bytes_of}
use Rattle.lab_port.proofs.ported.push_bytes.Given as goal

abbrev pub invariant-loop-piece : goal.invariant-loop-piece
invariant-loop-piece l = l.out.items ++ bytes_of (drop l.piece-index l.pieces) ≡ l.initial.out.items ++ bytes_of l.pieces
