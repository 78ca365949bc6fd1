use Rattle.std.proofs.Common.{◌≡◌, ◌≤◌, ◌++◌, ◌-◌, drop, length}
use Rattle.lab_port_tokens.specs.Pieces.{pieces_behind, pieces_of}
use Rattle.lab_port_tokens.proofs.piece.pieces.Given as goal

abbrev pub invariant-loop-at : goal.invariant-loop-at
invariant-loop-at l = record {
  inside : l.at ≤ length l.source;
  read : l.pieces.items ++ pieces_behind l.at 0 (drop l.at l.source) ≡ pieces_of l.source;
}

abbrev pub decreases-loop-at : goal.decreases-loop-at
decreases-loop-at l = length l.source - l.at
