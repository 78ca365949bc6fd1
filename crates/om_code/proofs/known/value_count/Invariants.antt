use Rattle.std.proofs.Common.{◌≡◌, ◌≤◌, ◌+◌, drop}
use Rattle.om_code.specs.Validity.{value_count}
use Rattle.om_code.proofs.known.value_count.Given as goal

abbrev pub invariant-loop-piece : goal.invariant-loop-piece
invariant-loop-piece l = (l.count + value_count (drop l.piece-index l.pieces) ≡ value_count l.pieces)
    × (l.count ≤ l.piece-index)
