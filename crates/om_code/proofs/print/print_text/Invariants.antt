use Rattle.std.proofs.Common.{◌≡◌, ◌≤◌, ◌++◌, drop, length}
use Rattle.om_code.specs.Validity.{value_count}
use Rattle.om_code.specs.Printing.{printed}
use Rattle.om_code.proofs.print.print_text.Given as goal

abbrev pub invariant-loop-piece : goal.invariant-loop-piece
invariant-loop-piece l = (l.out.items ++ printed (drop l.piece-index l.pieces) l.left ≡ printed l.pieces l.values)
    × (value_count (drop l.piece-index l.pieces) ≤ length l.left)
