use Rattle.std.proofs.Common.{◌≡◌, [], drop}
use Rattle.lab_port_names.specs.Types.{last_name}
use Rattle.lab_port_names.proofs.type_name.last_name.Given as goal

abbrev pub invariant-loop-piece : goal.invariant-loop-piece
invariant-loop-piece l = last_name l.name (drop l.piece-index l.pieces) ≡ last_name [] l.pieces
