use Rattle.std.proofs.Common.{◌≡◌, ◌++◌, drop}
use Rattle.lab_port_names.specs.Types.{type_text}
use Rattle.lab_port_names.proofs.type_name.type_text.Given as goal

abbrev pub invariant-loop-piece : goal.invariant-loop-piece
invariant-loop-piece l = l.text.items ++ type_text (drop l.piece-index l.pieces) ≡ type_text l.pieces
