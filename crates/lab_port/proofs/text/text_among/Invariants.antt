use Rattle.std.proofs.Common.{◌≡◌, drop}
use Rattle.lab_port.specs.Texts.{text_among}
use Rattle.lab_port.proofs.text.text_among.Given as goal

abbrev pub invariant-loop-piece : goal.invariant-loop-piece
invariant-loop-piece l = text_among (drop l.piece-index l.pieces) ≡ text_among l.pieces
