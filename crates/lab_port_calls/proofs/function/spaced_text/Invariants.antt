use Rattle.std.proofs.Common.{◌≡◌, ◌++◌, drop}
use Rattle.std.specs.Prelude.{flat_map}
use Rattle.lab_port_calls.specs.Lists.{spaced}
use Rattle.lab_port_calls.proofs.function.spaced_text.Given as goal

abbrev pub invariant-loop-piece : goal.invariant-loop-piece
invariant-loop-piece l = l.text.items ++ flat_map spaced (drop l.piece-index l.pieces) ≡ flat_map spaced l.pieces
