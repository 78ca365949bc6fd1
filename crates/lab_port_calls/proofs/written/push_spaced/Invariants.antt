use Rattle.std.proofs.Common.{◌≡◌, ◌++◌, drop}
use Rattle.std.specs.Prelude.{flat_map}
use Rattle.lab_port_calls.specs.Lists.{spaced}
use Rattle.lab_port_calls.proofs.written.push_spaced.Given as goal

abbrev pub invariant-loop-piece : goal.invariant-loop-piece
invariant-loop-piece l = l.out.items ++ flat_map spaced (drop l.piece-index l.pieces)
    ≡ l.initial.out.items ++ flat_map spaced l.pieces
