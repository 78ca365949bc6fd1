use Rattle.std.proofs.Common.{◌≡◌, drop}
use Rattle.lab_port_context.specs.Ahead.{nth_text}
use Rattle.lab_port_context.proofs.ahead.nth_text.Given as goal

abbrev pub invariant-loop-piece : goal.invariant-loop-piece
invariant-loop-piece l = nth_text l.left (drop l.piece-index l.rest) ≡ nth_text l.n l.rest
