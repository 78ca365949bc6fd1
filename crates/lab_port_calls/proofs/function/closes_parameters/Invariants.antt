use Rattle.std.proofs.Common.{◌≡◌, drop}
use Rattle.lab_port_calls.specs.Functions.{closes_parameters}
use Rattle.lab_port_calls.proofs.function.closes_parameters.Given as goal

abbrev pub invariant-loop-piece : goal.invariant-loop-piece
invariant-loop-piece l = closes_parameters (drop l.piece-index l.rest) ≡ closes_parameters l.rest
