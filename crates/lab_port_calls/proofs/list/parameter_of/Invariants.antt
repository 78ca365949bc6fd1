use Rattle.std.proofs.Common.{◌≡◌, drop}
use Rattle.lab_port_calls.specs.Lists.{parameter_from, parameter_of}
use Rattle.lab_port_calls.proofs.list.parameter_of.Given as goal

abbrev pub invariant-loop-piece : goal.invariant-loop-piece
invariant-loop-piece l = parameter_from l.number l.name (drop l.piece-index l.list) ≡ parameter_of l.name l.list
