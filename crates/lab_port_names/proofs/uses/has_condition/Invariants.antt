use Rattle.std.proofs.Common.{◌≡◌, drop}
use Rattle.lab_port_context.specs.Contexts.{at_first}
use Rattle.lab_port_names.specs.Uses.{has_condition}
use Rattle.lab_port_names.proofs.uses.has_condition.Given as goal

abbrev pub invariant-loop-piece : goal.invariant-loop-piece
invariant-loop-piece l = has_condition l.context (drop l.piece-index l.pieces) ≡ has_condition at_first l.pieces
