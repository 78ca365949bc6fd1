use Rattle.std.proofs.Common.{◌≡◌, drop}
use Rattle.lab_port_lists.specs.Values.{values_from, no_values, behind_brace}
use Rattle.lab_port_lists.proofs.value.count_of.Given as goal

abbrev pub invariant-loop-piece : goal.invariant-loop-piece
invariant-loop-piece l = values_from l.values (drop l.piece-index (behind_brace l.list)) ≡ values_from no_values (behind_brace l.list)
