use Rattle.std.proofs.Common.{◌≡◌, fold, drop}
use Rattle.std.specs.List.{flat_map}
use Rattle.om_scope_tree.specs.Captures.{variable_uses}
use Rattle.om_scope_tree.proofs.uses.take_variables.Given as goal

abbrev pub invariant-loop-variable : goal.invariant-loop-variable
invariant-loop-variable g l =
    fold g.S.Sighting.next l.seen (flat_map variable_uses (drop l.variable-index l.variables))
    ≡ fold g.S.Sighting.next l.fn.seen (flat_map variable_uses l.variables)
