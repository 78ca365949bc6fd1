use Rattle.std.proofs.Common.{List, ◌∷◌, length}
use Rattle.om_scope_rules.specs.Scopes.{Scope}
use Rattle.om_scope_symbols.specs.Sightings.{Shows}
use Rattle.om_scope_symbols.proofs.symbols.forget_scope.Given as goal

abbrev pub invariant-loop-name : goal.invariant-loop-name
invariant-loop-name l = (outer : List Scope) → Shows l.fn.sightings (l.fn.table ∷ outer)
    → Shows l.sightings (l.table ∷ outer)

abbrev pub decreases-loop-name : goal.decreases-loop-name
decreases-loop-name l = length l.table
