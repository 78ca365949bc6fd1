use Rattle.std.proofs.Common.{◌≡◌, ◌++◌, map}
use Rattle.om_lower_rules.specs.Scopes.{scope_in}
use Rattle.om_lower_emit.specs.Scoped.{AreInside}
use Rattle.om_lower.proofs.names.scopes_in.Given as goal

-- with what is left of the list the scopes are all
abbrev pub invariant-loop-one : goal.invariant-loop-one
invariant-loop-one l =
    (l.scopes.items ++ map (scope_in l.variables) l.one-iterator.rest.items ≡ map (scope_in l.variables) l.fn.named.items)
    × AreInside 65536 l.one-iterator.rest.items
