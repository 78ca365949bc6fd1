use Rattle.std.proofs.Common.{◌≡◌, map, take}
use Rattle.std.specs.List.{IsDistinct}
use Rattle.om_scope_rules.specs.Scopes.{same_name}
use Rattle.om_scope_symbols.specs.Nesting.{ChangedFor}
use Rattle.om_scope_symbols.specs.Stacks.{without_innermost}
use Rattle.om_scope_symbols.proofs.landmark.unlist.Given as goal

abbrev pub invariant-loop-name : goal.invariant-loop-name
invariant-loop-name l =
    (map (λ name. name.items) l.name-items ≡ l.fn.names) × IsDistinct same_name l.name-items
    × ChangedFor without_innermost l.fn.listings l.listings (map (λ name. name.items) (take l.name-index l.name-items))
