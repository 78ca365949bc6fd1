use Rattle.std.proofs.Common.{◌≡◌, map, take}
use Rattle.std.specs.List.{IsDistinct}
use Rattle.om_scope_rules.specs.Scopes.{same_name}
use Rattle.om_scope_symbols.specs.Nesting.{ChangedFor, with_listing}
use Rattle.om_scope_symbols.proofs.landmark.list.Given as goal

abbrev pub invariant-loop-name : goal.invariant-loop-name
invariant-loop-name l =
    (map (λ name. name.items) l.name-items ≡ l.fn.names) × IsDistinct same_name l.name-items
    × ChangedFor (with_listing l.fn.inside l.fn.all) l.fn.listings l.listings
    (map (λ name. name.items) (take l.name-index l.name-items))
