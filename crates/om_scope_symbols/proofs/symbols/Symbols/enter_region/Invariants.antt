use Rattle.std.proofs.Common.{◌≡◌, take}
use Rattle.std.specs.List.{IsDistinct}
use Rattle.std.specs.Map.{keys_of}
use Rattle.om_scope_rules.specs.Scopes.{same_name, scope_of, within}
use Rattle.om_scope_symbols.proofs.symbols.Symbols.enter_region.Given as goal

abbrev pub invariant-loop-binding : goal.invariant-loop-binding
invariant-loop-binding l =
    (scope_of l.binding-items ≡ l.fn.copies) × IsDistinct same_name (keys_of l.binding-items)
    × (l.self ≡ within (scope_of (take l.binding-index l.binding-items)) l.fn.region l.fn.self)
