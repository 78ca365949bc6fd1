use Rattle.std.proofs.Common.{sym, subst}
use Rattle.std.specs.List.{IsDistinct}
use Rattle.std.specs.Map.{keys_of}
use Rattle.om_scope_rules.specs.NameKeys.{no_names}
use Rattle.om_scope_rules.specs.Scopes.{same_name}
use Rattle.om_scope_symbols.proofs.table.Table.new.Goals as goal

pub invariant_of-result : goal.invariant_of-result
invariant_of-result c = subst (λ bindings. IsDistinct same_name (keys_of bindings)) (sym c.new.ensures.items) no_names
