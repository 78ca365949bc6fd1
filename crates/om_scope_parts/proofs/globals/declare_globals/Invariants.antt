use Rattle.std.proofs.Common.{◌≡◌, ◌++◌, map}
use Rattle.om_scope_rules.specs.Scopes.{after_global}
use Rattle.om_scope_rules.specs.UnitResolution.{global_of}
use Rattle.om_scope_rules.specs.UnitRules.{global_breaches}
use Rattle.om_scope_rules.specs.InRow.{Unbroken}
use Rattle.om_scope_parts.specs.Declares.{global_tree, globals_in}
use Rattle.om_scope_parts.proofs.globals.declare_globals.Given as goal

abbrev pub invariant-loop-declarator : goal.invariant-loop-declarator
invariant-loop-declarator l =
    let all = globals_in l.declaration in
    let left = map global_tree l.declarator-iterator in
    record {
      rules : Unbroken global_breaches after_global l.fn.symbols all l.symbols left;
      declared : l.globals.items ++ map global_of left ≡ l.fn.globals.items ++ map global_of all;
    }
