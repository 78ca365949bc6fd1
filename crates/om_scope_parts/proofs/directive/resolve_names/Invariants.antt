use Rattle.std.proofs.Common.{◌≡◌}
use Rattle.std.specs.List.{flat_map}
use Rattle.om_scope_rules.specs.DirectiveRules.{flushed_breaches, names_in}
use Rattle.om_scope_rules.specs.InRow.{made_and}
use Rattle.om_scope_rules.specs.Perhaps.{each}
use Rattle.om_scope_rules.specs.Resolution.{variable_named}
use Rattle.om_scope_parts.proofs.directive.resolve_names.Given as goal

abbrev pub invariant-loop-name : goal.invariant-loop-name
invariant-loop-name l =
    let all = names_in l.first l.rest in
    let left = l.name-iterator in
    record {
      rules : flat_map (flushed_breaches l.symbols) all ≡ flat_map (flushed_breaches l.symbols) left;
      resolved : each (variable_named l.symbols) all
          ≡ made_and l.variables.items (each (variable_named l.symbols) left);
    }
