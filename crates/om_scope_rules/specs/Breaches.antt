-- The breaches of a source: those at file scope and in functions, and then that of a missing `main`.
use Rattle.std.specs.Prelude.{List, ◌++◌, Bool, false, codes, not}
use Rattle.std.specs.List.{list_any}
use Rattle.std.specs.Str.{bytes_eq}
use Rattle.om_lexer.specs.declared.fault.FaultCode.TheVariants as faults
use Rattle.om_lexer.specs.declared.fault.SourceFault.{SourceFault}
use Rattle.om_parser_tree.specs.Tree.{ItemTree, Declaration, Prototype, Function, UnitTree}
use Rattle.om_scope_rules.specs.Faults.{breach_if}
use Rattle.om_scope_rules.specs.Scopes.{definitions_of, file_scope}
use Rattle.om_scope_rules.specs.UnitRules.{items_breaches}

abbrev pub is_main : ItemTree → Bool
is_main (Declaration d) = false
is_main (Prototype head semicolon) = false
is_main (Function f) = bytes_eq f.head.name.text (codes "main")

-- S15: no function is named `main`
abbrev pub main_breaches : UnitTree → List SourceFault
main_breaches unit = breach_if (not (list_any is_main unit.items)) faults.NoMain unit.end.start

-- the breaches of a rule at file scope and in functions
abbrev pub rule_breaches : UnitTree → List SourceFault
rule_breaches unit = items_breaches (file_scope (definitions_of unit.items)) unit.items

-- the breaches of a tree; what stands in a misplaced value is not asked
unfoldable pub breaches_of : UnitTree → List SourceFault
breaches_of unit = rule_breaches unit ++ main_breaches unit
