-- The items of a source, and what is promised of the functions that resolve them.
use Rattle.std.specs.Prelude.{List, Result, Vec, map}
use Rattle.std.specs.List.{flat_map}
use Rattle.std.specs.declared.alloc.Global.{Global}
use Rattle.om_lexer.specs.declared.fault.SourceFault.{SourceFault}
use Rattle.om_parser_tree.specs.declared.tree.Item.{Item}
use Rattle.om_parser_tree.specs.Tree.{ItemTree}
use Rattle.om_parser_tree.specs.View.{view_item}
use Rattle.om_scope_tree.specs.declared.resolved.GlobalVariable.{GlobalVariable}
use Rattle.om_scope_tree.specs.declared.resolved.Resolved as wholes
use Rattle.om_scope_tree.specs.declared.resolved.ResolvedFunction.{ResolvedFunction}
use Rattle.om_scope_tree.specs.ResolvedView as view
use Rattle.om_scope_rules.specs.Perhaps.{all_along}
use Rattle.om_scope_rules.specs.Resolves.{Adds, Appends, Resolves}
use Rattle.om_scope_rules.specs.Scopes.{Scopes, after_item, definitions_of, file_scope}
use Rattle.om_scope_rules.specs.UnitResolution.{globals_of, item_functions, items_resolution}
use Rattle.om_scope_rules.specs.UnitRules.{items_breaches}

-- the function that an item defines, if it defines one, stands behind those before it, unless something is refused
abbrev pub AddsFunctionOf : {T : Type 0} → Result T SourceFault → Scopes → Vec ResolvedFunction Global
    → Vec ResolvedFunction Global → Item → Type 0
AddsFunctionOf result scopes old new item = Adds view.function result old new (item_functions scopes (view_item item))

-- the globals that items declare stand behind those before them, unless something is refused
abbrev pub AppendsGlobalsOf : {T : Type 0} → Result T SourceFault → Vec GlobalVariable Global
    → Vec GlobalVariable Global → List Item → Type 0
AppendsGlobalsOf result old new items = Appends result old new (flat_map globals_of (map view_item items))

-- and so do the functions that they define
abbrev pub AddsFunctions : {T : Type 0} → Result T SourceFault → Scopes → Vec ResolvedFunction Global
    → Vec ResolvedFunction Global → List Item → Type 0
AddsFunctions result scopes old new items = Adds view.function result old new
    (all_along item_functions after_item scopes (map view_item items))

-- the items of a source are refused in its file scope, or resolved
abbrev pub ResolvesSource : Result wholes.Resolved SourceFault → List ItemTree → Type 0
ResolvesSource result items = Resolves view.resolved result
    (items_breaches (file_scope (definitions_of items)) items) (items_resolution items)
