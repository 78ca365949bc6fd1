-- The resolution of a whole source, once its items are resolved.
use Rattle.std.proofs.Common.{◌≡◌, List, [], ◌++◌, Option, Some, sym, ap, ◌∙◌}
use Rattle.std.specs.List.{flat_map}
use Rattle.om_parser_tree.specs.Tree.{ItemTree}
use Rattle.om_scope_tree.specs.declared.resolved.GlobalVariable.{GlobalVariable}
use Rattle.om_scope_rules.specs.Perhaps.{◌>>=◌, all_along}
use Rattle.om_scope_tree.specs.ResolvedTree.{ResolvedFunctionTree, ResolvedTree}
use Rattle.om_scope_rules.specs.Scopes.{Scopes, after_item, definitions_of, file_scope}
use Rattle.om_scope_rules.specs.UnitResolution.{globals_of, item_functions, items_resolution}
use Rattle.om_scope_rules.specs.InRow.{made_and, nothing_made}

abbrev whole : List GlobalVariable → List ResolvedFunctionTree → Option ResolvedTree
whole globals functions = Some (record { globals = globals; functions = functions })

pub whole_made : (items : List ItemTree) (scopes : Scopes) (none globals : List GlobalVariable)
    (before made : List ResolvedFunctionTree)
    → scopes ≡ file_scope (definitions_of items) → none ≡ [] → before ≡ []
    → globals ≡ none ++ flat_map globals_of items → made_and before (all_along item_functions after_item scopes
    items) ≡ Some made
    → items_resolution items ≡ Some (record { globals = globals; functions = made })
whole_made items scopes none globals before made begins no_globals no_functions declared functions =
    ap (λ found. found >>= whole (flat_map globals_of items))
    (ap (λ start. all_along item_functions after_item start items) (sym begins)
    ∙ sym (nothing_made (all_along item_functions after_item scopes items))
    ∙ ap (λ own. made_and own (all_along item_functions after_item scopes items)) (sym no_functions)
    ∙ functions)
    ∙ ap (λ all. whole all made) (sym (declared ∙ ap (λ own. own ++ flat_map globals_of items) no_globals))
