-- Every source that breaks no rule sees its names.
use Rattle.std.specs.Prelude.{◌≡◌, ℕ, List, [], Some}
use Rattle.om_lexer.specs.declared.token.Token.{Token}
use Rattle.om_lexer.specs.Sources.{IsTokens}
use Rattle.om_parser_tree.specs.Formed.{IsUnit}
use Rattle.om_parser_tree.specs.Sizes.{AtomicsHaveForms}
use Rattle.om_parser_tree.specs.Spelling.{unit_spelling}
use Rattle.om_parser_tree.specs.Tree.{UnitTree}
use Rattle.om_scope_rules.specs.Breaches.{breaches_of}
use Rattle.om_scope_rules.specs.UnitResolution.{resolution_of}
use Rattle.om_scope_tree.specs.ResolvedTree.{ResolvedTree}
use Rattle.om_name_laws.specs.Sees.{SeesNames}

-- In the resolution of a well-formed source that has the forms of `atomic` and breaks no rule, each use has the
-- variable
-- that its name means there.
abbrev pub SourcesSeeNames : Type 0
SourcesSeeNames =
    (source : List ℕ) (tokens : List Token) (unit : UnitTree) (tree : ResolvedTree)
    → IsTokens source tokens → unit_spelling unit ≡ tokens → IsUnit unit → AtomicsHaveForms unit
    → breaches_of unit ≡ [] → resolution_of unit ≡ Some tree → SeesNames tree
