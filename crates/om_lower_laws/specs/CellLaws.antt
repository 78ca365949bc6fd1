-- How many cells the declared variables of a source have.
use Rattle.std.specs.Prelude.{◌≡◌, ℕ, List, Some, Contains}
use Rattle.om_lexer.specs.declared.token.Token.{Token}
use Rattle.om_lexer.specs.Sources.{IsTokens}
use Rattle.om_parser_tree.specs.Spelling.{unit_spelling}
use Rattle.om_parser_tree.specs.Tree.{UnitTree}
use Rattle.om_scope_rules.specs.UnitResolution.{resolution_of}
use Rattle.om_scope_tree.specs.ResolvedTree.{ResolvedFunctionTree, ResolvedTree}
use Rattle.om_lower_rules.specs.Mentions.{extents_of}
use Rattle.om_lower_rules.specs.Slots.{Extent, cells_in}

-- In the resolution of a tree of a source's tokens, each declarator of a function gives its variable the cells that
-- the table of cells has for it. So no other declarator gives it any (C17 6.2.2p2).
abbrev pub DeclaredCells : Type 0
DeclaredCells =
    (source : List ℕ) (tokens : List Token) (unit : UnitTree) (tree : ResolvedTree) (f : ResolvedFunctionTree)
    (e : Extent) → IsTokens source tokens → unit_spelling unit ≡ tokens → resolution_of unit ≡ Some tree
    → Contains tree.functions f → Contains (extents_of f) e → cells_in (extents_of f) e.variable ≡ e.cells
