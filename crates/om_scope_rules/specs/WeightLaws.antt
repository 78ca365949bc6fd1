-- How many parts of a source get a number when it is lowered.
use Rattle.std.specs.Prelude.{◌≡◌, ℕ, List, Some}
use Rattle.om_lexer.specs.declared.token.Token.{Token}
use Rattle.om_lexer.specs.Sources.{IsTokens}
use Rattle.om_scope_tree.specs.ResolvedTree.{ResolvedTree}
use Rattle.om_scope_tree.specs.Weights.{HasSmallWeight}
use Rattle.om_scope_rules.specs.UnitResolution.{resolution_of}
use Rattle.om_parser_tree.specs.Spelling.{unit_spelling}
use Rattle.om_parser_tree.specs.Tree.{UnitTree}

-- The resolution of a tree of a source's tokens has so few of them that each has a number of 32 bits.
abbrev pub SourcesHaveSmallWeight : Type 0
SourcesHaveSmallWeight =
    (source : List ℕ) (tokens : List Token) (unit : UnitTree) (resolved : ResolvedTree)
    → IsTokens source tokens → unit_spelling unit ≡ tokens → resolution_of unit ≡ Some resolved
    → HasSmallWeight resolved
