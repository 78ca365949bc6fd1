-- Where the variables of functions, their copies, and each `parallel` and `task` stand, of every source.
use Rattle.std.specs.Prelude.{◌≡◌, ℕ, List, Some, IfSome, All, map}
use Rattle.std.specs.List.Sorted.{IsStrictlyIncreasing}
use Rattle.om_lexer.specs.declared.token.Token.{Token}
use Rattle.om_lexer.specs.Sources.{IsTokens}
use Rattle.om_scope_rules.specs.Behind.{UnitNamesBehind}
use Rattle.om_scope_rules.specs.TreePlaces.{AreAmong, StandsThere, byte_of, tree_places}
use Rattle.om_scope_tree.specs.Beside.{TreeCopiesBehind}
use Rattle.om_scope_tree.specs.ResolvedTree.{ResolvedTree}
use Rattle.om_scope_rules.specs.UnitResolution.{resolution_of}
use Rattle.om_parser_tree.specs.Spelling.{unit_spelling}
use Rattle.om_parser_tree.specs.Tree.{UnitTree}

-- In a tree of a source's tokens, each name that a clause lists stands no earlier than its directive begins.
abbrev pub NamesStandBehind : Type 0
NamesStandBehind =
    (source : List ℕ) (tokens : List Token) (unit : UnitTree)
    → IsTokens source tokens → unit_spelling unit ≡ tokens → UnitNamesBehind unit

-- Where the names that clauses list stand so, the copies in the resolution do.
abbrev pub CopiesStandBehind : Type 0
CopiesStandBehind = (unit : UnitTree) → UnitNamesBehind unit → IfSome (resolution_of unit) TreeCopiesBehind

-- So in the resolution of a tree of a source's tokens each copy stands behind where its region begins.
abbrev pub SourcesHaveCopiesBehind : Type 0
SourcesHaveCopiesBehind =
    (source : List ℕ) (tokens : List Token) (unit : UnitTree) (resolved : ResolvedTree)
    → IsTokens source tokens → unit_spelling unit ≡ tokens → resolution_of unit ≡ Some resolved
    → TreeCopiesBehind resolved

-- In the resolution of a tree of a source's tokens, the bytes rise strictly at which variables of functions are
-- declared, copies are asked for, and each `parallel` and `task` begins. So no two variables have one byte, and a
-- variable has a byte before that of a `parallel` or `task` exactly where it is declared before it.
abbrev pub PlacesRise : Type 0
PlacesRise =
    (source : List ℕ) (tokens : List Token) (unit : UnitTree) (resolved : ResolvedTree)
    → IsTokens source tokens → unit_spelling unit ≡ tokens → resolution_of unit ≡ Some resolved
    → IsStrictlyIncreasing (map byte_of (tree_places resolved))

-- At each of these bytes the source has the name of the variable, or the `#` of the directive.
abbrev pub PlacesStandThere : Type 0
PlacesStandThere =
    (source : List ℕ) (tokens : List Token) (unit : UnitTree) (resolved : ResolvedTree)
    → IsTokens source tokens → unit_spelling unit ≡ tokens → resolution_of unit ≡ Some resolved
    → All (StandsThere source) (tree_places resolved)

-- Each of them is at a token of its own, that of the name or of the beginning of the directive, in the tokens' order.
abbrev pub PlacesHaveTokens : Type 0
PlacesHaveTokens = (unit : UnitTree) → IfSome (resolution_of unit) (λ resolved. AreAmong (tree_places resolved)
    (unit_spelling unit))
