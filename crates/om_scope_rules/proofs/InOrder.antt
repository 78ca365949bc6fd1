-- Each byte of a source is one place at most.
use Rattle.std.proofs.Common.{◌≡◌, ℕ, List, Some, subst}
use Rattle.om_lexer.specs.declared.token.Token.{Token}
use Rattle.om_lexer.specs.Order.{AreInOrder}
use Rattle.om_lexer.specs.Sources.{IsTokens}
use Rattle.om_scope_rules.proofs.Ascending.{places_rise}
use Rattle.om_scope_rules.proofs.StandingPlaces.{all_stand}
use Rattle.om_scope_rules.proofs.Steps.{if_given}
use Rattle.om_scope_rules.proofs.UnitPlaces.{TreeAmong, unit_among}
use Rattle.om_scope_rules.specs.TreePlaces.{tree_places}
use Rattle.om_scope_rules.specs.PlaceLaws.{PlacesRise, PlacesStandThere}
use Rattle.om_scope_tree.specs.ResolvedTree.{ResolvedTree}
use Rattle.om_scope_rules.specs.UnitResolution.{resolution_of}
use Rattle.om_parser_tree.specs.Spelling.{unit_spelling}
use Rattle.om_parser_tree.specs.Tree.{UnitTree}

-- the places of the resolution of a tree with these tokens
given : (tokens : List Token) (unit : UnitTree) (resolved : ResolvedTree) → unit_spelling unit ≡ tokens
    → resolution_of unit ≡ Some resolved → TreeAmong tokens resolved
given tokens unit resolved spelled resolves =
    subst (λ ts. TreeAmong ts resolved) spelled
    (if_given (TreeAmong (unit_spelling unit)) (resolution_of unit) resolved (unit_among unit) resolves)

module _ (in_order : (source : List ℕ) (ts : List Token) → IsTokens source ts → AreInOrder source 0 ts) where
  pub all_rise : PlacesRise
  all_rise source tokens unit resolved lexed spelled resolves =
      places_rise source tokens (tree_places resolved) (in_order source tokens lexed)
      (given tokens unit resolved spelled resolves)

  pub places_stand : PlacesStandThere
  places_stand source tokens unit resolved lexed spelled resolves =
      all_stand source 0 tokens (tree_places resolved) (in_order source tokens lexed)
      (given tokens unit resolved spelled resolves)
