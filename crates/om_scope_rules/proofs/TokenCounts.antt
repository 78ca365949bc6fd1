-- A source has no more than two tokens for each of its bytes, and its end.
use Rattle.std.proofs.Common.{◌≡◌, ℕ, ◌+◌, ◌*◌, ◌≤◌, Bool, true, false, List, [], ◌∷◌, length, ap, subst}
use Rattle.std.proofs.Common.{arith}
use Rattle.om_lexer.specs.declared.token.Token.{Token}
use Rattle.om_lexer.specs.declared.token.TokenKind.{TokenKind}
use Rattle.om_lexer.specs.declared.token.TokenKind.TheVariants as kinds
use Rattle.om_lexer.specs.Order.{AreInOrder, AreWhole, GoesOn, HasWidth}
use Rattle.om_lexer.specs.Sources.{IsTokens}
use Rattle.om_scope_rules.proofs.Fitting.{within as fitting}
use Rattle.om_scope_rules.proofs.StandingPlaces.{within}
use Rattle.om_scope_rules.proofs.Steps.{if_given}
use Rattle.om_scope_rules.proofs.UnitWeights.{TreeFits, unit_fits}
use Rattle.om_scope_rules.specs.UnitResolution.{resolution_of}
use Rattle.om_scope_rules.specs.WeightLaws.{SourcesHaveSmallWeight}
use Rattle.om_parser_tree.specs.Spelling.{unit_spelling}

-- those that may stand behind the last byte: the end of the source, and that of a directive around the place
abbrev spare : Bool → ℕ
spare true = 2
spare false = 1

-- so many tokens from a byte on are few, in a directive or outside of one
abbrev AreFew : (long from count : ℕ) → Bool → Type 0
AreFew long from count inside = count + 2 * from ≤ 2 * long + spare inside

-- one more, where those behind it are few
module _ (long from to : ℕ) (ts : List Token) (inside : Bool) (ends : to ≤ long)
    (rest : (behind : Bool) → AreWhole behind ts → AreFew long to (length ts) behind) where
  one_more : (k : TokenKind) → HasWidth k from to → GoesOn inside k (ts ≡ []) (λ behind. AreWhole behind ts)
      → AreFew long from (1 + length ts) inside
  one_more kinds.DirectiveBegin width h = omega (width, ap spare h.0, rest true h.1, arith)
  one_more kinds.DirectiveEnd width h = omega (width, ap spare h.0, rest false h.1, arith)
  one_more kinds.End width h = omega (width, ends, ap spare h.0, ap length h.1, arith)
  one_more (kinds.Name text) width h = omega (width, rest inside h, arith)
  one_more (kinds.Constant value) width h = omega (width, rest inside h, arith)
  one_more (kinds.Keyword k) width h = omega (width, rest inside h, arith)
  one_more (kinds.Punctuator p) width h = omega (width, rest inside h, arith)
  one_more (kinds.Text characters) width h = omega (width, rest inside h, arith)

are_few : (source : List ℕ) (from : ℕ) (ts : List Token) → AreInOrder source from ts → (inside : Bool)
    → AreWhole inside ts → AreFew (length source) from (length ts) inside
unfolding AreInOrder AreWhole
are_few source from [] order inside h = absurd h
are_few source from (t ∷ ts) order inside h =
    let first = order.0 in
    let ends = within source t.span.end ts order.2 in
    let rest = are_few source t.span.end ts order.2 in
    let few = one_more (length source) t.span.start t.span.end ts inside ends rest t.kind order.1.width h in
    omega (first, few, arith)

-- so a tree of them has no more parts that get a number
module _ (in_order : (source : List ℕ) (ts : List Token) → IsTokens source ts → AreInOrder source 0 ts)
    (whole : (source : List ℕ) (ts : List Token) → IsTokens source ts → AreWhole false ts) where
  pub small_weight : SourcesHaveSmallWeight
  small_weight source tokens unit resolved lexed spelled resolves =
      let fits = if_given (TreeFits (unit_spelling unit)) (resolution_of unit) resolved (unit_fits unit) resolves in
      let counted = fitting _ tokens (subst (λ ts. TreeFits ts resolved) spelled fits) in
      let few = are_few source 0 tokens (in_order source tokens lexed) false (whole source tokens lexed) in
      omega (counted, few, lexed.within, arith)
