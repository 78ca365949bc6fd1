-- The order of the tokens of a source, and what stands at the place of each.
use Rattle.std.specs.Prelude.{◌≡◌, ℕ, ◌+◌, ◌<◌, ◌≤◌, ◌⊎◌, Bool, true, false, List, [], ◌∷◌, ◌++◌, length, slice_index}
use Rattle.std.specs.Prelude.{slice_range}
use Rattle.om_lexer.specs.declared.token.Keyword.{Keyword}
use Rattle.om_lexer.specs.declared.token.Token.{Token}
use Rattle.om_lexer.specs.declared.token.TokenKind.{TokenKind}
use Rattle.om_lexer.specs.declared.token.TokenKind.TheVariants as kinds
use Rattle.om_lexer.specs.Constants.{IsConstant}
use Rattle.om_lexer.specs.Pieces.{line_at}
use Rattle.om_lexer.specs.Spellings.{keyword_text, punctuator_text}
use Rattle.om_lexer.specs.Texts.{IsText}
use Rattle.om_lexer.specs.Tokens.{IsName}

-- C17 6.10.3: a text that a define can have as its name
abbrev pub IsDefinable : List ℕ → Type 0
IsDefinable text = IsName text ⊎ ((k : Keyword) × (text ≡ keyword_text k))

-- What stands from one byte up to another as a token of this kind. A macro is a constant at its name's place.
abbrev pub StandsAs : List ℕ → ℕ → ℕ → TokenKind → Type 0
StandsAs source from to (kinds.Name text) = text ≡ slice_range source from to
StandsAs source from to (kinds.Constant value) = IsConstant (slice_range source from to) value
    ⊎ IsDefinable (slice_range source from to)
StandsAs source from to (kinds.Keyword k) = slice_range source from to ≡ keyword_text k
StandsAs source from to (kinds.Text characters) = IsText source from characters to
StandsAs source from to (kinds.Punctuator p) = slice_range source from to ≡ punctuator_text p
StandsAs source from to kinds.DirectiveBegin = (slice_index source from ≡ 35) × (to ≡ from + 1)
StandsAs source from to kinds.DirectiveEnd = Unit {0}
StandsAs source from to kinds.End = from ≡ length source

-- the ends of a directive and of the source have no width, any other token has some
abbrev pub HasWidth : TokenKind → ℕ → ℕ → Type 0
HasWidth kinds.DirectiveEnd from to = from ≡ to
HasWidth kinds.End from to = from ≡ to
HasWidth _ from to = from < to

-- a token is what stands at its place, in the line of its first byte
pub record IsInPlace (source : List ℕ) (t : Token) : Type 0 where
  pub stands : StandsAs source t.span.start t.span.end t.kind
  pub width : HasWidth t.kind t.span.start t.span.end
  pub line : t.span.line ≡ line_at source t.span.start

-- each token is in its place, and begins no earlier than the one before it ends, the first no earlier than that byte
unfoldable pub AreInOrder : List ℕ → ℕ → List Token → Type 0
AreInOrder source from [] = from ≤ length source
AreInOrder source from (t ∷ ts) = (from ≤ t.span.start) × IsInPlace source t × AreInOrder source t.span.end ts

-- how tokens go on behind one of this kind, in a directive or outside of one: directives begin outside, and end inside
abbrev pub GoesOn : Bool → TokenKind → (last : Type 0) → (rest : Bool → Type 0) → Type 0
GoesOn inside kinds.DirectiveBegin last rest = (inside ≡ false) × rest true
GoesOn inside kinds.DirectiveEnd last rest = (inside ≡ true) × rest false
GoesOn inside kinds.End last rest = (inside ≡ false) × last
GoesOn inside _ last rest = rest inside

-- The tokens from a place on, in a directive or outside of one: each directive that begins has its end, with
-- no other in it, and the end of the source stands last, outside, and nowhere else.
unfoldable pub AreWhole : (inside : Bool) → List Token → Type 0
AreWhole inside [] = ⊥
AreWhole inside (t ∷ ts) = GoesOn inside t.kind (ts ≡ []) (λ behind. AreWhole behind ts)

-- one token stands before another
pub record StandsBefore (tokens : List Token) (t u : Token) : Type 0 where
  pub front : List Token
  pub between : List Token
  pub back : List Token
  pub parts : tokens ≡ front ++ t ∷ (between ++ u ∷ back)
