-- Where reading stops with S3: in a directive line, or where the tokens run out.
use Rattle.std.specs.Prelude.{◌≡◌, ◌≢◌, ℕ, List, [], ◌∷◌, ◌++◌, ◌⊎◌, All, Bool, true, false}
use Rattle.om_lexer.specs.declared.fault.SourceFault.{SourceFault}
use Rattle.om_lexer.specs.declared.token.Span.{Span}
use Rattle.om_lexer.specs.declared.token.Token.{Token}
use Rattle.om_lexer.specs.declared.token.TokenKind.TheVariants as kinds
use Rattle.om_parser_parts.specs.Reading.{place}
use Rattle.om_parser_parts.specs.WrongLines.{IsOneLine, IsSyntaxLine}
use Rattle.om_parser_tree.specs.Spelling.{token}

-- the last of these tokens is not the end of a source
unfoldable pub Unended : List Token → Type 0
Unended [] = Unit {0}
Unended (t ∷ []) = t.kind ≢ kinds.End
Unended (t ∷ (u ∷ us)) = Unended (u ∷ us)

-- the tokens run out, and lack the end of a source
pub record RunOut (tokens : List Token) (f : SourceFault) : Type 0 where
  pub past : f.at ≡ place []
  pub unended : Unended tokens

-- a directive line begins, and has no end
pub record HasEndlessLine (tokens : List Token) : Type 0 where
  pub before : List Token
  pub hash : Span
  pub after : List Token
  pub stands : tokens ≡ before ++ token kinds.DirectiveBegin hash ∷ after
  pub endless : All (λ t. t.kind ≢ kinds.DirectiveEnd) after

-- reading stops in a whole line
pub record IsStopInLine (tokens : List Token) (f : SourceFault) : Type 0 where
  pub before : List Token
  pub line : List Token
  pub after : List Token
  pub stands : tokens ≡ before ++ (line ++ after)
  pub one_line : IsOneLine line
  pub stops : IsSyntaxLine line f.at

-- reading stops in a line, where lines are read, or there is no more to be read
abbrev pub IsElsewhere : (lines : Bool) → List Token → SourceFault → Type 0
IsElsewhere true tokens f = IsStopInLine tokens f ⊎ HasEndlessLine tokens ⊎ RunOut tokens f
IsElsewhere false tokens f = RunOut tokens f
