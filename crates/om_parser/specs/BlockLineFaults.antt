-- Where lines of a source, or of a part of it, are refused with another code than that of syntax.
use Rattle.std.specs.Prelude.{◌≡◌, List, ◌∷◌, ◌++◌}
use Rattle.om_lexer.specs.declared.fault.SourceFault.{SourceFault}
use Rattle.om_lexer.specs.declared.token.Span.{Span}
use Rattle.om_lexer.specs.declared.token.Token.{Token}
use Rattle.om_lexer.specs.declared.token.TokenKind.TheVariants as kinds
use Rattle.om_parser_parts.specs.WrongLines.{IsOneLine, IsWrongLine}
use Rattle.om_parser_tree.specs.Limits.{Limits}
use Rattle.om_parser_tree.specs.Spelling.{token}

-- Some of the tokens are a whole line, where one may stand: some well-formed part begins with the tokens before the
-- line, and goes on with the beginning of one.
pub record HasLine {A : Type 0} (spelling : A → List Token) (IsFormed : A → Type 0)
    (tokens line : List Token) : Type 0 where
  pub before : List Token
  pub after : List Token
  pub stands : tokens ≡ before ++ line ++ after
  pub one_line : IsOneLine line
  pub part : A
  pub formed : IsFormed part
  pub hash : Span
  pub rest_of_part : List Token
  pub in_part : spelling part ≡ before ++ token kinds.DirectiveBegin hash ∷ rest_of_part

-- one of the lines is refused so
pub record IsLineFault {A : Type 0} (spelling : A → List Token) (IsFormed : A → Type 0) (l : Limits)
    (tokens : List Token) (f : SourceFault) : Type 0 where
  pub line : List Token
  pub has_line : HasLine spelling IsFormed tokens line
  pub wrong : IsWrongLine l line f
