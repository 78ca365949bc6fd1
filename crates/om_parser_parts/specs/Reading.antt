-- For proofs: reading from the left, as the parser does. It gives an item and the tokens behind it, or the fault
-- that stops it.
use Rattle.std.specs.Prelude.{◌≡◌, ℕ, ◌≤◌, List, [], ◌∷◌, length, Option, Some, None, Result, Ok, Err, Bool}
use Rattle.std.specs.Prelude.{if◌then◌else◌}
use denote.Enum.Bare.{sameb}
use Rattle.om_lexer.specs.contracts.token.Keyword.{the_type as the_keywords}
use Rattle.om_lexer.specs.contracts.token.Punctuator.{the_type as the_punctuators}
use Rattle.om_lexer.specs.declared.fault.FaultCode.TheVariants as codes
use Rattle.om_lexer.specs.declared.fault.SourceFault.{SourceFault}
use Rattle.om_lexer.specs.declared.token.Keyword.{Keyword}
use Rattle.om_lexer.specs.declared.token.Punctuator.{Punctuator}
use Rattle.om_lexer.specs.declared.token.Span.{Span}
use Rattle.om_lexer.specs.declared.token.Token.{Token}
use Rattle.om_lexer.specs.declared.token.TokenKind.{TokenKind}
use Rattle.om_lexer.specs.declared.token.TokenKind.TheVariants as kinds
use Rattle.om_pragma.specs.declared.clause.Name as names
use Rattle.om_pragma.specs.declared.clause.Number.{Number}
-- as directives are read
pub use Rattle.om_pragma.specs.Reading.{◌>>=◌, choose, place, name_of, number_of}
-- what it gives, and what functions made of it
pub use Rattle.om_parser_tree.specs.Making.{Outcome, Reads, Makes}

-- an item that stands first, and the tokens behind it
abbrev pub Reader : Type 0 → Type 0
Reader A = List Token → Outcome (A × List Token)

-- it leaves no more tokens than there were
abbrev pub LeavesNoMore : {A : Type 0} → Reader A → Type 0
LeavesNoMore {A} r = (ts : List Token) (x : A × List Token) → r ts ≡ Ok x → length x.1 ≤ length ts

-- no tree goes on with the first of these tokens
abbrev pub syntax : List Token → SourceFault
syntax ts = record { code = codes.Syntax; at = place ts }

-- a limit is passed at this token
abbrev pub too_deep : Span → SourceFault
too_deep s = record { code = codes.TooDeep; at = s.start }

-- what must stand first
abbrev pub known : {A : Type 0} → List Token → Option A → Outcome A
known ts (Some x) = Ok x
known ts None = Err (syntax ts)

-- what the first token is, and the tokens behind it
unfoldable pub take : {A : Type 0} → (Token → Option A) → List Token → Option (A × List Token)
take f [] = None
take f (t ∷ ts) = choose (f t) (λ x. Some (x, ts)) None

-- whether two punctuators are one
unfoldable pub same_mark : Punctuator → Punctuator → Bool
same_mark = sameb the_punctuators

-- whether two keywords are one
unfoldable pub same_word : Keyword → Keyword → Bool
same_word = sameb the_keywords

-- the span of a token of this kind and span, if it is this punctuator
abbrev pub mark_of : Punctuator → TokenKind → Span → Option Span
mark_of p (kinds.Punctuator q) s = if same_mark q p then Some s else None
mark_of p _ s = None

-- the same of a keyword
abbrev pub word_of : Keyword → TokenKind → Span → Option Span
word_of k (kinds.Keyword j) s = if same_word j k then Some s else None
word_of k _ s = None

-- this punctuator, if it stands first
unfoldable pub take_mark : Punctuator → List Token → Option (Span × List Token)
take_mark p = take (λ t. mark_of p t.kind t.span)

-- this keyword, if it stands first
unfoldable pub take_word : Keyword → List Token → Option (Span × List Token)
take_word k = take (λ t. word_of k t.kind t.span)

-- a name, if one stands first
unfoldable pub take_name : List Token → Option (names.Name × List Token)
take_name = take (λ t. name_of t.kind t.span)

-- a constant, if one stands first
unfoldable pub take_number : List Token → Option (Number × List Token)
take_number = take (λ t. number_of t.kind t.span)

-- this punctuator, which must stand first
unfoldable pub mark_at : Punctuator → Reader Span
mark_at p ts = known ts (take_mark p ts)

-- this keyword, which must stand first
unfoldable pub word_at : Keyword → Reader Span
word_at k ts = known ts (take_word k ts)

-- a name, which must stand first
unfoldable pub name_at : Reader names.Name
name_at ts = known ts (take_name ts)

-- a constant, which must stand first
unfoldable pub number_at : Reader Number
number_at ts = known ts (take_number ts)

-- what a function that takes no memory returned is what reading gives
abbrev pub ReadsAlways : {X Y : Type 0} → (X → Y) → Result X SourceFault → Outcome Y → Type 0
ReadsAlways f (Ok x) read = read ≡ Ok (f x)
ReadsAlways f (Err e) read = read ≡ Err e
