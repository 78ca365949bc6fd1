-- Why the tokens of a directive line are refused, and where.
use Rattle.std.specs.Prelude.{◌≡◌, ◌≢◌, ℕ, true, false, ◌⊎◌, List, [], ◌∷◌, ◌++◌, Option, None, Result, Ok, Err, All}
use Rattle.std.specs.List.{flat_map}
use denote.Ref.{Bor}
use Rattle.om_lexer.specs.declared.fault.FaultCode.{FaultCode}
use Rattle.om_lexer.specs.declared.fault.FaultCode.TheVariants as codes
use Rattle.om_lexer.specs.declared.fault.SourceFault.{SourceFault}
use Rattle.om_lexer.specs.declared.token.Punctuator.TheVariants as punctuators
use Rattle.om_lexer.specs.declared.token.Span.{Span}
use Rattle.om_lexer.specs.declared.token.Token.{Token}
use Rattle.om_lexer.specs.declared.token.TokenKind.{TokenKind}
use Rattle.om_lexer.specs.declared.token.TokenKind.TheVariants as kinds
use Rattle.om_lexer.specs.Faults.{no_memory}
use Rattle.om_pragma.specs.declared.clause.Clause.{Clause}
use Rattle.om_pragma.specs.declared.clause.ClauseItem.{ClauseItem}
use Rattle.om_pragma.specs.declared.clause.ClauseKind.{ClauseKind}
use Rattle.om_pragma.specs.declared.tree.Directive.{Directive}
use Rattle.om_pragma.specs.declared.tree.DirectiveName.{DirectiveName}
use Rattle.om_pragma.specs.declared.tree.DirectiveName.TheVariants as directives
use Rattle.om_pragma.specs.declared.tree.DirectiveKind.{DirectiveKind}
use Rattle.om_pragma.specs.declared.tree.DirectiveKind.TheVariants as words
use Rattle.om_pragma.specs.Expressions.{IsClosed, with_tokens}
use Rattle.om_pragma.specs.Spelling.{token, name_spelling, opening_spelling, item_spelling, comma_spelling}
use Rattle.om_pragma.specs.Spelling.{clause_spelling, directive_spelling}
use Rattle.om_pragma.specs.Table.{may_stand, kinds_of, IsBetween, IsClause, IsItem, EachBehind, IsDirective}
use Rattle.om_pragma.specs.Table.{IsDirectiveOf}
use Rattle.om_pragma.specs.Words.{is_word, directive_word, clause_word}

-- the words of a directive go on with this token: to those of a combined one, to the name of `critical` or to
-- the list of `flush`
abbrev pub GoesOnWith : DirectiveName → TokenKind → Type 0
GoesOnWith (directives.Parallel s) k = (k ≡ directive_word words.For) ⊎ (k ≡ directive_word words.Sections)
GoesOnWith (directives.Critical s None) k = k ≡ kinds.Punctuator punctuators.OpenParen
GoesOnWith (directives.Flush s None) k = k ≡ kinds.Punctuator punctuators.OpenParen
GoesOnWith _ k = ⊥

-- the tokens behind a directive's words do not go on with them
abbrev pub IsWhole : DirectiveName → List Token → Type 0
IsWhole name behind = (t : Token) (more : List Token) → behind ≡ t ∷ more → GoesOnWith name t.kind → ⊥

-- Behind the words of a directive, some of its clauses and perhaps a comma, these tokens stand where a clause
-- is expected.
pub record StandsClause (tokens : List Token) (name : DirectiveName) (before : List (ClauseItem (List Token)))
    (rest : List Token) : Type 0 where
  pub hash : Span
  pub pragma : Span
  pub omp : Span
  pub comma : Option Span
  pub behind_name : List Token
  pub parts : tokens ≡ opening_spelling hash pragma omp ++ (name_spelling name ++ behind_name)
  pub behind_parts : behind_name ≡ flat_map (item_spelling (λ e. e)) before ++ (comma_spelling comma ++ rest)
  pub whole_name : IsWhole name behind_name
  pub formed : EachBehind (IsItem IsClosed name) [] before
  pub between : IsBetween before comma

-- each clause of a directive stands where one is expected
abbrev pub ClausesStand : Type 0
ClausesStand = (d : Directive (List Token)) (front rest : List (ClauseItem (List Token)))
    (i : ClauseItem (List Token)) → IsDirective IsClosed d → d.clauses ≡ front ++ i ∷ rest
    → StandsClause (directive_spelling (λ e. e) d) d.name front (clause_spelling (λ e. e) i.clause
    ++ (flat_map (item_spelling (λ e. e)) rest ++ token kinds.DirectiveEnd d.end ∷ []))

-- S5: where the directive must stand, a word stands that the table does not have as one.
pub record IsUnknownDirective (tokens : List Token) (at : ℕ) : Type 0 where
  pub hash : Span
  pub pragma : Span
  pub omp : Span
  pub word : Token
  pub rest : List Token
  pub parts : tokens ≡ opening_spelling hash pragma omp ++ word ∷ rest
  pub some_word : is_word word.kind ≡ true
  pub unknown : (w : DirectiveKind) → word.kind ≢ directive_word w
  pub place : word.span.start ≡ at

-- S5: where a clause is expected, a word stands that the table does not have as one.
pub record IsUnknownClause (tokens : List Token) (at : ℕ) : Type 0 where
  pub name : DirectiveName
  pub before : List (ClauseItem (List Token))
  pub word : Token
  pub rest : List Token
  pub stands : StandsClause tokens name before (word ∷ rest)
  pub some_word : is_word word.kind ≡ true
  pub unknown : (k : ClauseKind) → word.kind ≢ clause_word k
  pub place : word.span.start ≡ at

-- S6: where a clause is expected, the word of one stands that the directive does not have, or not once more,
-- or behind which nothing stands that makes it a clause.
pub record IsBadClause (tokens : List Token) (at : ℕ) : Type 0 where
  pub name : DirectiveName
  pub before : List (ClauseItem (List Token))
  pub kind : ClauseKind
  pub word : Span
  pub rest : List Token
  pub stands : StandsClause tokens name before (token (clause_word kind) word ∷ rest)
  pub bad : (may_stand name (kinds_of before) kind ≡ false)
      ⊎ ((c : Clause (List Token)) (behind : List Token) → IsClause IsClosed c → token (clause_word kind) word
      ∷ rest ≢ clause_spelling (λ e. e) c ++ behind)
  pub place : word.start ≡ at

-- S5 or S6 stands at a place
abbrev pub IsWordFault : List Token → FaultCode → ℕ → Type 0
IsWordFault tokens codes.UnknownDirective at = IsUnknownDirective tokens at ⊎ IsUnknownClause tokens at
IsWordFault tokens codes.BadClause at = IsBadClause tokens at
IsWordFault tokens _ at = ⊥

-- S3: the tokens are no directive, and neither S5 nor S6 stands at one of them.
pub record IsSyntax (tokens : List Token) : Type 0 where
  pub no_directive : (d : Directive (List Token)) → IsDirectiveOf tokens d → ⊥
  pub no_other : (code : FaultCode) (at : ℕ) → IsWordFault tokens code at → ⊥

-- why tokens are refused
abbrev pub IsRefusal : List Token → SourceFault → Type 0
IsRefusal tokens fault = ((fault.code ≡ codes.Syntax) × IsSyntax tokens) ⊎ IsWordFault tokens fault.code fault.at

-- the directive, unless memory ran out
abbrev pub IsFound : Directive (List Token) → Result (Directive (Bor (List Token))) SourceFault → Type 0
IsFound d (Ok found) = with_tokens found ≡ d
IsFound d (Err fault) = fault ≡ no_memory

-- whichever directive the tokens are, it is found, unless memory ran out
abbrev pub FindsEvery : List Token → Result (Directive (Bor (List Token))) SourceFault → Type 0
FindsEvery tokens result = (d : Directive (List Token)) → IsDirectiveOf tokens d → IsFound d result

-- a clause by the grammar alone: a comma stands between two, and behind the word what belongs to it
pub record IsWrittenItem (before : List (ClauseItem (List Token))) (i : ClauseItem (List Token)) : Type 0 where
  pub between : IsBetween before i.comma
  pub formed : IsClause IsClosed i.clause

-- the tokens begin a directive, whichever clauses the table gives it
pub record BeginsDirective (front : List Token) : Type 0 where
  pub directive : Directive (List Token)
  pub more : List Token
  pub written : EachBehind IsWrittenItem [] directive.clauses
  pub parts : directive_spelling (λ e. e) directive ≡ front ++ more

-- the place of a token that no directive has there, after the tokens before it
pub record StopsAt (tokens : List Token) (at : ℕ) : Type 0 where
  pub front : List Token
  pub first : Token
  pub after : List Token
  pub parts : tokens ≡ front ++ first ∷ after
  pub begins : BeginsDirective front
  pub stops : BeginsDirective (front ++ first ∷ []) → ⊥
  pub place : first.span.start ≡ at

-- no token is the end of a run
abbrev pub IsEndless : List Token → Type 0
IsEndless = All (λ t. t.kind ≢ kinds.DirectiveEnd)

-- the end of the run stands last, and nowhere else
pub record EndsOnce (tokens : List Token) : Type 0 where
  pub front : List Token
  pub end : Span
  pub parts : tokens ≡ front ++ token kinds.DirectiveEnd end ∷ []
  pub endless : IsEndless front

-- where the run ends once, S3 stands at the first token that no directive has there
abbrev pub StopsAtFirst : List Token → SourceFault → Type 0
StopsAtFirst tokens fault = fault.code ≡ codes.Syntax → EndsOnce tokens → StopsAt tokens fault.at

-- where the run has no end, S3 stands at the first token that no directive has there, or all of the tokens begin a
-- directive
abbrev pub RunsOut : List Token → SourceFault → Type 0
RunsOut tokens fault = fault.code ≡ codes.Syntax → IsEndless tokens
    → StopsAt tokens fault.at ⊎ BeginsDirective tokens

-- What tokens are: a directive, or none for this reason; S3 stands at the first token that no directive has there.
abbrev pub IsAnswer : List Token → Result (Directive (List Token)) SourceFault → Type 0
IsAnswer tokens (Ok d) = IsDirectiveOf tokens d
IsAnswer tokens (Err fault) = IsRefusal tokens fault × (fault.code ≡ codes.Syntax → StopsAt tokens fault.at)
