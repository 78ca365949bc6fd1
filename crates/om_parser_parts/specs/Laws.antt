-- For proofs: what the laws say of reading the parts of statements.
use Rattle.std.specs.Prelude.{◌≡◌, ℕ, ◌+◌, ◌≤◌, List, [], ◌∷◌, ◌++◌, None, Ok, Err, ◌⊎◌}
use Rattle.std.specs.List.{flat_map}
use Rattle.om_lexer.specs.declared.fault.FaultCode.TheVariants as codes
use Rattle.om_lexer.specs.declared.fault.SourceFault.{SourceFault}
use Rattle.om_lexer.specs.declared.token.Keyword.TheVariants as keywords
use Rattle.om_lexer.specs.declared.token.Punctuator.{Punctuator}
use Rattle.om_lexer.specs.declared.token.Punctuator.TheVariants as punctuators
use Rattle.om_lexer.specs.declared.token.Span.{Span}
use Rattle.om_lexer.specs.declared.token.Token.{Token}
use Rattle.om_lexer.specs.declared.token.TokenKind.TheVariants as kinds
use Rattle.om_pragma.specs.declared.clause.Name as names
use Rattle.om_pragma.specs.declared.tree.Directive.{Directive}
use Rattle.om_pragma.specs.Spelling.{directive_spelling}
use Rattle.om_parser_tree.specs.declared.tree.SignedNumber.{SignedNumber}
use Rattle.om_parser_parts.specs.PartReading.{LineReader, Parts, parts, global_at}
use Rattle.om_parser_parts.specs.Reading.{Outcome, Reader, take_mark}
use Rattle.om_parser_parts.specs.WrongLines.{IsOneLine, IsWrongLine}
use Rattle.om_parser_tree.specs.Formed.{IsExpression, IsLine, IsLocalDeclaration, IsGlobalDeclaration}
use Rattle.om_parser_tree.specs.Limits.{Limits, nesting}
use Rattle.om_parser_tree.specs.Places.{Place, IsPassed, IsOverInExpression, IsOverInDeclaration, in_parentheses}
use Rattle.om_parser_tree.specs.Sizes.{extent, declaration_nesting, declaration_longest, line_longest, line_nesting}
use Rattle.om_parser_tree.specs.Spelling.{token, mark, word, name, expression_spelling, declarator_spelling, further_spelling}
use Rattle.om_parser_tree.specs.Spelling.{global_spelling, local_spelling}
use Rattle.om_parser_tree.specs.Tree.{ExpressionTree, DeclarationTree}

-- ---- what is read is well-formed, within the limits, and spelled as the tokens were

-- an item of such a kind that stands at the front
pub record IsRead {A : Type 0} (spell : A → List Token) (P : A → Type 0) (ts : List Token)
    (x : A × List Token) : Type 0 where
  pub parts : ts ≡ spell x.0 ++ x.1
  pub formed : P x.0

abbrev pub IsSound : {A : Type 0} → (A → List Token) → (A → Type 0) → Reader A → Type 0
IsSound {A} spell P r = (ts : List Token) (x : A × List Token) → r ts ≡ Ok x → IsRead spell P ts x

-- a whole expression within the limits, with so many parentheses round it
pub record IsWhole (l : Limits) (round : ℕ) (e : ExpressionTree) : Type 0 where
  pub formed : IsExpression e
  pub nested : nesting e + round ≤ l.nested
  pub long : extent e ≤ l.tokens

-- the same of a declaration
pub record IsWholeDeclaration (l : Limits) (round : ℕ) (d : DeclarationTree ExpressionTree) : Type 0 where
  pub formed : IsLocalDeclaration d
  pub nested : declaration_nesting d + round ≤ l.nested
  pub long : declaration_longest d ≤ l.tokens

-- a line within the limits
pub record IsWholeLine (l : Limits) (d : Directive ExpressionTree) : Type 0 where
  pub formed : IsLine d
  pub nested : line_nesting d ≤ l.nested
  pub long : line_longest d ≤ l.tokens

abbrev pub IsDeclarationSound : (l : Limits) (round : ℕ) → (Span → Reader (DeclarationTree ExpressionTree)) → Type 0
IsDeclarationSound l round r = (int : Span) (ts : List Token) (x : DeclarationTree ExpressionTree × List Token)
    → r int ts ≡ Ok x
    → IsRead local_spelling (IsWholeDeclaration l round) (word keywords.Int int ∷ ts) x

-- the readers of the parts give what is well-formed
pub record ArePartsSound (p : Parts) (l : Limits) : Type 0 where
  pub expression : IsSound expression_spelling (IsWhole l 0) p.expression
  pub enclosed : IsSound expression_spelling (IsWhole l 1) p.enclosed
  pub declaration : IsDeclarationSound l 0 p.declaration
  pub enclosed_declaration : IsDeclarationSound l 1 p.enclosed_declaration
  pub line : IsSound (directive_spelling expression_spelling) (IsWholeLine l) p.line

abbrev pub PartsAreSound : Type 0
PartsAreSound = (l : Limits) → 1 ≤ l.nested → ArePartsSound (parts l) l

-- ---- what is well-formed is read again

-- a fault of another code than that of syntax
pub record Stopping : Type 0 where
  pub fault : SourceFault
  pub other : fault.code ≡ codes.Syntax → ⊥

-- the item is read, or such a fault stops it, and then it does not fit what is asked of it
abbrev pub IsAnswer : {A : Type 0} → (Fits : Type 0) → Outcome A → A → Type 0
IsAnswer Fits read x = (read ≡ Ok x) ⊎ ((stop : Stopping) × (read ≡ Err stop.fault) × (Fits → ⊥))

-- an expression keeps the limits, with so many parentheses round it
pub record Keeps (l : Limits) (round : ℕ) (e : ExpressionTree) : Type 0 where
  pub nested : nesting e + round ≤ l.nested
  pub long : extent e ≤ l.tokens

-- the same of a declaration
pub record KeepsDeclaration (l : Limits) (round : ℕ) (d : DeclarationTree ExpressionTree) : Type 0 where
  pub nested : declaration_nesting d + round ≤ l.nested
  pub long : declaration_longest d ≤ l.tokens

-- the same of a line
pub record KeepsLine (l : Limits) (d : Directive ExpressionTree) : Type 0 where
  pub nested : line_nesting d ≤ l.nested
  pub long : line_longest d ≤ l.tokens

-- what may follow a whole expression in a statement
abbrev pub IsEnd : Punctuator → Type 0
IsEnd q = (q ≡ punctuators.Semicolon) ⊎ (q ≡ punctuators.CloseParen)

abbrev pub IsExpressionAgain : (l : Limits) (round : ℕ) → Reader ExpressionTree → Type 0
IsExpressionAgain l round r = (e : ExpressionTree) (q : Punctuator) (s : Span) (rest : List Token) → IsEnd q
    → IsExpression e
    → IsAnswer (Keeps l round e) (r (expression_spelling e ++ mark q s ∷ rest)) (e, mark q s ∷ rest)

-- what stands behind the `int` of a declaration
abbrev pub declaration_tail : DeclarationTree ExpressionTree → List Token
declaration_tail d = declarator_spelling expression_spelling d.first
    ++ flat_map (further_spelling expression_spelling) d.rest ++ mark punctuators.Semicolon d.semicolon ∷ []

abbrev pub IsDeclarationAgain : (l : Limits) (round : ℕ) → (Span → Reader (DeclarationTree ExpressionTree)) → Type 0
IsDeclarationAgain l round r = (d : DeclarationTree ExpressionTree) (rest : List Token) → IsLocalDeclaration d
    → IsAnswer (KeepsDeclaration l round d) (r d.int (declaration_tail d ++ rest)) (d, rest)

abbrev pub IsLineAgain : (l : Limits) → LineReader → Type 0
IsLineAgain l r = (d : Directive ExpressionTree) (rest : List Token) → IsLine d
    → IsAnswer (KeepsLine l d) (r (directive_spelling expression_spelling d ++ rest)) (d, rest)

-- the readers of the parts read them again
pub record ArePartsAgain (p : Parts) (l : Limits) : Type 0 where
  pub expression : IsExpressionAgain l 0 p.expression
  pub enclosed : IsExpressionAgain l 1 p.enclosed
  pub declaration : IsDeclarationAgain l 0 p.declaration
  pub enclosed_declaration : IsDeclarationAgain l 1 p.enclosed_declaration
  pub line : IsLineAgain l p.line

abbrev pub PartsAreReadAgain : Type 0
PartsAreReadAgain = (l : Limits) → 1 ≤ l.nested → ArePartsAgain (parts l) l

-- ---- where reading stops by another code than that of syntax

abbrev pub Stops : SourceFault → Type 0
Stops f = f.code ≡ codes.Syntax → ⊥

-- a limit is passed in a part
abbrev pub IsTooDeep : {A : Type 0} → (A → List Token) → (A → Type 0) → (A → Place) → List Token → SourceFault → Type 0
IsTooDeep spelling IsFormed over tokens f = (f.code ≡ codes.TooDeep) × IsPassed spelling IsFormed over tokens f.at

abbrev pub IsExpressionCut : Limits → Reader ExpressionTree → Type 0
IsExpressionCut l r = (ts : List Token) (f : SourceFault) → r ts ≡ Err f → Stops f
    → IsTooDeep expression_spelling IsExpression (IsOverInExpression l) ts f

abbrev pub IsDeclarationCut : Limits → (Span → Reader (DeclarationTree ExpressionTree)) → Type 0
IsDeclarationCut l r = (int : Span) (ts : List Token) (f : SourceFault) → r int ts ≡ Err f → Stops f
    → IsTooDeep local_spelling IsLocalDeclaration (IsOverInDeclaration l) (word keywords.Int int ∷ ts) f

-- the line that stands first is refused
pub record IsFirstLineFault (l : Limits) (tokens : List Token) (f : SourceFault) : Type 0 where
  pub line : List Token
  pub after : List Token
  pub parts : tokens ≡ line ++ after
  pub one_line : IsOneLine line
  pub wrong : IsWrongLine l line f

abbrev pub IsLineCut : Limits → LineReader → Type 0
IsLineCut l r = (hash : Span) (us : List Token) (f : SourceFault) → r (token kinds.DirectiveBegin hash ∷ us) ≡ Err f
    → Stops f
    → IsFirstLineFault l (token kinds.DirectiveBegin hash ∷ us) f

-- the readers of the parts stop only so
pub record ArePartsCut (p : Parts) (l : Limits) : Type 0 where
  pub expression : IsExpressionCut l p.expression
  pub enclosed : IsExpressionCut (in_parentheses l) p.enclosed
  pub declaration : IsDeclarationCut l p.declaration
  pub enclosed_declaration : IsDeclarationCut (in_parentheses l) p.enclosed_declaration
  pub line : IsLineCut l p.line

abbrev pub PartsStopSo : Type 0
PartsStopSo = (l : Limits) → 1 ≤ l.nested → ArePartsCut (parts l) l

-- ---- declarations at file scope

abbrev pub GlobalsAreSound : Type 0
GlobalsAreSound = (int : Span) (n : names.Name) (ts : List Token) (x : DeclarationTree SignedNumber × List Token)
    → global_at int n ts ≡ Ok x
    → IsRead global_spelling IsGlobalDeclaration (word keywords.Int int ∷ name n ∷ ts) x

-- behind `int` and the first name, where no parenthesis stands
pub record IsGlobalAgain (d : DeclarationTree SignedNumber) (rest : List Token) : Type 0 where
  pub behind : List Token
  pub parts : word keywords.Int d.int ∷ name d.first.name ∷ behind ≡ global_spelling d ++ rest
  pub no_function : take_mark punctuators.OpenParen behind ≡ None
  pub read : global_at d.int d.first.name behind ≡ Ok (d, rest)

abbrev pub GlobalsAreReadAgain : Type 0
GlobalsAreReadAgain = (d : DeclarationTree SignedNumber) (rest : List Token) → IsGlobalDeclaration d
    → IsGlobalAgain d rest

-- they are refused by syntax alone
abbrev pub GlobalsStopAtSyntax : Type 0
GlobalsStopAtSyntax = (int : Span) (n : names.Name) (ts : List Token) (f : SourceFault) → global_at int n ts ≡ Err f
    → f.code ≡ codes.Syntax
