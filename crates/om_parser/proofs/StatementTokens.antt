-- What does not stand first where a statement begins, and what a line is seen to be.
use Rattle.std.proofs.Common.{◌≡◌, ℕ, ◌+◌, ◌≤◌, List, [], ◌∷◌, ◌++◌, Option, Some, None, true, false, refl, sym, ap}
use Rattle.std.proofs.Common.{subst, ◌∙◌, inl, inr}
use Rattle.std.specs.List.{flat_map}
use Rattle.om_lexer.specs.declared.token.Keyword.{Keyword}
use Rattle.om_lexer.specs.declared.token.Keyword.TheVariants as keywords
use Rattle.om_lexer.specs.declared.token.Punctuator.{Punctuator}
use Rattle.om_lexer.specs.declared.token.Punctuator.TheVariants as punctuators
use Rattle.om_lexer.specs.declared.token.Span.{Span}
use Rattle.om_lexer.specs.declared.token.Token.{Token}
use Rattle.om_lexer.specs.declared.token.TokenKind.{TokenKind}
use Rattle.om_lexer.specs.declared.token.TokenKind.TheVariants as kinds
use Rattle.om_pragma.specs.declared.tree.Directive.{Directive}
use Rattle.om_pragma.specs.declared.tree.DirectiveName.{DirectiveName}
use Rattle.om_pragma.specs.declared.tree.DirectiveName.TheVariants as directives
use Rattle.om_pragma.specs.Questions.{is_stand_alone, is_section, is_sections}
use Rattle.om_pragma.specs.Spelling.{directive_spelling}
use Rattle.om_parser.specs.declared.construct.LineStart.{LineStart}
use Rattle.om_parser.specs.declared.construct.LineStart.TheVariants as lines
use Rattle.om_parser.specs.declared.start.Start.{Start}
use Rattle.om_parser.specs.declared.start.Start.TheVariants as starts
use Rattle.om_parser.specs.ConstructReading.{line_start}
use Rattle.om_parser_parts.specs.Reading.{take, take_mark, take_word}
use Rattle.om_parser_tree.specs.Spelling.{token, mark, word, perhaps, expression_spelling, condition_spelling}
use Rattle.om_parser_tree.specs.Spelling.{for_start_spelling, statement_spelling, statements_spelling, parts_spelling}
use Rattle.om_parser_tree.specs.Spelling.{part_spelling}
use Rattle.om_parser_tree.specs.Formed.{IsForHead, IsExpression}
use Rattle.om_parser_tree.specs.Limits.{Limits}
use Rattle.om_parser_tree.specs.Sizes.{optional_extent, optional_nesting, for_start_extent, for_start_nesting}
use Rattle.om_parser.specs.StatementReading.{start_of, OpeningTree, OpensIf, OpensWhile, OpensFor}
use Rattle.om_parser_tree.specs.Tree.{ExpressionTree, ForHeadTree, StatementTree, StatementsTree, NoStatements, Statement}
use Rattle.om_parser_tree.specs.Tree.{statements, PartsTree, NoParts, Part, PartTree, parts}
use Rattle.om_parser_parts.specs.Laws.{Keeps, IsEnd}
use Rattle.om_parser_parts.specs.Taken.{take_mark_is, take_word_is}
use Rattle.om_parser.proofs.LineStarts.{start_of_directive, line_start_is}
use Rattle.om_parser.proofs.Begins.{StartsExpression}

-- ---- what does not stand first

pub no_mark : (q : Punctuator) (ts : List Token) → (start_of (kinds.Punctuator q) ≡ starts.Expression → ⊥)
    → StartsExpression ts → take_mark q ts ≡ None
no_mark q ts other x = go (take_mark q ts) refl
  where
    go : (o : Option (Span × List Token)) → take_mark q ts ≡ o → o ≡ None
    go None e = refl
    go (Some y) e =
        let same : x.first ∷ x.behind ≡ mark q y.0 ∷ y.1 = sym x.is ∙ take_mark_is q ts y.0 y.1 e in
        let first : x.first ≡ mark q y.0 = cc in
        absurd (other (sym (ap (λ (t : Token). start_of t.kind) first) ∙ x.start))

pub no_word : (k : Keyword) (ts : List Token) → (start_of (kinds.Keyword k) ≡ starts.Expression → ⊥)
    → StartsExpression ts → take_word k ts ≡ None
no_word k ts other x = go (take_word k ts) refl
  where
    go : (o : Option (Span × List Token)) → take_word k ts ≡ o → o ≡ None
    go None e = refl
    go (Some y) e =
        let same : x.first ∷ x.behind ≡ word k y.0 ∷ y.1 = sym x.is ∙ take_word_is k ts y.0 y.1 e in
        let first : x.first ≡ word k y.0 = cc in
        absurd (other (sym (ap (λ (t : Token). start_of t.kind) first) ∙ x.start))

-- an ender here begins no expression
pub end_other : (q : Punctuator) → IsEnd q → start_of (kinds.Punctuator q) ≡ starts.Expression → ⊥
end_other q (inl is) e = let f : start_of (kinds.Punctuator punctuators.Semicolon) ≡ starts.Expression =
    sym (ap (λ r. start_of (kinds.Punctuator r)) is) ∙ e in absurd cc
end_other q (inr is) e = let f : start_of (kinds.Punctuator punctuators.CloseParen) ≡ starts.Expression =
    sym (ap (λ r. start_of (kinds.Punctuator r)) is) ∙ e in absurd cc

abbrev pub KeepsOptional : (l : Limits) (round : ℕ) → Option ExpressionTree → Type 0
KeepsOptional l round e = (optional_nesting e + round ≤ l.nested) × (optional_extent e ≤ l.tokens)

abbrev pub IsOpening : OpeningTree → Type 0
IsOpening (OpensIf at c) = IsExpression c.value
IsOpening (OpensWhile at c) = IsExpression c.value
IsOpening (OpensFor h) = IsForHead h

pub record KeepsHead (l : Limits) (h : ForHeadTree) : Type 0 where
  pub start_nested : for_start_nesting h.start + 1 ≤ l.nested
  pub start_long : for_start_extent h.start ≤ l.tokens
  pub condition : KeepsOptional l 1 h.condition
  pub step : KeepsOptional l 1 h.step

abbrev pub KeepsOpening : Limits → OpeningTree → Type 0
KeepsOpening l (OpensIf at c) = Keeps l 1 c.value
KeepsOpening l (OpensWhile at c) = Keeps l 1 c.value
KeepsOpening l (OpensFor h) = KeepsHead l h

-- an opening behind its word, its start and its place
abbrev pub opening_rest : OpeningTree → List Token
opening_rest (OpensIf at c) = condition_spelling c
opening_rest (OpensWhile at c) = condition_spelling c
opening_rest (OpensFor h) = mark punctuators.OpenParen h.open_paren
    ∷ (for_start_spelling h.start ++ perhaps expression_spelling h.condition ++ mark punctuators.Semicolon h.semicolon
    ∷ (perhaps expression_spelling h.step ++ mark punctuators.CloseParen h.close_paren ∷ []))

abbrev pub opening_start : OpeningTree → Start
opening_start (OpensIf at c) = starts.If
opening_start (OpensWhile at c) = starts.While
opening_start (OpensFor h) = starts.For

abbrev pub opening_place : OpeningTree → Span
opening_place (OpensIf at c) = at
opening_place (OpensWhile at c) = at
opening_place (OpensFor h) = h.word

pub no_int_before_semicolon : (s : Span) (rest : List Token) → take_word keywords.Int (mark punctuators.Semicolon s
    ∷ rest) ≡ None
unfolding take_word take
no_int_before_semicolon s rest = refl

pub no_else_at_brace : (s : Span) (rest : List Token) → take_word keywords.Else (mark punctuators.CloseBrace s
    ∷ rest) ≡ None
unfolding take_word take
no_else_at_brace s rest = refl

-- the list that these statements are
abbrev pub list_of : StatementsTree → List StatementTree
list_of NoStatements = []
list_of (Statement s rest) = s ∷ list_of rest

pub statements_of : (ss : StatementsTree) → statements (list_of ss) ≡ ss
statements_of NoStatements = refl
statements_of (Statement s rest) = ap (Statement s) (statements_of rest)

pub list_flat : (ss : StatementsTree) → statements_spelling ss ≡ flat_map statement_spelling (list_of ss)
unfolding statement_spelling
list_flat NoStatements = refl
list_flat (Statement s rest) = ap (λ w. statement_spelling s ++ w) (list_flat rest)

-- the list that these parts of `sections` are
abbrev pub list_of_parts : PartsTree → List PartTree
list_of_parts NoParts = []
list_of_parts (Part section items rest) = record { section = section; items = items } ∷ list_of_parts rest

pub parts_of : (ps : PartsTree) → parts (list_of_parts ps) ≡ ps
parts_of NoParts = refl
parts_of (Part section items rest) = ap (Part section items) (parts_of rest)

pub list_of_parts_flat : (ps : PartsTree) → parts_spelling ps ≡ flat_map part_spelling (list_of_parts ps)
unfolding statement_spelling
list_of_parts_flat NoParts = refl
list_of_parts_flat (Part section items rest) = ap (λ w. part_spelling (record { section = section; items = items }) ++
    w)
    (list_of_parts_flat rest)

-- ---- what a line is seen to be

-- a token that begins an expression begins no line
no_line_of : (k : TokenKind) (s : Span) (ts : List Token) → start_of k ≡ starts.Expression
    → line_start (token k s ∷ ts) ≡ lines.Nothing
no_line_of kinds.DirectiveBegin s ts e = absurd cc
no_line_of _ s ts e = refl

pub no_line : (ts : List Token) → StartsExpression ts → line_start ts ≡ lines.Nothing
no_line ts x = subst (λ us. line_start us ≡ lines.Nothing) (sym x.is) (no_line_of x.first.kind x.first.span x.behind
    x.start)

pub construct_starts : (d : Directive ExpressionTree) (rest : List Token) → is_stand_alone d.name ≡ false
    → is_section d.name ≡ false → line_start (directive_spelling expression_spelling d ++ rest) ≡ lines.Construct
construct_starts d rest alone part = line_start_is d rest ∙ rw (alone, part) refl

pub stand_alone_starts : (d : Directive ExpressionTree) (rest : List Token) → is_stand_alone d.name ≡ true
    → line_start (directive_spelling expression_spelling d ++ rest) ≡ lines.StandAlone
stand_alone_starts d rest alone = line_start_is d rest ∙ rw alone refl

pub section_starts : (d : Directive ExpressionTree) (rest : List Token) → is_section d.name ≡ true
    → line_start (directive_spelling expression_spelling d ++ rest) ≡ lines.Section
section_starts d rest part = line_start_is d rest ∙ go d.name part
  where
    go : (n : DirectiveName) → is_section n ≡ true → start_of_directive n ≡ lines.Section
    go (directives.Section s) e = refl
    go _ e = absurd cc

pub sections_starts : (d : Directive ExpressionTree) (rest : List Token) → is_sections d.name ≡ true
    → line_start (directive_spelling expression_spelling d ++ rest) ≡ lines.Construct
sections_starts d rest parts = line_start_is d rest ∙ go d.name parts
  where
    go : (n : DirectiveName) → is_sections n ≡ true → start_of_directive n ≡ lines.Construct
    go (directives.Sections s) e = refl
    go (directives.ParallelSections s t) e = refl
    go _ e = absurd cc

-- where a statement stands first, a line stands there only if it begins a construct
pub data BeginsBody : LineStart → Type 0 where
  BeginsConstruct : BeginsBody lines.Construct
  BeginsNoLine : BeginsBody lines.Nothing
