-- The tokens of a tree: its spelling.
use Rattle.std.specs.Prelude.{List, [], ◌∷◌, ◌++◌, Option, Some, None}
use Rattle.std.specs.List.{flat_map}
use Rattle.om_lexer.specs.declared.token.Keyword.{Keyword}
use Rattle.om_lexer.specs.declared.token.Keyword.TheVariants as keywords
use Rattle.om_lexer.specs.declared.token.Punctuator.{Punctuator}
use Rattle.om_lexer.specs.declared.token.Punctuator.TheVariants as punctuators
use Rattle.om_lexer.specs.declared.token.Span.{Span}
use Rattle.om_lexer.specs.declared.token.Token.{Token}
use Rattle.om_lexer.specs.declared.token.TokenKind.TheVariants as kinds
use Rattle.om_pragma.specs.declared.tree.Directive.{Directive}
use Rattle.om_pragma.specs.Spelling.{directive_spelling}
use Rattle.om_parser_tree.specs.declared.tree.ArrayLength.{ArrayLength}
use Rattle.om_parser_tree.specs.declared.tree.AssignOperator.{AssignOperator}
use Rattle.om_parser_tree.specs.declared.tree.AssignOperator.TheVariants as assigns
use Rattle.om_parser_tree.specs.declared.tree.BinaryOperator.{BinaryOperator}
use Rattle.om_parser_tree.specs.declared.tree.BinaryOperator.TheVariants as binaries
use Rattle.om_pragma.specs.declared.clause.Name as names
use Rattle.om_parser_tree.specs.declared.tree.Parameter.{Parameter}
use Rattle.om_parser_tree.specs.declared.tree.PostfixOperator.{PostfixOperator}
use Rattle.om_parser_tree.specs.declared.tree.PostfixOperator.TheVariants as postfixes
use Rattle.om_parser_tree.specs.declared.tree.PrefixOperator.{PrefixOperator}
use Rattle.om_parser_tree.specs.declared.tree.PrefixOperator.TheVariants as prefixes
use Rattle.om_parser_tree.specs.declared.tree.ResultType.{ResultType}
use Rattle.om_parser_tree.specs.declared.tree.ResultType.TheVariants as results
use Rattle.om_parser_tree.specs.declared.tree.SignedNumber.{SignedNumber}
use Rattle.om_parser_tree.specs.declared.tree.Text as texts
use Rattle.om_parser_tree.specs.Tree.{ExpressionTree, Name, Constant, Text, Paren, Index, Call, Prefix, Postfix, Binary}
use Rattle.om_parser_tree.specs.Tree.{Conditional, Assign, ArgumentsTree, NoArguments, Argument, InitializerTree}
use Rattle.om_parser_tree.specs.Tree.{DeclaratorTree, DeclarationTree, ConditionTree, ForStartTree, Nothing, StartExpression}
use Rattle.om_parser_tree.specs.Tree.{StartDeclaration, ForHeadTree, StatementTree, LocalDeclaration, Block, Empty, Expression}
use Rattle.om_parser_tree.specs.Tree.{If, IfElse, While, Do, For, Return, Break, Continue, Construct, StandAlone, Sections}
use Rattle.om_parser_tree.specs.Tree.{PartsTree, NoParts, Part, StatementsTree, NoStatements, Statement, BlockTree}
use Rattle.om_parser_tree.specs.Tree.{ParametersTree, PartTree}
use Rattle.om_parser_tree.specs.Tree.{NoParameters, Void, Listed, HeadTree, ItemTree, Declaration, Prototype, Function}
use Rattle.om_parser_tree.specs.Tree.{UnitTree}
-- punctuators, names and constants are spelled as in directives
pub use Rattle.om_pragma.specs.Spelling.{token, mark, name, number}

-- a keyword (C17 6.4.1)
abbrev pub word : Keyword → Span → Token
word k s = token (kinds.Keyword k) s

-- a text (C17 6.4.5)
abbrev pub text : texts.Text → Token
text t = token (kinds.Text t.value) t.span

-- the punctuator of an operator before its operand
abbrev pub prefix_mark : PrefixOperator → Punctuator
prefix_mark prefixes.Plus = punctuators.Plus
prefix_mark prefixes.Minus = punctuators.Minus
prefix_mark prefixes.Not = punctuators.Bang
prefix_mark prefixes.Increment = punctuators.PlusPlus
prefix_mark prefixes.Decrement = punctuators.MinusMinus

-- the punctuator of an operator behind its operand
abbrev pub postfix_mark : PostfixOperator → Punctuator
postfix_mark postfixes.Increment = punctuators.PlusPlus
postfix_mark postfixes.Decrement = punctuators.MinusMinus

-- the punctuator of a binary operator
abbrev pub binary_mark : BinaryOperator → Punctuator
binary_mark binaries.Or = punctuators.OrOr
binary_mark binaries.And = punctuators.AndAnd
binary_mark binaries.Equal = punctuators.EqualEqual
binary_mark binaries.NotEqual = punctuators.BangEqual
binary_mark binaries.Less = punctuators.Less
binary_mark binaries.Greater = punctuators.Greater
binary_mark binaries.LessEqual = punctuators.LessEqual
binary_mark binaries.GreaterEqual = punctuators.GreaterEqual
binary_mark binaries.Add = punctuators.Plus
binary_mark binaries.Subtract = punctuators.Minus
binary_mark binaries.Multiply = punctuators.Star
binary_mark binaries.Divide = punctuators.Slash
binary_mark binaries.Remainder = punctuators.Percent

-- the punctuator of an assignment
abbrev pub assign_mark : AssignOperator → Punctuator
assign_mark assigns.Set = punctuators.Equal
assign_mark assigns.Add = punctuators.PlusEqual
assign_mark assigns.Subtract = punctuators.MinusEqual
assign_mark assigns.Multiply = punctuators.StarEqual
assign_mark assigns.Divide = punctuators.SlashEqual
assign_mark assigns.Remainder = punctuators.PercentEqual

-- a part that may be left out
abbrev pub perhaps : {A : Type 0} → (A → List Token) → Option A → List Token
perhaps f (Some x) = f x
perhaps f None = []

-- a part behind its comma
abbrev pub behind_comma : {A : Type 0} → (A → List Token) → Span × A → List Token
behind_comma f x = mark punctuators.Comma x.0 ∷ f x.1

unfoldable mutual
  -- C17 6.5
  pub expression_spelling : ExpressionTree → List Token
  expression_spelling (Name n) = name n ∷ []
  expression_spelling (Constant n) = number n ∷ []
  expression_spelling (Text t) = text t ∷ []
  expression_spelling (Paren left e right) = mark punctuators.OpenParen left
      ∷ (expression_spelling e ++ mark punctuators.CloseParen right ∷ [])
  expression_spelling (Index n left e right) = name n ∷ mark punctuators.OpenBracket left
      ∷ (expression_spelling e ++ mark punctuators.CloseBracket right ∷ [])
  expression_spelling (Call n left values right) = name n ∷ mark punctuators.OpenParen left
      ∷ (arguments_spelling values ++ mark punctuators.CloseParen right ∷ [])
  expression_spelling (Prefix o at e) = mark (prefix_mark o) at ∷ expression_spelling e
  expression_spelling (Postfix e o at) = expression_spelling e ++ mark (postfix_mark o) at ∷ []
  expression_spelling (Binary a o at b) = expression_spelling a ++ mark (binary_mark o) at ∷ expression_spelling b
  expression_spelling (Conditional c question a colon b) = expression_spelling c ++ mark punctuators.Question
      question ∷ (expression_spelling a ++ mark punctuators.Colon colon ∷ expression_spelling b)
  expression_spelling (Assign a o at b) = expression_spelling a ++ mark (assign_mark o) at ∷ expression_spelling b

  -- C17 6.5.2.2
  pub arguments_spelling : ArgumentsTree → List Token
  arguments_spelling NoArguments = []
  arguments_spelling (Argument comma e rest) = perhaps (λ at. mark punctuators.Comma at ∷ []) comma
      ++ expression_spelling e ++ arguments_spelling rest

-- a number, perhaps behind a minus (C17 6.6)
abbrev pub signed_spelling : SignedNumber → List Token
signed_spelling s = perhaps (λ at. mark punctuators.Minus at ∷ []) s.minus ++ number s.number ∷ []

-- C17 6.7.9; the value has this spelling
unfoldable pub initializer_spelling : {I : Type 0} → (spell : I → List Token) → InitializerTree I → List Token
initializer_spelling spell i = mark punctuators.Equal i.equal ∷ spell i.value

-- the length of an array in its brackets
abbrev pub array_spelling : ArrayLength → List Token
array_spelling a = mark punctuators.OpenBracket a.open_bracket ∷ number a.size ∷ mark punctuators.CloseBracket
    a.close_bracket ∷ []

-- C17 6.7.6
unfoldable pub declarator_spelling : {I : Type 0} → (spell : I → List Token) → DeclaratorTree I → List Token
declarator_spelling spell d = name d.name ∷ (perhaps array_spelling d.array
    ++ perhaps (initializer_spelling spell) d.initializer)

-- a declarator behind its comma
unfoldable pub further_spelling : {I : Type 0} → (spell : I → List Token) → Span × DeclaratorTree I → List Token
further_spelling spell = behind_comma (declarator_spelling spell)

-- C17 6.7
unfoldable pub declaration_spelling : {I : Type 0} → (spell : I → List Token) → DeclarationTree I → List Token
declaration_spelling spell d = word keywords.Int d.int ∷ (declarator_spelling spell d.first
    ++ flat_map (further_spelling spell) d.rest ++ mark punctuators.Semicolon d.semicolon ∷ [])

-- in a block or a `for`
abbrev pub local_spelling : DeclarationTree ExpressionTree → List Token
local_spelling = declaration_spelling expression_spelling

-- at file scope
abbrev pub global_spelling : DeclarationTree SignedNumber → List Token
global_spelling = declaration_spelling signed_spelling

-- an expression in parentheses
unfoldable pub condition_spelling : ConditionTree → List Token
condition_spelling c = mark punctuators.OpenParen c.open_paren
    ∷ (expression_spelling c.value ++ mark punctuators.CloseParen c.close_paren ∷ [])

-- C17 6.8.5.3
unfoldable pub for_start_spelling : ForStartTree → List Token
for_start_spelling (Nothing semicolon) = mark punctuators.Semicolon semicolon ∷ []
for_start_spelling (StartExpression e semicolon) = expression_spelling e ++ mark punctuators.Semicolon semicolon ∷ []
for_start_spelling (StartDeclaration d) = local_spelling d

-- C17 6.8.5.3
unfoldable pub for_head_spelling : ForHeadTree → List Token
for_head_spelling h =
    word keywords.For h.word ∷ mark punctuators.OpenParen h.open_paren
    ∷ (for_start_spelling h.start ++ perhaps expression_spelling h.condition ++ mark punctuators.Semicolon h.semicolon
    ∷ (perhaps expression_spelling h.step ++ mark punctuators.CloseParen h.close_paren ∷ []))

-- a `section`, if there is one (OpenMP API 5.2, section 11.3.1)
abbrev pub section_spelling : Option (Directive ExpressionTree) → List Token
section_spelling = perhaps (directive_spelling expression_spelling)

unfoldable mutual
  -- C17 6.8
  pub statement_spelling : StatementTree → List Token
  statement_spelling (LocalDeclaration d) = local_spelling d
  statement_spelling (Block left items right) = mark punctuators.OpenBrace left
      ∷ (statements_spelling items ++ mark punctuators.CloseBrace right ∷ [])
  statement_spelling (Empty semicolon) = mark punctuators.Semicolon semicolon ∷ []
  statement_spelling (Expression e semicolon) = expression_spelling e ++ mark punctuators.Semicolon semicolon ∷ []
  statement_spelling (If at c s) = word keywords.If at ∷ (condition_spelling c ++ statement_spelling s)
  statement_spelling (IfElse at c s other t) = word keywords.If at ∷ (condition_spelling c ++ statement_spelling s
      ++ word keywords.Else other ∷ statement_spelling t)
  statement_spelling (While at c s) = word keywords.While at ∷ (condition_spelling c ++ statement_spelling s)
  statement_spelling (Do at s again c semicolon) = word keywords.Do at
      ∷ (statement_spelling s ++ word keywords.While again ∷ (condition_spelling c ++ mark punctuators.Semicolon
      semicolon ∷ []))
  statement_spelling (For h s) = for_head_spelling h ++ statement_spelling s
  statement_spelling (Return at value semicolon) = word keywords.Return at ∷ (perhaps expression_spelling value
      ++ mark punctuators.Semicolon semicolon ∷ [])
  statement_spelling (Break at semicolon) = word keywords.Break at ∷ mark punctuators.Semicolon semicolon ∷ []
  statement_spelling (Continue at semicolon) = word keywords.Continue at ∷ mark punctuators.Semicolon semicolon ∷ []
  statement_spelling (Construct d s) = directive_spelling expression_spelling d ++ statement_spelling s
  statement_spelling (StandAlone d) = directive_spelling expression_spelling d
  statement_spelling (Sections d left parts right) = directive_spelling expression_spelling d
      ++ mark punctuators.OpenBrace left ∷ (parts_spelling parts ++ mark punctuators.CloseBrace right ∷ [])

  -- several of them
  pub statements_spelling : StatementsTree → List Token
  statements_spelling NoStatements = []
  statements_spelling (Statement s rest) = statement_spelling s ++ statements_spelling rest

  -- the parts of `sections` (OpenMP API 5.2, section 11.3)
  pub parts_spelling : PartsTree → List Token
  parts_spelling NoParts = []
  parts_spelling (Part section items rest) = (section_spelling section ++ statements_spelling items)
      ++ parts_spelling rest

-- one of them
abbrev pub part_spelling : PartTree → List Token
part_spelling p = section_spelling p.section ++ statements_spelling p.items

-- C17 6.8.2
unfoldable pub block_spelling : BlockTree → List Token
block_spelling b = mark punctuators.OpenBrace b.open_brace ∷ (flat_map statement_spelling b.items
    ++ mark punctuators.CloseBrace b.close_brace ∷ [])

-- the word of a function's result
abbrev pub result_spelling : ResultType → Token
result_spelling (results.Int at) = word keywords.Int at
result_spelling (results.Void at) = word keywords.Void at

-- the name of a parameter in a definition
abbrev pub given_name : names.Name → List Token
given_name n = name n ∷ []

-- C17 6.7.6.3; its name has this spelling
abbrev pub parameter_spelling : {N : Type 0} → (spell : N → List Token) → Parameter N → List Token
parameter_spelling spell p = word keywords.Int p.int ∷ spell p.name

-- C17 6.7.6.3
unfoldable pub parameters_spelling : {N : Type 0} → (spell : N → List Token) → ParametersTree N → List Token
parameters_spelling spell NoParameters = []
parameters_spelling spell (Void at) = word keywords.Void at ∷ []
parameters_spelling spell (Listed first rest) = parameter_spelling spell first
    ++ flat_map (behind_comma (parameter_spelling spell)) rest

-- C17 6.7.6.3
unfoldable pub head_spelling : {N : Type 0} → (spell : N → List Token) → HeadTree N → List Token
head_spelling spell h = result_spelling h.result ∷ name h.name ∷ mark punctuators.OpenParen h.open_paren
    ∷ (parameters_spelling spell h.parameters ++ mark punctuators.CloseParen h.close_paren ∷ [])

-- the head of a definition, and that of a prototype
abbrev pub definition_spelling : HeadTree names.Name → List Token
definition_spelling = head_spelling given_name

abbrev pub prototype_spelling : HeadTree (Option names.Name) → List Token
prototype_spelling = head_spelling (perhaps given_name)

-- C17 6.9
unfoldable pub item_spelling : ItemTree → List Token
item_spelling (Declaration d) = global_spelling d
item_spelling (Prototype h semicolon) = prototype_spelling h ++ mark punctuators.Semicolon semicolon ∷ []
item_spelling (Function f) = definition_spelling f.head ++ block_spelling f.body

-- all tokens of a source (C17 6.9), its end last
unfoldable pub unit_spelling : UnitTree → List Token
unit_spelling u = flat_map item_spelling u.items ++ token kinds.End u.end ∷ []
