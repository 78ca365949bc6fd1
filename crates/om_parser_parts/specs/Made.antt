-- For proofs: what the code makes, as trees, and the readers that its budgets name. What is read or made is so unless
-- memory ran out; a refusal that reading gives is then the answer, and nothing else is.
use Rattle.std.specs.Prelude.{◌≡◌, ℕ, ◌-◌, ◌⊎◌, Bool, Err, IfOk, List, None, Option, Result, Some, Vec, true, false}
use Rattle.std.specs.Prelude.{length, map, option_map}
use Rattle.std.specs.Global.{Box}
use Rattle.std.specs.declared.alloc.AllocError.{AllocError}
use Rattle.std.specs.declared.alloc.Global.{Global}
use denote.Ref.{Bor}
use Rattle.om_lexer.specs.Faults.{no_memory}
use Rattle.om_lexer.specs.declared.fault.SourceFault.{SourceFault}
use Rattle.om_lexer.specs.declared.token.Span.{Span}
use Rattle.om_lexer.specs.declared.token.Token.{Token}
use Rattle.om_pragma.specs.declared.clause.Name as names
use Rattle.om_pragma.specs.declared.tree.Directive.{Directive}
use Rattle.om_parser_parts.specs.declared.expression.Budget.{Budget}
use Rattle.om_parser_parts.specs.ExpressionReading.{Inside, arguments_at, behind, binary_at, binary_more, call_after, chain_at}
use Rattle.om_parser_parts.specs.ExpressionReading.{conditional_after, deeper, expression_after, expression_at, first_at}
use Rattle.om_parser_parts.specs.ExpressionReading.{named_after, operand_at, postfix_at, postfix_more}
use Rattle.om_parser_parts.specs.Reading.{Makes, Outcome, Reader, Reads}
use Rattle.om_parser_tree.specs.declared.tree.ArrayLength.{ArrayLength}
use Rattle.om_parser_tree.specs.declared.tree.Declaration.{Declaration}
use Rattle.om_parser_tree.specs.declared.tree.Declarator.{Declarator}
use Rattle.om_parser_tree.specs.declared.tree.Expression.{Expression}
use Rattle.om_parser_tree.specs.declared.tree.PrefixOperator.{PrefixOperator}
use Rattle.om_parser_tree.specs.declared.tree.Text as texts
use Rattle.om_parser_tree.specs.Tree.{DeclarationTree, DeclaratorTree, ExpressionTree}
use Rattle.om_parser_tree.specs.View.{view_declaration, view_declarator, view_directive, view_expression}

-- ---- what stands first, and the tokens behind it

-- what was returned is the item that reading gives, seen so, and the tokens behind it
abbrev pub ReadsOne : {A T : Type 0} → (A → T) → Result (A × Bor (List Token)) SourceFault → Outcome (T × List Token)
    → Type 0
ReadsOne view = Reads (λ x. (view x.0, x.1.now))

-- the same of an item in a box
abbrev pub ReadsBoxed : {A T : Type 0} → (A → T) → Result (Box A × Bor (List Token)) SourceFault
    → Outcome (T × List Token) → Type 0
ReadsBoxed view = Reads (λ x. (view x.0.value, x.1.now))

-- the same of several items, each seen so
abbrev pub ReadsEach : {A T : Type 0} → (A → T) → Result (Vec A Global × Bor (List Token)) SourceFault
    → Outcome (List T × List Token) → Type 0
ReadsEach view = Reads (λ x. (map view x.0.items, x.1.now))

-- the same of several items and the span of the mark that ends them
abbrev pub ReadsUntil : {A T : Type 0} → (A → T) → Result (Vec A Global × Span × Bor (List Token)) SourceFault
    → Outcome (List T × Span × List Token) → Type 0
ReadsUntil view = Reads (λ x. (map view x.0.items, x.1, x.2.now))

-- ---- declarations (C17 6.7), whose variables hold at the start what is seen so

-- what was returned is the declaration that reading gives
abbrev pub ReadsDeclared : {I T : Type 0} → (I → T) → Result (Declaration I × Bor (List Token)) SourceFault
    → Outcome (DeclarationTree T × List Token) → Type 0
ReadsDeclared view = ReadsOne (view_declaration view)

-- what was returned is the declarator that reading gives
abbrev pub ReadsDeclarator : {I T : Type 0} → (I → T) → Result (Box (Declarator I) × Bor (List Token)) SourceFault
    → Outcome (DeclaratorTree T × List Token) → Type 0
ReadsDeclarator view = ReadsBoxed (view_declarator view)

-- what was returned is this declarator, unless memory ran out
abbrev pub MakesDeclarator : {I T : Type 0} → (I → T) → Result (Box (Declarator I) × Bor (List Token)) SourceFault
    → DeclaratorTree T → List Token → Type 0
MakesDeclarator view = Makes (λ x. (view_declarator view x.0.value, x.1.now))

-- what was returned is the declarator of this name, perhaps with brackets, without an initializer, unless memory ran out
abbrev pub MakesUninitialized : {I T : Type 0} → (I → T) → Result (Box (Declarator I) × Bor (List Token)) SourceFault
    → names.Name → Option ArrayLength → List Token → Type 0
MakesUninitialized view result name array rest = MakesDeclarator view result
    (record { name = name; array = array; initializer = None }) rest

-- what was returned is the comma and the declarator that reading gives
abbrev pub ReadsFurther : {I T : Type 0} → (I → T)
    → Result (Span × Box (Declarator I) × Bor (List Token)) SourceFault
    → Outcome ((Span × DeclaratorTree T) × List Token) → Type 0
ReadsFurther view = Reads (λ x. ((x.0, view_declarator view x.1.value), x.2.now))

-- ---- directives

-- what was returned is the directive that reading gives
abbrev pub ReadsDirective : Result (Directive Expression) SourceFault → Outcome (Directive ExpressionTree) → Type 0
ReadsDirective = Reads view_directive

-- ---- expressions

-- an expression out of its box, as operands, arguments and values of clauses stand in one
abbrev pub view_operand : Box Expression → ExpressionTree
view_operand expression = view_expression expression.value

-- what was returned is the expression that reading gives
abbrev pub ReadsExpression : Result (Box Expression × Bor (List Token)) SourceFault
    → Outcome (ExpressionTree × List Token) → Type 0
ReadsExpression = Reads (λ x. (view_expression x.0.value, x.1.now))

-- what was returned is this expression, unless memory ran out
abbrev pub MakesExpression : Result (Box Expression × Bor (List Token)) SourceFault → ExpressionTree → List Token
    → Type 0
MakesExpression = Makes (λ x. (view_expression x.0.value, x.1.now))

-- what was returned is a box with this expression, unless memory ran out
abbrev pub MakesBoxed : Result (Box Expression) AllocError → ExpressionTree → Type 0
MakesBoxed result expression = IfOk result (λ made. view_expression made.value ≡ expression)

-- what was returned is the expression in a bracket and the mark that closes it, as reading gives them
abbrev pub ReadsClosed : Result (Box Expression × Span × Bor (List Token)) SourceFault
    → Outcome ((ExpressionTree × Span) × List Token) → Type 0
ReadsClosed = Reads (λ x. ((view_expression x.0.value, x.1), x.2.now))

-- what was returned is the comma and the argument that reading gives (C17 6.5.2.2)
abbrev pub ReadsArgument : Result (Span × Box Expression × Bor (List Token)) SourceFault
    → Outcome ((Option Span × ExpressionTree) × List Token) → Type 0
ReadsArgument = Reads (λ x. ((Some x.0, view_expression x.1.value), x.2.now))

-- With room for any number of brackets, reading an operand takes these operators, and goes on behind them with the
-- turns that are left.
abbrev pub ArePrefixes : (beyond turns : ℕ) → List Token → Vec (PrefixOperator × Span) Global × ℕ × Bor (List Token)
    → Type 0
ArePrefixes beyond turns ts x = (room : ℕ) → operand_at beyond turns room ts
    ≡ behind x.0.items (postfix_at beyond x.1 room x.2.now)

-- Memory ran out, or with room for any number of brackets, reading an operand stops with this fault.
abbrev pub StopsOperand : (beyond turns : ℕ) → List Token → SourceFault → Type 0
StopsOperand beyond turns ts fault = (fault ≡ no_memory)
    ⊎ ((room : ℕ) → operand_at beyond turns room ts ≡ Err fault)

-- what was returned is the operator that is taken
abbrev pub Takes : {O : Type 0} → Option (O × Span × Bor (List Token)) → Option ((O × Span) × List Token) → Type 0
Takes found taken = option_map (λ x. ((x.0, x.1), x.2.now)) found ≡ taken

-- what was found is the text that is taken, and the tokens behind it
abbrev pub TakesText : Option (texts.Text × Bor (List Token)) → Option (texts.Text × List Token) → Type 0
TakesText found taken = option_map (λ x. (x.0, x.1.now)) found ≡ taken

-- ---- the readers within a budget

-- an expression, or one that is no assignment, within this budget
abbrev pub expression_in : Budget → (may_assign : Bool) → Reader ExpressionTree
expression_in b may_assign = expression_at b.beyond b.turns may_assign b.room

-- an expression within this budget, and one that is no assignment
abbrev pub whole_in : Budget → Reader ExpressionTree
whole_in b = expression_in b true

abbrev pub choice_in : Budget → Reader ExpressionTree
choice_in b = expression_in b false

-- what may stand in a bracket within this budget
abbrev pub inside_in : Budget → Inside
inside_in b = deeper (expression_at b.beyond b.turns true) b.room

-- an operand with the operators round it, within this budget
abbrev pub operand_in : Budget → Reader ExpressionTree
operand_in b = operand_at b.beyond b.turns b.room

-- an operand with the operators behind it, within this budget
abbrev pub postfix_in : Budget → Reader ExpressionTree
postfix_in b = postfix_at b.beyond b.turns b.room

-- operands with the operators of so many levels between them, within this budget
abbrev pub operands_in : Budget → (levels : ℕ) → Reader ExpressionTree
operands_in b = binary_at b.beyond (operand_in b)

-- this operand, and what goes on with it in the level that is next looser than so many
abbrev pub operators_in : Budget → (tighter : ℕ) → Box Expression → Reader ExpressionTree
operators_in b tighter operand ts = chain_at (binary_more b.beyond (8 - tighter) (operands_in b tighter)) (length ts)
    (view_operand operand) ts

-- this operand, and the operators that stand behind it
abbrev pub postfixes_behind : (beyond : ℕ) → Box Expression → Reader ExpressionTree
postfixes_behind beyond operand ts = chain_at (postfix_more beyond) (length ts) (view_operand operand) ts

-- the rest of an expression, or of one that is no assignment, behind its first operand
abbrev pub rest_in : Budget → (may_assign : Bool) → Box Expression → Reader ExpressionTree
rest_in b may_assign left = expression_after b.beyond may_assign (whole_in b) (choice_in b) (view_operand left)

-- the rest of a conditional expression behind its question mark (C17 6.5.15)
abbrev pub conditional_in : Budget → Box Expression → Span → Reader ExpressionTree
conditional_in b condition = conditional_after b.beyond (whole_in b) (choice_in b) (view_operand condition)

-- what begins with this name, behind it
abbrev pub named_in : Budget → names.Name → Reader ExpressionTree
named_in b = named_after b.beyond (inside_in b)

-- the rest of a call behind its left parenthesis (C17 6.5.2.2)
abbrev pub call_in : Budget → names.Name → Span → Reader ExpressionTree
call_in b = call_after b.beyond (whole_in b)

-- the first argument of a call of this function
abbrev pub first_in : Budget → names.Name → Reader ExpressionTree
first_in b = first_at b.beyond (whole_in b)

-- the arguments of a call, of which the first is read, and the parenthesis behind them
abbrev pub arguments_in : Budget → Box Expression → List Token
    → Outcome (List (Option Span × ExpressionTree) × Span × List Token)
arguments_in b first = arguments_at b.beyond (whole_in b) (view_operand first)
