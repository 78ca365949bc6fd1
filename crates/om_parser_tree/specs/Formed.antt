-- Which trees are well-formed: the grammar beyond the order of tokens.
use Rattle.std.specs.Prelude.{◌≡◌, ℕ, ◌<◌, ◌≤◌, ◌⊎◌, Option, Some, None, All, Bool, true, false, codes}
use Rattle.om_pragma.specs.declared.clause.Name as names
use Rattle.om_pragma.specs.declared.tree.Directive.{Directive}
use Rattle.om_pragma.specs.declared.tree.DirectiveName.{DirectiveName}
use Rattle.om_pragma.specs.Questions.{is_stand_alone, is_section, is_sections}
use Rattle.om_pragma.specs.Table.{IsDirective}
use Rattle.om_parser_tree.specs.declared.tree.ArrayLength.{ArrayLength}
use Rattle.om_parser_tree.specs.declared.tree.BinaryOperator.{BinaryOperator}
use Rattle.om_parser_tree.specs.declared.tree.BinaryOperator.TheVariants as binaries
use Rattle.om_parser_tree.specs.declared.tree.SignedNumber.{SignedNumber}
use Rattle.om_parser_tree.specs.Tree.{ExpressionTree, Name, Constant, Text, Paren, Index, Call, Prefix, Postfix, Binary}
use Rattle.om_parser_tree.specs.Tree.{Conditional, Assign, ArgumentsTree, NoArguments, Argument, InitializerTree}
use Rattle.om_parser_tree.specs.Tree.{DeclaratorTree, DeclarationTree, StatementTree, Expression, Return}
use Rattle.om_parser_tree.specs.Tree.{FunctionTree, ItemTree, Declaration, Prototype, Function}
use Rattle.om_parser_tree.specs.Tree.{UnitTree, ForStartTree, Nothing, StartExpression, StartDeclaration, ForHeadTree}
use Rattle.om_parser_tree.specs.Tree.{StatementsTree, LocalDeclaration, Block, Empty, If, IfElse, While, Do, For, Break}
use Rattle.om_parser_tree.specs.Tree.{Continue, Construct, StandAlone, Sections, NoStatements, Statement, statements}
use Rattle.om_parser_tree.specs.Tree.{PartsTree, NoParts, Part}

-- levels of precedence, the loosest first: 1 assignment (C17 6.5.16), 2 conditional (6.5.15), 3 and 4 logical
-- (6.5.14, 6.5.13), 5 equality (6.5.9), 6 relational (6.5.8), 7 additive (6.5.6), 8 multiplicative (6.5.5), 9 unary
-- (6.5.3), 10 postfix (6.5.2), 11 primary, indexed or called (6.5.1, 6.5.2)
abbrev pub binary_level : BinaryOperator → ℕ
binary_level binaries.Or = 3
binary_level binaries.And = 4
binary_level binaries.Equal = 5
binary_level binaries.NotEqual = 5
binary_level binaries.Less = 6
binary_level binaries.Greater = 6
binary_level binaries.LessEqual = 6
binary_level binaries.GreaterEqual = 6
binary_level binaries.Add = 7
binary_level binaries.Subtract = 7
binary_level binaries.Multiply = 8
binary_level binaries.Divide = 8
binary_level binaries.Remainder = 8

-- how tightly the outermost operator of an expression binds
abbrev pub level : ExpressionTree → ℕ
level (Name n) = 11
level (Constant n) = 11
level (Text t) = 11
level (Paren left e right) = 11
level (Index n left e right) = 11
level (Call n left values right) = 11
level (Prefix o at e) = 9
level (Postfix e o at) = 10
level (Binary a o at b) = binary_level o
level (Conditional c question a colon b) = 2
level (Assign a o at b) = 1

-- a text, which alone `printf` takes
abbrev pub IsTextOf : names.Name → ExpressionTree → Type 0
IsTextOf n (Text t) = n.text ≡ codes "printf"
IsTextOf n _ = ⊥

unfoldable mutual
  -- Each operand binds as tightly as its place asks: a binary operator takes its left operand first, an assignment and
  -- a conditional expression their right one. What is assigned to is a unary expression.
  pub IsExpression : ExpressionTree → Type 0
  IsExpression (Name n) = Unit {0}
  IsExpression (Constant n) = Unit {0}
  IsExpression (Text t) = ⊥
  IsExpression (Paren left e right) = IsExpression e
  IsExpression (Index n left e right) = IsExpression e
  IsExpression (Call n left values right) = AreArguments n values
  IsExpression (Prefix o at e) = IsExpression e × (9 ≤ level e)
  IsExpression (Postfix e o at) = IsExpression e × (10 ≤ level e)
  IsExpression (Binary a o at b) = IsExpression a × IsExpression b × (binary_level o ≤ level a)
      × (binary_level o < level b)
  IsExpression (Conditional c question a colon b) = IsExpression c × IsExpression a × IsExpression b × (3 ≤ level c)
      × (2 ≤ level b)
  IsExpression (Assign a o at b) = IsExpression a × IsExpression b × (9 ≤ level a)

  -- the arguments of a call of this function: commas stand between them
  pub AreArguments : names.Name → ArgumentsTree → Type 0
  AreArguments n NoArguments = Unit {0}
  AreArguments n (Argument None e rest) = (IsExpression e ⊎ IsTextOf n e) × AreFurther rest
  AreArguments n (Argument (Some comma) e rest) = ⊥

  -- those behind the first
  pub AreFurther : ArgumentsTree → Type 0
  AreFurther NoArguments = Unit {0}
  AreFurther (Argument None e rest) = ⊥
  AreFurther (Argument (Some comma) e rest) = IsExpression e × AreFurther rest

-- an array has no initializer, and another variable perhaps one that may stand there (C17 6.7.9)
unfoldable pub IsDeclarator : {I : Type 0} → (Admitted : I → Type 0) → DeclaratorTree I → Type 0
IsDeclarator {I} Admitted d = starts d.array d.initializer
  where
    starts : Option ArrayLength → Option (InitializerTree I) → Type 0
    starts a None = Unit {0}
    starts None (Some i) = Admitted i.value
    starts (Some a) (Some i) = ⊥

-- each declarator of a declaration is one
unfoldable pub IsDeclaration : {I : Type 0} → (Admitted : I → Type 0) → DeclarationTree I → Type 0
IsDeclaration Admitted d = IsDeclarator Admitted d.first × All (λ further. IsDeclarator Admitted further.1) d.rest

-- a global may start with any number
abbrev pub IsGlobalDeclaration : DeclarationTree SignedNumber → Type 0
IsGlobalDeclaration = IsDeclaration (λ number. Unit {0})

-- a variable of a block starts with the value of an expression
abbrev pub IsLocalDeclaration : DeclarationTree ExpressionTree → Type 0
IsLocalDeclaration = IsDeclaration IsExpression

-- ---- statements

-- a directive as the table has it, whose expression is one by the grammar
abbrev pub IsLine : Directive ExpressionTree → Type 0
IsLine = IsDirective IsExpression

-- an expression that may be left out
abbrev pub IsOptional : Option ExpressionTree → Type 0
IsOptional None = Unit {0}
IsOptional (Some e) = IsExpression e

-- what a `for` begins with
abbrev pub IsForStart : ForStartTree → Type 0
IsForStart (Nothing semicolon) = Unit {0}
IsForStart (StartExpression e semicolon) = IsExpression e
IsForStart (StartDeclaration d) = IsLocalDeclaration d

-- a `for` up to its closing parenthesis
unfoldable pub IsForHead : ForHeadTree → Type 0
IsForHead h = IsForStart h.start × IsOptional h.condition × IsOptional h.step

-- an `if` without `else` stands last in it, so that an `else` behind it would be that one's
abbrev pub ends_open : StatementTree → Bool
ends_open (If at c s) = true
ends_open (IfElse at c s other t) = ends_open t
ends_open (While at c s) = ends_open s
ends_open (For h s) = ends_open s
ends_open (Construct d s) = ends_open s
ends_open _ = false

-- it may be a part of another statement, where neither a declaration nor a directive alone may stand
abbrev pub IsBody : StatementTree → Type 0
IsBody (LocalDeclaration d) = ⊥
IsBody (StandAlone d) = ⊥
IsBody _ = Unit {0}

-- it may be an item of a part of `sections`, where no declaration may stand
abbrev pub IsPartItem : StatementTree → Type 0
IsPartItem (LocalDeclaration d) = ⊥
IsPartItem _ = Unit {0}

-- ---- directives

-- a directive that is for one statement behind it
abbrev pub IsConstruct : DirectiveName → Type 0
IsConstruct name = (is_stand_alone name ≡ false) × (is_section name ≡ false) × (is_sections name ≡ false)

-- one at least
abbrev pub AreSome : StatementsTree → Type 0
AreSome NoStatements = ⊥
AreSome (Statement s rest) = Unit {0}

-- a `section`, which stands there
abbrev pub IsSection : Option (Directive ExpressionTree) → Type 0
IsSection None = ⊥
IsSection (Some d) = IsLine d × (is_section d.name ≡ true)

-- the same, where it may be left out
abbrev pub IsOptionalSection : Option (Directive ExpressionTree) → Type 0
IsOptionalSection None = Unit {0}
IsOptionalSection (Some d) = IsLine d × (is_section d.name ≡ true)

unfoldable mutual
  -- a statement, or a declaration in a block (C17 6.8)
  pub IsStatement : StatementTree → Type 0
  IsStatement (LocalDeclaration d) = IsLocalDeclaration d
  IsStatement (Block left items right) = AreStatements items
  IsStatement (Empty semicolon) = Unit {0}
  IsStatement (Expression e semicolon) = IsExpression e
  IsStatement (If at c s) = IsExpression c.value × IsStatement s × IsBody s
  IsStatement (IfElse at c s other t) = IsExpression c.value × IsStatement s × IsBody s × (ends_open s ≡ false)
      × IsStatement t × IsBody t
  IsStatement (While at c s) = IsExpression c.value × IsStatement s × IsBody s
  IsStatement (Do at s again c semicolon) = IsExpression c.value × IsStatement s × IsBody s
  IsStatement (For h s) = IsForHead h × IsStatement s × IsBody s
  IsStatement (Return at value semicolon) = IsOptional value
  IsStatement (Break at semicolon) = Unit {0}
  IsStatement (Continue at semicolon) = Unit {0}
  IsStatement (Construct d s) = IsLine d × IsConstruct d.name × IsStatement s × IsBody s
  IsStatement (StandAlone d) = IsLine d × (is_stand_alone d.name ≡ true)
  IsStatement (Sections d left parts right) = IsLine d × (is_sections d.name ≡ true) × AreParts parts

  pub AreStatements : StatementsTree → Type 0
  AreStatements NoStatements = Unit {0}
  AreStatements (Statement s rest) = IsStatement s × AreStatements rest

  -- the parts of `sections` (OpenMP API 5.2, sections 11.3 and 11.3.1): each begins with `section`, which the first
  -- may lack. That there is one at least, and an item in each, is an own choice.
  pub AreParts : PartsTree → Type 0
  AreParts NoParts = ⊥
  AreParts (Part section items rest) = IsOptionalSection section × AreSome items × ArePartItems items
      × AreFurtherParts rest

  -- those behind the first
  pub AreFurtherParts : PartsTree → Type 0
  AreFurtherParts NoParts = Unit {0}
  AreFurtherParts (Part section items rest) = IsSection section × AreSome items × ArePartItems items
      × AreFurtherParts rest

  -- the items of a part
  pub ArePartItems : StatementsTree → Type 0
  ArePartItems NoStatements = Unit {0}
  ArePartItems (Statement s rest) = IsStatement s × IsPartItem s × ArePartItems rest

-- the definition of a function (C17 6.9.1)
unfoldable pub IsFunction : FunctionTree → Type 0
IsFunction f = AreStatements (statements f.body.items)

-- what may stand at file scope
unfoldable pub IsItem : ItemTree → Type 0
IsItem (Declaration d) = IsGlobalDeclaration d
IsItem (Prototype h semicolon) = Unit {0}
IsItem (Function f) = IsFunction f

-- a whole source (C17 6.9)
unfoldable pub IsUnit : UnitTree → Type 0
IsUnit u = All IsItem u.items
