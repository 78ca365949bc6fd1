-- How large the statements of an accepted source are, and which forms its `atomic`s have.
use Rattle.std.specs.Prelude.{◌≡◌, ℕ, ◌+◌, ◌≤◌, max, List, [], ◌∷◌, length, Option, Some, None, All, Bool, true, false}
use Rattle.std.specs.Prelude.{not, ◌||◌}
use Rattle.om_pragma.specs.declared.tree.Directive.{Directive}
use Rattle.om_pragma.specs.Expressions.{expressions}
use Rattle.om_pragma.specs.Questions.{is_atomic, atomic_kind}
use Rattle.om_parser_tree.specs.AtomicForms.{has_atomic_form}
use Rattle.om_parser_tree.specs.Limits.{Limits, accepted, nesting, expressions_of_declaration}
use Rattle.om_parser_tree.specs.Spelling.{expression_spelling}
use Rattle.om_parser_tree.specs.Tree.{ExpressionTree, DeclarationTree, ForStartTree, Nothing, StartExpression}
use Rattle.om_parser_tree.specs.Tree.{StartDeclaration, StatementTree, StatementsTree, LocalDeclaration, Block, Empty}
use Rattle.om_parser_tree.specs.Tree.{Expression, If, IfElse, While, Do, For, Return, Break, Continue, Construct, StandAlone}
use Rattle.om_parser_tree.specs.Tree.{Sections, NoStatements, Statement, statements, BlockTree, ItemTree, Declaration}
use Rattle.om_parser_tree.specs.Tree.{Prototype, Function, UnitTree, PartsTree, NoParts, Part}

-- the largest of these
abbrev pub most : {A : Type 0} → (A → ℕ) → List A → ℕ
most size [] = 0
most size (x ∷ xs) = max (size x) (most size xs)

-- how many tokens an expression has
abbrev pub extent : ExpressionTree → ℕ
extent e = length (expression_spelling e)

-- the same of a declaration's initializers
abbrev pub declaration_longest : DeclarationTree ExpressionTree → ℕ
declaration_longest d = most extent (expressions_of_declaration d)

abbrev pub declaration_nesting : DeclarationTree ExpressionTree → ℕ
declaration_nesting d = most nesting (expressions_of_declaration d)

-- the same of a directive line; the parentheses of its clause stand round the expression
abbrev pub line_longest : Directive ExpressionTree → ℕ
line_longest d = most extent (expressions d)

abbrev pub line_nesting : Directive ExpressionTree → ℕ
line_nesting d = most (λ e. nesting e + 1) (expressions d)

-- the same of a `section`, if there is one: nothing where it is well-formed, as it has no clause
abbrev pub section_longest : Option (Directive ExpressionTree) → ℕ
section_longest None = 0
section_longest (Some d) = line_longest d

abbrev pub section_nesting : Option (Directive ExpressionTree) → ℕ
section_nesting None = 0
section_nesting (Some d) = line_nesting d

abbrev pub optional_extent : Option ExpressionTree → ℕ
optional_extent None = 0
optional_extent (Some e) = extent e

abbrev pub optional_nesting : Option ExpressionTree → ℕ
optional_nesting None = 0
optional_nesting (Some e) = nesting e

abbrev pub for_start_extent : ForStartTree → ℕ
for_start_extent (Nothing semicolon) = 0
for_start_extent (StartExpression e semicolon) = extent e
for_start_extent (StartDeclaration d) = declaration_longest d

abbrev pub for_start_nesting : ForStartTree → ℕ
for_start_nesting (Nothing semicolon) = 0
for_start_nesting (StartExpression e semicolon) = nesting e
for_start_nesting (StartDeclaration d) = declaration_nesting d

abbrev mutual
  -- the most tokens of a whole expression
  pub longest : StatementTree → ℕ
  longest (LocalDeclaration d) = declaration_longest d
  longest (Block left items right) = longest_of items
  longest (Empty semicolon) = 0
  longest (Expression e semicolon) = extent e
  longest (If at c s) = max (extent c.value) (longest s)
  longest (IfElse at c s other t) = max (extent c.value) (max (longest s) (longest t))
  longest (While at c s) = max (extent c.value) (longest s)
  longest (Do at s again c semicolon) = max (extent c.value) (longest s)
  longest (For h s) = max
      (max (for_start_extent h.start) (max (optional_extent h.condition) (optional_extent h.step))) (longest s)
  longest (Return at value semicolon) = optional_extent value
  longest (Break at semicolon) = 0
  longest (Continue at semicolon) = 0
  longest (Construct d s) = max (line_longest d) (longest s)
  longest (StandAlone d) = line_longest d
  longest (Sections d left parts right) = max (line_longest d) (longest_of_parts parts)

  pub longest_of : StatementsTree → ℕ
  longest_of NoStatements = 0
  longest_of (Statement s rest) = max (longest s) (longest_of rest)

  pub longest_of_parts : PartsTree → ℕ
  longest_of_parts NoParts = 0
  longest_of_parts (Part section items rest) = max (max (section_longest section) (longest_of items))
      (longest_of_parts rest)

abbrev mutual
  -- how many parentheses and brackets stand round the innermost part
  pub brackets : StatementTree → ℕ
  brackets (LocalDeclaration d) = declaration_nesting d
  brackets (Block left items right) = brackets_of items
  brackets (Empty semicolon) = 0
  brackets (Expression e semicolon) = nesting e
  brackets (If at c s) = max (nesting c.value + 1) (brackets s)
  brackets (IfElse at c s other t) = max (nesting c.value + 1) (max (brackets s) (brackets t))
  brackets (While at c s) = max (nesting c.value + 1) (brackets s)
  brackets (Do at s again c semicolon) = max (nesting c.value + 1) (brackets s)
  brackets (For h s) = max (max (for_start_nesting h.start) (max (optional_nesting h.condition)
      (optional_nesting h.step)) + 1) (brackets s)
  brackets (Return at value semicolon) = optional_nesting value
  brackets (Break at semicolon) = 0
  brackets (Continue at semicolon) = 0
  brackets (Construct d s) = max (line_nesting d) (brackets s)
  brackets (StandAlone d) = line_nesting d
  brackets (Sections d left parts right) = max (line_nesting d) (brackets_of_parts parts)

  pub brackets_of : StatementsTree → ℕ
  brackets_of NoStatements = 0
  brackets_of (Statement s rest) = max (brackets s) (brackets_of rest)

  pub brackets_of_parts : PartsTree → ℕ
  brackets_of_parts NoParts = 0
  brackets_of_parts (Part section items rest) = max (max (section_nesting section) (brackets_of items))
      (brackets_of_parts rest)

abbrev mutual
  -- how many blocks stand in one another
  pub blocks : StatementTree → ℕ
  blocks (Block left items right) = blocks_of items + 1
  blocks (If at c s) = blocks s
  blocks (IfElse at c s other t) = max (blocks s) (blocks t)
  blocks (While at c s) = blocks s
  blocks (Do at s again c semicolon) = blocks s
  blocks (For h s) = blocks s
  blocks (Construct d s) = blocks s
  blocks (Sections d left parts right) = blocks_of_parts parts + 1
  blocks _ = 0

  pub blocks_of : StatementsTree → ℕ
  blocks_of NoStatements = 0
  blocks_of (Statement s rest) = max (blocks s) (blocks_of rest)

  pub blocks_of_parts : PartsTree → ℕ
  blocks_of_parts NoParts = 0
  blocks_of_parts (Part section items rest) = max (blocks_of items) (blocks_of_parts rest)

abbrev mutual
  -- how many statements stand in one another, where a declaration and a directive alone are none, and the
  -- braces of `sections` are one
  pub height : StatementTree → ℕ
  height (LocalDeclaration d) = 0
  height (Block left items right) = height_of items + 1
  height (If at c s) = height s + 1
  height (IfElse at c s other t) = max (height s) (height t) + 1
  height (While at c s) = height s + 1
  height (Do at s again c semicolon) = height s + 1
  height (For h s) = height s + 1
  height (Construct d s) = height s + 1
  height (StandAlone d) = 0
  height (Sections d left parts right) = height_of_parts parts + 2
  height _ = 1

  pub height_of : StatementsTree → ℕ
  height_of NoStatements = 0
  height_of (Statement s rest) = max (height s) (height_of rest)

  pub height_of_parts : PartsTree → ℕ
  height_of_parts NoParts = 0
  height_of_parts (Part section items rest) = max (height_of items) (height_of_parts rest)

-- the first, where the condition holds, else the second
abbrev pub Where : Bool → Type 0 → Type 0 → Type 0
Where true First Second = First
Where false First Second = Second

unfoldable mutual
  -- the statement of each outermost `atomic` is one of its forms (OpenMP 5.2 section 4.3.1.3), if that is checked
  pub HasForms : (checked : Bool) → StatementTree → Type 0
  HasForms checked (Block left items right) = HaveForms checked items
  HasForms checked (If at c s) = HasForms checked s
  HasForms checked (IfElse at c s other t) = HasForms checked s × HasForms checked t
  HasForms checked (While at c s) = HasForms checked s
  HasForms checked (Do at s again c semicolon) = HasForms checked s
  HasForms checked (For h s) = HasForms checked s
  HasForms checked (Construct d s) = Where (is_atomic d.name) ((not checked || has_atomic_form (atomic_kind d) s)
      ≡ true) (HasForms checked s)
  HasForms checked (Sections d left parts right) = PartsHaveForms checked parts
  HasForms checked _ = Unit {0}

  pub HaveForms : (checked : Bool) → StatementsTree → Type 0
  HaveForms checked NoStatements = Unit {0}
  HaveForms checked (Statement s rest) = HasForms checked s × HaveForms checked rest

  pub PartsHaveForms : (checked : Bool) → PartsTree → Type 0
  PartsHaveForms checked NoParts = Unit {0}
  PartsHaveForms checked (Part section items rest) = HaveForms checked items × PartsHaveForms checked rest

-- a statement with room for so many statements, itself among them, and so many blocks
pub record HasRoom (l : Limits) (checked : Bool) (room blocks_left : ℕ) (s : StatementTree) : Type 0 where
  pub high : height s ≤ room
  pub deep : blocks s ≤ blocks_left
  pub nested : brackets s ≤ l.nested
  pub long : longest s ≤ l.tokens
  pub forms : HasForms checked s

-- the same of several
pub record HaveRoom (l : Limits) (checked : Bool) (room blocks_left : ℕ) (items : StatementsTree) : Type 0 where
  pub high : height_of items ≤ room
  pub deep : blocks_of items ≤ blocks_left
  pub nested : brackets_of items ≤ l.nested
  pub long : longest_of items ≤ l.tokens
  pub forms : HaveForms checked items

-- the same of the block of a function, which stands round its items
pub record HasBlockRoom (l : Limits) (room blocks_left : ℕ) (b : BlockTree) : Type 0 where
  pub high : height_of (statements b.items) ≤ room
  pub deep : blocks_of (statements b.items) + 1 ≤ blocks_left
  pub nested : brackets_of (statements b.items) ≤ l.nested
  pub long : longest_of (statements b.items) ≤ l.tokens

-- a function keeps the limits
abbrev pub IsItemWithin : Limits → ItemTree → Type 0
IsItemWithin l (Declaration d) = Unit {0}
IsItemWithin l (Prototype h semicolon) = Unit {0}
IsItemWithin l (Function f) = HasBlockRoom l l.statements l.blocks f.body

-- each function of a source keeps the limits
unfoldable pub IsWithinLimits : UnitTree → Type 0
IsWithinLimits u = All (IsItemWithin accepted) u.items

-- each outermost `atomic` of a function has one of its forms, if that is checked
abbrev pub HasItemForms : (checked : Bool) → ItemTree → Type 0
HasItemForms checked (Declaration d) = Unit {0}
HasItemForms checked (Prototype h semicolon) = Unit {0}
HasItemForms checked (Function f) = HaveForms checked (statements f.body.items)

-- each outermost `atomic` of a source has one of its forms
unfoldable pub AtomicsHaveForms : UnitTree → Type 0
AtomicsHaveForms u = All (HasItemForms true) u.items
