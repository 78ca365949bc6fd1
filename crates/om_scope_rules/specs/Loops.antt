-- Canonical loops (OpenMP API 5.2, section 4.4.1), of the forms that are supported. That section also allows `!=`, the
-- bound on the left of its comparison, and a step that is no constant; these are left out here. Not asked, though the
-- section asks it: that the bounds do not change in the loop.
use Rattle.std.specs.Prelude.{ℕ, ℤ, pos, ◌-ℤ◌, List, [], ◌∷◌, Option, None, Some, Bool, true, false, ◌&&◌, not, nat_lt}
use Rattle.std.specs.Prelude.{nat_le, if◌then◌else◌}
use Rattle.std.specs.Str.{bytes_eq}
use Rattle.om_lexer.specs.declared.token.Span.{Span}
use Rattle.om_pragma.specs.declared.clause.Name as names
use Rattle.om_parser_tree.specs.declared.tree.ArrayLength.{ArrayLength}
use Rattle.om_parser_tree.specs.declared.tree.AssignOperator.{AssignOperator}
use Rattle.om_parser_tree.specs.declared.tree.AssignOperator.TheVariants as assigns
use Rattle.om_parser_tree.specs.declared.tree.BinaryOperator.{BinaryOperator}
use Rattle.om_parser_tree.specs.declared.tree.BinaryOperator.TheVariants as binaries
use Rattle.om_parser_tree.specs.declared.tree.PostfixOperator.{PostfixOperator}
use Rattle.om_parser_tree.specs.declared.tree.PostfixOperator.TheVariants as postfixes
use Rattle.om_parser_tree.specs.declared.tree.PrefixOperator.{PrefixOperator}
use Rattle.om_parser_tree.specs.declared.tree.PrefixOperator.TheVariants as prefixes
use Rattle.om_parser_tree.specs.Tree.{ExpressionTree, Name, Constant, Text, Paren, Index, Call, Prefix, Postfix, Binary}
use Rattle.om_parser_tree.specs.Tree.{Conditional, Assign, InitializerTree, DeclaratorTree, ForStartTree, Nothing}
use Rattle.om_parser_tree.specs.Tree.{StartExpression, StartDeclaration, ForHeadTree, StatementTree, LocalDeclaration, Block}
use Rattle.om_parser_tree.specs.Tree.{Empty, Expression, If, IfElse, While, Do, For, Return, Break, Continue, Construct}
use Rattle.om_parser_tree.specs.Tree.{StandAlone, Sections}
use Rattle.om_scope_rules.specs.declared.canonical.Direction.{Direction}
use Rattle.om_scope_rules.specs.declared.canonical.Direction.TheVariants as directions
use Rattle.om_scope_rules.specs.declared.canonical.Step.{Step}
use Rattle.om_scope_rules.specs.Perhaps.{◌>>=◌}

-- the name that an expression is
abbrev pub name_in : ExpressionTree → Option names.Name
name_in (Name n) = Some n
name_in (Constant n) = None
name_in (Text t) = None
name_in (Paren left e right) = None
name_in (Index n left e right) = None
name_in (Call n left values right) = None
name_in (Prefix o at e) = None
name_in (Postfix e o at) = None
name_in (Binary a o at b) = None
name_in (Conditional c question a colon b) = None
name_in (Assign a o at b) = None

-- an expression is this name
abbrev pub is_named : ExpressionTree → List ℕ → Bool
is_named (Name n) name = bytes_eq n.text name
is_named (Constant n) name = false
is_named (Text t) name = false
is_named (Paren left e right) name = false
is_named (Index n left e right) name = false
is_named (Call n left values right) name = false
is_named (Prefix o at e) name = false
is_named (Postfix e o at) name = false
is_named (Binary a o at b) name = false
is_named (Conditional c question a colon b) name = false
is_named (Assign a o at b) name = false

-- what a loop adds to its variable, with its sign
abbrev pub signed : Direction → ℕ → ℤ
signed directions.Up value = pos value
signed directions.Down value = pos 0 -ℤ pos value

abbrev pub one_step : Direction → Step
one_step direction = record { direction = direction; value = signed direction 1 }

-- a step of 1 or more
abbrev pub step_of : Direction → ℕ → Option Step
step_of direction value = if nat_lt 0 value && nat_le value 2147483647 then Some
    (record { direction = direction; value = signed direction value }) else None

-- the step by an expression, which is a constant
abbrev pub stride_in : Direction → ExpressionTree → Option Step
stride_in direction (Constant n) = step_of direction n.value
stride_in direction (Name n) = None
stride_in direction (Text t) = None
stride_in direction (Paren left e right) = None
stride_in direction (Index n left e right) = None
stride_in direction (Call n left values right) = None
stride_in direction (Prefix o at e) = None
stride_in direction (Postfix e o at) = None
stride_in direction (Binary a o at b) = None
stride_in direction (Conditional c question a colon b) = None
stride_in direction (Assign a o at b) = None

-- ---- `i = lb`, or `int i = lb`

-- the iteration variable, whether the loop declares it, and its first value
pub record LoopStart : Type 0 where
  pub variable : names.Name
  pub is_declared : Bool
  pub from : ExpressionTree

abbrev pub starts_at : Bool → ExpressionTree → names.Name → LoopStart
starts_at declared from n = record { variable = n; is_declared = declared; from = from }

abbrev pub set_start : AssignOperator → ExpressionTree → ExpressionTree → Option LoopStart
set_start assigns.Set target value = name_in target >>= λ n. Some (starts_at false value n)
set_start assigns.Add target value = None
set_start assigns.Subtract target value = None
set_start assigns.Multiply target value = None
set_start assigns.Divide target value = None
set_start assigns.Remainder target value = None

abbrev pub assigned_start : ExpressionTree → Option LoopStart
assigned_start (Assign a o at b) = set_start o a b
assigned_start (Name n) = None
assigned_start (Constant n) = None
assigned_start (Text t) = None
assigned_start (Paren left e right) = None
assigned_start (Index n left e right) = None
assigned_start (Call n left values right) = None
assigned_start (Prefix o at e) = None
assigned_start (Postfix e o at) = None
assigned_start (Binary a o at b) = None
assigned_start (Conditional c question a colon b) = None

abbrev pub initialized_start : names.Name → Option ArrayLength → Option (InitializerTree ExpressionTree)
    → Option LoopStart
initialized_start n None None = None
initialized_start n None (Some i) = Some (starts_at true i.value n)
initialized_start n (Some array) initializer = None

-- one variable is declared
abbrev pub declared_start : DeclaratorTree ExpressionTree → List (Span × DeclaratorTree ExpressionTree)
    → Option LoopStart
declared_start d [] = initialized_start d.name d.array d.initializer
declared_start d (further ∷ rest) = None

abbrev pub start_of : ForStartTree → Option LoopStart
start_of (Nothing semicolon) = None
start_of (StartExpression e semicolon) = assigned_start e
start_of (StartDeclaration d) = declared_start d.first d.rest

-- ---- `i < ub`

abbrev pub comparison_direction : BinaryOperator → Option Direction
comparison_direction binaries.Less = Some directions.Up
comparison_direction binaries.LessEqual = Some directions.Up
comparison_direction binaries.Greater = Some directions.Down
comparison_direction binaries.GreaterEqual = Some directions.Down
comparison_direction _ = None

-- where the variable is bounded, and by what
pub record Bound : Type 0 where
  pub comparison : BinaryOperator
  pub direction : Direction
  pub to : ExpressionTree

abbrev pub bounded : BinaryOperator → ExpressionTree → Direction → Bound
bounded o to direction = record { comparison = o; direction = direction; to = to }

abbrev pub compared : BinaryOperator → ExpressionTree → Option Bound
compared o b = comparison_direction o >>= λ direction. Some (bounded o b direction)

abbrev pub bound_of : ExpressionTree → List ℕ → Option Bound
bound_of (Binary a o at b) name = if is_named a name then compared o b else None
bound_of _ _ = None

-- ---- `i++`, `i += c`, `i = i + c` and their kin

abbrev pub prefix_step : PrefixOperator → Option Step
prefix_step prefixes.Increment = Some (one_step directions.Up)
prefix_step prefixes.Decrement = Some (one_step directions.Down)
prefix_step prefixes.Plus = None
prefix_step prefixes.Minus = None
prefix_step prefixes.Not = None

abbrev pub postfix_step : PostfixOperator → Step
postfix_step postfixes.Increment = one_step directions.Up
postfix_step postfixes.Decrement = one_step directions.Down

-- `i + c` or `c + i`
abbrev pub added_step : ExpressionTree → ExpressionTree → List ℕ → Option Step
added_step a b name = if is_named a name then stride_in directions.Up b else (if is_named b name then stride_in
    directions.Up a else None)

-- `i - c`
abbrev pub subtracted_step : ExpressionTree → ExpressionTree → List ℕ → Option Step
subtracted_step a b name = if is_named a name then stride_in directions.Down b else None

abbrev pub sum_step : BinaryOperator → ExpressionTree → ExpressionTree → List ℕ → Option Step
sum_step binaries.Add a b name = added_step a b name
sum_step binaries.Subtract a b name = subtracted_step a b name
sum_step _ _ _ _ = None

abbrev pub value_step : ExpressionTree → List ℕ → Option Step
value_step (Binary a o at b) name = sum_step o a b name
value_step _ _ = None

abbrev pub assigned_step : AssignOperator → ExpressionTree → List ℕ → Option Step
assigned_step assigns.Set value name = value_step value name
assigned_step assigns.Add value name = stride_in directions.Up value
assigned_step assigns.Subtract value name = stride_in directions.Down value
assigned_step _ _ _ = None

abbrev pub step_in : ExpressionTree → List ℕ → Option Step
step_in (Prefix o at e) name = if is_named e name then prefix_step o else None
step_in (Postfix e o at) name = if is_named e name then Some (postfix_step o) else None
step_in (Assign a o at b) name = if is_named a name then assigned_step o b name else None
step_in _ _ = None

abbrev pub is_up : Direction → Bool
is_up directions.Up = true
is_up directions.Down = false

abbrev pub same_direction : Direction → Direction → Bool
same_direction a b = if is_up a then is_up b else not (is_up b)

-- ---- the loop

-- a canonical loop: its variable and first value, what that is compared with and how, and its step
pub record Loop : Type 0 where
  -- the word `for`
  pub at : Span
  pub start : LoopStart
  pub comparison : BinaryOperator
  pub to : ExpressionTree
  pub step : ℤ

-- the step goes to the bound
abbrev pub loop_to : Span → LoopStart → Bound → Step → Option Loop
loop_to at start bound step =
    if same_direction bound.direction step.direction
    then Some (record { at = at; start = start; comparison = bound.comparison; to = bound.to; step = step.value })
    else None

-- the loop of a `for`, where it is canonical
abbrev pub loop_of : ForHeadTree → Option Loop
loop_of h = do
  start ← start_of h.start
  condition ← h.condition
  step ← h.step
  bound ← bound_of condition start.variable.text
  by ← step_in step start.variable.text
  loop_to h.word start bound by

-- the loop that a statement is, where it is canonical
abbrev pub loop_in : StatementTree → Option Loop
loop_in (For h s) = loop_of h
loop_in (LocalDeclaration d) = None
loop_in (Block left items right) = None
loop_in (Empty semicolon) = None
loop_in (Expression e semicolon) = None
loop_in (If at c s) = None
loop_in (IfElse at c s other t) = None
loop_in (While at c s) = None
loop_in (Do at s again c semicolon) = None
loop_in (Return at value semicolon) = None
loop_in (Break at semicolon) = None
loop_in (Continue at semicolon) = None
loop_in (Construct d s) = None
loop_in (StandAlone d) = None
loop_in (Sections d left parts right) = None
