-- Which statements an `atomic` may have (OpenMP API 5.2, 4.3.1.3).
use Rattle.std.specs.Prelude.{Bool, true, false, not, ◌&&◌, ◌||◌, nat_eq, bytes_eq}
use denote.Enum.Bare.{sameb}
use Rattle.om_pragma.specs.declared.tree.AtomicKind.{AtomicKind}
use Rattle.om_pragma.specs.declared.tree.AtomicKind.TheVariants as atomics
use Rattle.om_parser_tree.specs.contracts.tree.AssignOperator.{the_type as the_assignments}
use Rattle.om_parser_tree.specs.contracts.tree.BinaryOperator.{the_type as the_binaries}
use Rattle.om_parser_tree.specs.contracts.tree.PostfixOperator.{the_type as the_postfixes}
use Rattle.om_parser_tree.specs.contracts.tree.PrefixOperator.{the_type as the_prefixes}
use Rattle.om_parser_tree.specs.declared.tree.AssignOperator.{AssignOperator}
use Rattle.om_parser_tree.specs.declared.tree.AssignOperator.TheVariants as assigns
use Rattle.om_parser_tree.specs.declared.tree.BinaryOperator.{BinaryOperator}
use Rattle.om_parser_tree.specs.declared.tree.BinaryOperator.TheVariants as binaries
use Rattle.om_parser_tree.specs.declared.tree.PrefixOperator.{PrefixOperator}
use Rattle.om_parser_tree.specs.declared.tree.PrefixOperator.TheVariants as prefixes
use Rattle.om_parser_tree.specs.Tree.{ExpressionTree, Name, Constant, Text, Paren, Index, Call, Prefix, Postfix, Binary}
use Rattle.om_parser_tree.specs.Tree.{Conditional, Assign, ArgumentsTree, NoArguments, Argument, StatementTree, Expression}

unfoldable mutual
  -- the same but for the spans
  pub same_expression : ExpressionTree → ExpressionTree → Bool
  same_expression (Name m) (Name n) = bytes_eq m.text n.text
  same_expression (Constant m) (Constant n) = nat_eq m.value n.value
  same_expression (Text s) (Text t) = bytes_eq s.value t.value
  same_expression (Paren _ d _) (Paren _ e _) = same_expression d e
  same_expression (Index m _ i _) (Index n _ j _) = bytes_eq m.text n.text && same_expression i j
  same_expression (Call m _ ds _) (Call n _ es _) = bytes_eq m.text n.text && same_arguments ds es
  same_expression (Prefix o _ d) (Prefix p _ e) = sameb the_prefixes o p && same_expression d e
  same_expression (Postfix d o _) (Postfix e p _) = sameb the_postfixes o p && same_expression d e
  same_expression (Binary a o _ b) (Binary d p _ e) = sameb the_binaries o p && same_expression a d
      && same_expression b e
  same_expression (Conditional a _ b _ c) (Conditional d _ e _ f) = same_expression a d && same_expression b e
      && same_expression c f
  same_expression (Assign a o _ b) (Assign d p _ e) = sameb the_assignments o p && same_expression a d
      && same_expression b e
  same_expression _ _ = false

  -- as many, and each the same as the other's
  pub same_arguments : ArgumentsTree → ArgumentsTree → Bool
  same_arguments NoArguments NoArguments = true
  same_arguments (Argument _ d ds) (Argument _ e es) = same_expression d e && same_arguments ds es
  same_arguments _ _ = false

unfoldable mutual
  -- an expression, or a part of it, is the same as x
  pub contains : (x : ExpressionTree) → ExpressionTree → Bool
  contains x (Name n) = same_expression x (Name n)
  contains x (Constant n) = same_expression x (Constant n)
  contains x (Text t) = same_expression x (Text t)
  contains x (Paren left e right) = same_expression x (Paren left e right) || contains x e
  contains x (Index n left i right) = same_expression x (Index n left i right) || contains x i
  contains x (Call n left es right) = same_expression x (Call n left es right) || arguments_contain x es
  contains x (Prefix o at e) = same_expression x (Prefix o at e) || contains x e
  contains x (Postfix e o at) = same_expression x (Postfix e o at) || contains x e
  contains x (Binary a o at b) = same_expression x (Binary a o at b) || contains x a || contains x b
  contains x (Conditional a question b colon c) = same_expression x (Conditional a question b colon c)
      || contains x a || contains x b || contains x c
  contains x (Assign a o at b) = same_expression x (Assign a o at b) || contains x a || contains x b

  -- one of these does
  pub arguments_contain : (x : ExpressionTree) → ArgumentsTree → Bool
  arguments_contain x NoArguments = false
  arguments_contain x (Argument comma e es) = contains x e || arguments_contain x es

-- a name or an indexed name
abbrev pub is_place : ExpressionTree → Bool
is_place (Name n) = true
is_place (Index n left i right) = true
is_place _ = false

-- an operator that an update may have
abbrev pub is_atomic_operator : BinaryOperator → Bool
is_atomic_operator binaries.Add = true
is_atomic_operator binaries.Subtract = true
is_atomic_operator binaries.Multiply = true
is_atomic_operator binaries.Divide = true
is_atomic_operator _ = false

-- one operand is x, and the other does not contain it
abbrev pub is_one_operand : (x : ExpressionTree) → ExpressionTree → ExpressionTree → Bool
is_one_operand x a b = (same_expression x a && not (contains x b)) || (same_expression x b && not (contains x a))

-- `x op e` or `e op x`
unfoldable pub is_operation_on : (x : ExpressionTree) → ExpressionTree → Bool
is_operation_on x (Binary a o at b) = is_atomic_operator o && is_one_operand x a b
is_operation_on x _ = false

-- assigned to x, it updates it: `x = x op e`, `x = e op x`, `x op= e`
unfoldable pub is_updated : (x : ExpressionTree) → AssignOperator → ExpressionTree → Bool
is_updated x assigns.Set e = is_operation_on x e
is_updated x assigns.Remainder e = false
is_updated x _ e = not (contains x e)

-- `++` or `--`
abbrev pub is_step : PrefixOperator → Bool
is_step prefixes.Increment = true
is_step prefixes.Decrement = true
is_step _ = false

-- besides these, `++x`, `--x`, `x++`, `x--`
unfoldable pub is_update : ExpressionTree → Bool
is_update (Prefix o at x) = is_step o && is_place x
is_update (Postfix x o at) = is_place x
is_update (Assign x o at e) = is_place x && is_updated x o e
is_update _ = false

-- `v = x`
unfoldable pub is_read : ExpressionTree → Bool
is_read (Assign v assigns.Set at x) = is_place v && is_place x
is_read _ = false

-- `x = e`
unfoldable pub is_write : ExpressionTree → Bool
is_write (Assign x assigns.Set at e) = is_place x
is_write _ = false

abbrev pub is_atomic_expression : AtomicKind → ExpressionTree → Bool
is_atomic_expression atomics.Update e = is_update e
is_atomic_expression atomics.Read e = is_read e
is_atomic_expression atomics.Write e = is_write e

-- an expression and its semicolon
unfoldable pub has_atomic_form : AtomicKind → StatementTree → Bool
has_atomic_form kind (Expression e semicolon) = is_atomic_expression kind e
has_atomic_form kind _ = false
