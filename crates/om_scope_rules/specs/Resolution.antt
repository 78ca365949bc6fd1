-- The resolution of expressions: every use has the variable of its innermost declaration.
-- There is none where a name that is used means no variable.
use Rattle.std.specs.Prelude.{ℕ, ◌-◌, pos, List, Option, None, Some, position, nat_eq, if◌then◌else◌}
use Rattle.std.specs.Str.{bytes_eq}
use Rattle.om_parser_tree.specs.declared.tree.AssignOperator.{AssignOperator}
use Rattle.om_parser_tree.specs.declared.tree.AssignOperator.TheVariants as assigns
use Rattle.om_parser_tree.specs.declared.tree.PostfixOperator.{PostfixOperator}
use Rattle.om_parser_tree.specs.declared.tree.PrefixOperator.{PrefixOperator}
use Rattle.om_parser_tree.specs.declared.tree.PrefixOperator.TheVariants as prefixes
use Rattle.om_parser_tree.specs.Tree.{ExpressionTree, Name, Constant, Text, Paren, Index, Call, Prefix, Postfix, Binary}
use Rattle.om_parser_tree.specs.Tree.{Conditional, Assign, ArgumentsTree, NoArguments, Argument}
use Rattle.om_pragma.specs.declared.clause.Name as names
use Rattle.om_scope_tree.specs.declared.resolved.UnaryOperator.TheVariants as unaries
use Rattle.om_scope_tree.specs.declared.resolved.Variable.{Variable}
use Rattle.om_scope_rules.specs.declared.names.Meaning.{Meaning}
use Rattle.om_scope_rules.specs.declared.names.Meaning.TheVariants as meanings
use Rattle.om_scope_rules.specs.ExpressionRules.{is_printf}
use Rattle.om_scope_rules.specs.Perhaps.{◌>>=◌}
use Rattle.om_scope_tree.specs.ResolvedTree as resolved
use Rattle.om_scope_tree.specs.ResolvedTree.{ResolvedExpressionTree, ValuesTree}
use Rattle.om_scope_rules.specs.Scopes.{Scopes, meaning_of}

abbrev pub variable_of : Option Meaning → Option Variable
variable_of (Some (meanings.Variable variable shape)) = Some variable
variable_of (Some (meanings.Function signature)) = None
variable_of (Some meanings.Printf) = None
variable_of None = None

-- the variable that a name stands for
abbrev pub variable_named : Scopes → names.Name → Option Variable
variable_named scopes name = variable_of (meaning_of scopes name.text)

-- ---- what is assigned to

-- a variable, or an element of an array
pub data TargetTree : Type 0 where
  Scalar : Variable → TargetTree
  ElementOf : Variable → (index : ResolvedExpressionTree) → TargetTree

abbrev pub assigned : TargetTree → AssignOperator → ResolvedExpressionTree → ResolvedExpressionTree
assigned (Scalar variable) o e = resolved.Assign variable o e
assigned (ElementOf variable index) o e = resolved.AssignElement variable index o e

abbrev pub stepped : TargetTree → PostfixOperator → ResolvedExpressionTree
stepped (Scalar variable) o = resolved.Postfix variable o
stepped (ElementOf variable index) o = resolved.PostfixElement variable index o

-- `++x` is `x += 1` (C17 6.5.3.1p2)
abbrev pub prefixed : PrefixOperator → (target : Option TargetTree) → (operand : Option ResolvedExpressionTree)
    → Option ResolvedExpressionTree
prefixed prefixes.Increment target operand = target >>= λ t. Some (assigned t assigns.Add (resolved.Constant (pos 1)))
prefixed prefixes.Decrement target operand = target >>= λ t. Some
    (assigned t assigns.Subtract (resolved.Constant (pos 1)))
prefixed prefixes.Plus target operand = operand >>= λ e. Some (resolved.Unary unaries.Plus e)
prefixed prefixes.Minus target operand = operand >>= λ e. Some (resolved.Unary unaries.Negate e)
prefixed prefixes.Not target operand = operand >>= λ e. Some (resolved.Unary unaries.Not e)

-- ---- calls

-- the place of a called function among those that the source defines and the three that are there before it
abbrev pub callee_of : Option Meaning → Option ℕ → Option ℕ
callee_of (Some (meanings.Function signature)) place = place
callee_of (Some meanings.Printf) place = None
callee_of (Some (meanings.Variable variable shape)) place = None
callee_of None place = None

abbrev pub callee_named : Scopes → names.Name → Option ℕ
callee_named scopes name = callee_of (meaning_of scopes name.text) (position (bytes_eq name.text) scopes.definitions)

-- the functions of OpenMP are the second and the third of these, behind `printf`
abbrev pub call_of : ℕ → ValuesTree → ResolvedExpressionTree
call_of place values =
    if nat_eq place 1 then resolved.ThreadNumber
    else (if nat_eq place 2 then resolved.TeamSize else resolved.Call (place - 3) values)

-- the format that a `printf` begins with
abbrev pub text_in : ExpressionTree → Option (List ℕ)
text_in (Text t) = Some t.value
text_in (Name n) = None
text_in (Constant n) = None
text_in (Paren left e right) = None
text_in (Index n left e right) = None
text_in (Call n left values right) = None
text_in (Prefix o at e) = None
text_in (Postfix e o at) = None
text_in (Binary a o at b) = None
text_in (Conditional c question a colon b) = None
text_in (Assign a o at b) = None

abbrev pub format_in : ArgumentsTree → Option (List ℕ)
format_in NoArguments = None
format_in (Argument comma e rest) = text_in e

abbrev pub print_of : Option (List ℕ) → Option ValuesTree → Option ResolvedExpressionTree
print_of format values = do
  f ← format
  vs ← values
  Some (resolved.Print f vs)

abbrev pub own_call_of : Option ℕ → Option ValuesTree → Option ResolvedExpressionTree
own_call_of callee values = do
  place ← callee
  vs ← values
  Some (call_of place vs)

-- ---- expressions

unfoldable mutual
  pub resolved_expression : Scopes → ExpressionTree → Option ResolvedExpressionTree
  resolved_expression scopes (Name n) = variable_named scopes n >>= λ v. Some (resolved.Variable v)
  resolved_expression scopes (Constant n) = Some (resolved.Constant (pos n.value))
  resolved_expression scopes (Text t) = None
  resolved_expression scopes (Paren left e right) = resolved_expression scopes e
  resolved_expression scopes (Index n left e right) = do
    v ← variable_named scopes n
    i ← resolved_expression scopes e
    Some (resolved.Element v i)
  resolved_expression scopes (Call n left values right) =
      if is_printf (meaning_of scopes n.text)
      then print_of (format_in values) (resolved_printed scopes values)
      else own_call_of (callee_named scopes n) (resolved_values scopes values)
  resolved_expression scopes (Prefix o at e) = prefixed o (resolved_target scopes e) (resolved_expression scopes e)
  resolved_expression scopes (Postfix e o at) = resolved_target scopes e >>= λ t. Some (stepped t o)
  resolved_expression scopes (Binary a o at b) = do
    x ← resolved_expression scopes a
    y ← resolved_expression scopes b
    Some (resolved.Binary x o y)
  resolved_expression scopes (Conditional c question a colon b) = do
    z ← resolved_expression scopes c
    x ← resolved_expression scopes a
    y ← resolved_expression scopes b
    Some (resolved.Conditional z x y)
  resolved_expression scopes (Assign a o at b) = do
    t ← resolved_target scopes a
    y ← resolved_expression scopes b
    Some (assigned t o y)

  pub resolved_values : Scopes → ArgumentsTree → Option ValuesTree
  resolved_values scopes NoArguments = Some resolved.NoValues
  resolved_values scopes (Argument comma e rest) = do
    x ← resolved_expression scopes e
    xs ← resolved_values scopes rest
    Some (resolved.Value x xs)

  -- the values behind the format
  pub resolved_printed : Scopes → ArgumentsTree → Option ValuesTree
  resolved_printed scopes NoArguments = Some resolved.NoValues
  resolved_printed scopes (Argument comma e rest) = resolved_values scopes rest

  pub resolved_target : Scopes → ExpressionTree → Option TargetTree
  resolved_target scopes (Name n) = variable_named scopes n >>= λ v. Some (Scalar v)
  resolved_target scopes (Index n left e right) = do
    v ← variable_named scopes n
    i ← resolved_expression scopes e
    Some (ElementOf v i)
  resolved_target scopes (Paren left e right) = resolved_target scopes e
  resolved_target scopes (Constant n) = None
  resolved_target scopes (Text t) = None
  resolved_target scopes (Call n left values right) = None
  resolved_target scopes (Prefix o at e) = None
  resolved_target scopes (Postfix e o at) = None
  resolved_target scopes (Binary a o at b) = None
  resolved_target scopes (Conditional c question a colon b) = None
  resolved_target scopes (Assign a o at b) = None

-- of a call
abbrev pub resolved_call : Scopes → names.Name → ArgumentsTree → Option ResolvedExpressionTree
resolved_call scopes n values =
    if is_printf (meaning_of scopes n.text)
    then print_of (format_in values) (resolved_printed scopes values)
    else own_call_of (callee_named scopes n) (resolved_values scopes values)
