-- The rules of names and expressions, each by the breaches that a tree has of it, in the order of the text.
use Rattle.std.specs.Prelude.{ℕ, ◌+◌, ◌==◌, List, [], ◌++◌, Option, None, Some, Bool, true, false, codes, nat_lt}
use Rattle.std.specs.Prelude.{nat_eq, if◌then◌else◌, not, ◌&&◌, ◌||◌, is_some, position}
use Rattle.std.specs.Str.{bytes_eq}
use Rattle.om_lexer.specs.declared.fault.FaultCode.TheVariants as faults
use Rattle.om_lexer.specs.declared.fault.SourceFault.{SourceFault}
use Rattle.om_pragma.specs.declared.clause.Name as names
use Rattle.om_pragma.specs.declared.clause.Number.{Number}
use Rattle.om_parser_tree.specs.declared.tree.PrefixOperator.{PrefixOperator}
use Rattle.om_parser_tree.specs.declared.tree.PrefixOperator.TheVariants as prefixes
use Rattle.om_parser_tree.specs.Tree.{ExpressionTree, Name, Constant, Text, Paren, Index, Call, Prefix, Postfix, Binary}
use Rattle.om_parser_tree.specs.Tree.{Conditional, Assign, ArgumentsTree, NoArguments, Argument}
use Rattle.om_scope_rules.specs.declared.names.Meaning.{Meaning}
use Rattle.om_scope_rules.specs.declared.names.Meaning.TheVariants as meanings
use Rattle.om_scope_tree.specs.declared.resolved.Shape.TheVariants as shapes
use Rattle.om_scope_rules.specs.Faults.{breach_if, perhaps_with}
use Rattle.om_scope_rules.specs.declared.limits.TheConstants.{PRINTED_LIMIT}
use Rattle.om_scope_rules.specs.Formats.{is_format}
use Rattle.om_scope_rules.specs.Places.{expression_start}
use Rattle.om_scope_rules.specs.Scopes.{Scopes, meaning_of}
use Rattle.om_scope_rules.specs.Sharing.{is_copied, is_unlisted}

-- ---- names

-- a function that the source defines, before the place or behind it
abbrev pub has_definition : Scopes → List ℕ → Bool
has_definition scopes name = is_some (position (bytes_eq name) scopes.definitions)

-- no declaration stands before the place, or a function is never defined
abbrev pub is_undeclared : Scopes → List ℕ → Option Meaning → Bool
is_undeclared scopes name None = true
is_undeclared scopes name (Some (meanings.Function signature)) = not (has_definition scopes name)
is_undeclared scopes name (Some meanings.Printf) = false
is_undeclared scopes name (Some (meanings.Variable variable shape)) = false

-- S7
abbrev pub undeclared_breaches : Scopes → names.Name → List SourceFault
undeclared_breaches scopes name = breach_if (is_undeclared scopes name.text (meaning_of scopes name.text))
    faults.Undeclared name.span.start

abbrev pub is_scalar : Option Meaning → Bool
is_scalar (Some (meanings.Variable variable shapes.Scalar)) = true
is_scalar (Some (meanings.Variable variable shapes.Array)) = false
is_scalar (Some (meanings.Function signature)) = false
is_scalar (Some meanings.Printf) = false
is_scalar None = false

abbrev pub is_array : Option Meaning → Bool
is_array (Some (meanings.Variable variable shapes.Array)) = true
is_array (Some (meanings.Variable variable shapes.Scalar)) = false
is_array (Some (meanings.Function signature)) = false
is_array (Some meanings.Printf) = false
is_array None = false

-- S13: a construct round the place asks for a clause that lists the variable, and has none
abbrev pub unlisted_breaches : Scopes → names.Name → List SourceFault
unlisted_breaches scopes name = breach_if (is_unlisted scopes name.text) faults.Unlisted name.span.start

-- S9: an array or a function that is used as a scalar
abbrev pub misused_scalar_breaches : Option Meaning → ℕ → List SourceFault
misused_scalar_breaches meaning at = breach_if (not (is_scalar meaning)) faults.Misuse at

abbrev pub scalar_breaches : Scopes → names.Name → List SourceFault
scalar_breaches scopes name =
    undeclared_breaches scopes name ++ misused_scalar_breaches (meaning_of scopes name.text) name.span.start
    ++ unlisted_breaches scopes name

-- an array of which a `task` round the place would make a copy
abbrev pub is_copied_array : Scopes → List ℕ → Bool
is_copied_array scopes name = is_array (meaning_of scopes name) && is_copied scopes name

-- S9: a scalar or a function that is used as an array, or an array that a `task` would copy
abbrev pub misused_array_breaches : Option Meaning → (is_copied : Bool) → ℕ → List SourceFault
misused_array_breaches meaning copied at = breach_if (not (is_array meaning) || copied) faults.Misuse at

abbrev pub array_breaches : Scopes → names.Name → List SourceFault
array_breaches scopes name =
    undeclared_breaches scopes name
    ++ misused_array_breaches (meaning_of scopes name.text) (is_copied scopes name.text) name.span.start
    ++ unlisted_breaches scopes name

-- a call of a variable, of `main`, with the wrong number of values (C17 6.5.2.2p2), or of a `void` function for its
-- value
abbrev pub is_miscalled : Bool → List ℕ → ℕ → Option Meaning → Bool
is_miscalled for_value name count (Some (meanings.Function signature)) =
    bytes_eq name (codes "main") || not (nat_eq signature.parameters count) || (for_value && not signature.returns)
is_miscalled for_value name count (Some meanings.Printf) = true
is_miscalled for_value name count (Some (meanings.Variable variable shape)) = true
is_miscalled for_value name count None = true

-- S9 at the name of the called
abbrev pub call_breaches : Scopes → Bool → names.Name → ℕ → List SourceFault
call_breaches scopes for_value name count =
    undeclared_breaches scopes name ++ breach_if (is_miscalled for_value name.text count
    (meaning_of scopes name.text)) faults.Misuse name.span.start

abbrev pub is_printf : Option Meaning → Bool
is_printf (Some meanings.Printf) = true
is_printf (Some (meanings.Function signature)) = false
is_printf (Some (meanings.Variable variable shape)) = false
is_printf None = false

-- ---- expressions

-- S10: a constant that no `int` holds
abbrev pub constant_breaches : Number → List SourceFault
constant_breaches number = breach_if (nat_lt 2147483647 number.value) faults.ConstantTooLarge number.span.start

-- S7 of the name that an expression begins with
unfoldable pub leading_breaches : Scopes → ExpressionTree → List SourceFault
leading_breaches scopes (Name n) = undeclared_breaches scopes n
leading_breaches scopes (Constant n) = []
leading_breaches scopes (Text t) = []
leading_breaches scopes (Paren left e right) = []
leading_breaches scopes (Index n left e right) = undeclared_breaches scopes n
leading_breaches scopes (Call n left values right) = undeclared_breaches scopes n
leading_breaches scopes (Prefix o at e) = []
leading_breaches scopes (Postfix e o at) = leading_breaches scopes e
leading_breaches scopes (Binary a o at b) = leading_breaches scopes a
leading_breaches scopes (Conditional c question a colon b) = leading_breaches scopes c
leading_breaches scopes (Assign a o at b) = leading_breaches scopes a

-- S9 at an expression's first token, behind S7 of a name there
abbrev pub misplaced_breaches : Scopes → ExpressionTree → List SourceFault
misplaced_breaches scopes e = leading_breaches scopes e ++ breach_if true faults.Misuse (expression_start e)

-- how many arguments there are
abbrev pub argument_count : ArgumentsTree → ℕ
argument_count NoArguments = 0
argument_count (Argument comma e rest) = argument_count rest + 1

abbrev pub is_step : PrefixOperator → Bool
is_step prefixes.Increment = true
is_step prefixes.Decrement = true
is_step prefixes.Plus = false
is_step prefixes.Minus = false
is_step prefixes.Not = false

-- a name or an element, in parentheses or not
unfoldable pub is_target : ExpressionTree → Bool
is_target (Name n) = true
is_target (Index n left e right) = true
is_target (Paren left e right) = is_target e
is_target (Constant n) = false
is_target (Text t) = false
is_target (Call n left values right) = false
is_target (Prefix o at e) = false
is_target (Postfix e o at) = false
is_target (Binary a o at b) = false
is_target (Conditional c question a colon b) = false
is_target (Assign a o at b) = false

-- a format, and as many values as it takes
abbrev pub is_print : ArgumentsTree → Bool
is_print NoArguments = false
is_print (Argument comma format rest) = is_format format (argument_count rest)

-- S9 at the name: the value of `printf` is used, or it has no format or one for another number of values
abbrev pub misprint_breaches : Bool → names.Name → ArgumentsTree → List SourceFault
misprint_breaches for_value n values = breach_if (for_value || not (is_print values)) faults.Misuse n.span.start

unfoldable mutual
  -- of an expression; the Boolean tells whether its value is used
  pub expression_breaches : Scopes → Bool → ExpressionTree → List SourceFault
  expression_breaches scopes for_value (Name n) = scalar_breaches scopes n
  expression_breaches scopes for_value (Constant n) = constant_breaches n
  expression_breaches scopes for_value (Text t) = breach_if true faults.Misuse t.span.start
  expression_breaches scopes for_value (Paren left e right) = expression_breaches scopes for_value e
  expression_breaches scopes for_value (Index n left e right) = array_breaches scopes n ++ expression_breaches
      scopes true e
  expression_breaches scopes for_value (Call n left values right) =
      if is_printf (meaning_of scopes n.text)
      then misprint_breaches for_value n values ++ printed_breaches scopes 0 values
      else call_breaches scopes for_value n (argument_count values) ++ arguments_breaches scopes values
  expression_breaches scopes for_value (Prefix o at e) = if is_step o then target_breaches scopes e else
      expression_breaches scopes true e
  expression_breaches scopes for_value (Postfix e o at) = target_breaches scopes e
  expression_breaches scopes for_value (Binary a o at b) = expression_breaches scopes true a ++ expression_breaches
      scopes true b
  expression_breaches scopes for_value (Conditional c question a colon b) =
      expression_breaches scopes true c ++ expression_breaches scopes true a ++ expression_breaches scopes true b
  expression_breaches scopes for_value (Assign a o at b) = target_breaches scopes a ++ expression_breaches scopes true b

  pub arguments_breaches : Scopes → ArgumentsTree → List SourceFault
  arguments_breaches scopes NoArguments = []
  arguments_breaches scopes (Argument comma e rest) = expression_breaches scopes true e ++ arguments_breaches scopes
      rest

  -- of the arguments of a `printf` from a place on, at the first of which the format stands; S11 at the first
  -- token of a value too many
  pub printed_breaches : Scopes → ℕ → ArgumentsTree → List SourceFault
  printed_breaches scopes place NoArguments = []
  printed_breaches scopes place (Argument comma e rest) =
      (if place == 0 then [] else perhaps_with (nat_lt PRINTED_LIMIT place) faults.TooMany (expression_start e)
      (expression_breaches scopes true e))
      ++ printed_breaches scopes (place + 1) rest

  -- S9: what `=`, `++` and `--` change is a name or an element (C17 6.5.16p2, 6.5.2.4p1, 6.5.3.1p1)
  pub target_breaches : Scopes → ExpressionTree → List SourceFault
  target_breaches scopes (Name n) = scalar_breaches scopes n
  target_breaches scopes (Index n left e right) = array_breaches scopes n ++ expression_breaches scopes true e
  target_breaches scopes (Paren left e right) = if is_target e then target_breaches scopes e else misplaced_breaches
      scopes (Paren left e right)
  target_breaches scopes (Text t) = misplaced_breaches scopes (Text t)
  target_breaches scopes (Constant n) = misplaced_breaches scopes (Constant n)
  target_breaches scopes (Call n left values right) = misplaced_breaches scopes (Call n left values right)
  target_breaches scopes (Prefix o at e) = misplaced_breaches scopes (Prefix o at e)
  target_breaches scopes (Postfix e o at) = misplaced_breaches scopes (Postfix e o at)
  target_breaches scopes (Binary a o at b) = misplaced_breaches scopes (Binary a o at b)
  target_breaches scopes (Conditional c question a colon b) = misplaced_breaches scopes
      (Conditional c question a colon b)
  target_breaches scopes (Assign a o at b) = misplaced_breaches scopes (Assign a o at b)

-- of an operator before its operand
abbrev pub prefix_breaches : Scopes → PrefixOperator → ExpressionTree → List SourceFault
prefix_breaches scopes o e = if is_step o then target_breaches scopes e else expression_breaches scopes true e

-- of a call of another function than `printf`
abbrev pub own_call_breaches : Scopes → Bool → names.Name → ArgumentsTree → List SourceFault
own_call_breaches scopes for_value n values = call_breaches scopes for_value n (argument_count values)
    ++ arguments_breaches scopes values

-- of a call of `printf`
abbrev pub print_breaches : Scopes → Bool → names.Name → ArgumentsTree → List SourceFault
print_breaches scopes for_value n values = misprint_breaches for_value n values ++ printed_breaches scopes 0 values

-- of an argument of a `printf` at a place
abbrev pub argument_breaches : Scopes → ℕ → ExpressionTree → List SourceFault
argument_breaches scopes place e =
    if place == 0 then [] else perhaps_with (nat_lt PRINTED_LIMIT place) faults.TooMany (expression_start e)
    (expression_breaches scopes true e)

-- of an element of an array
abbrev pub element_breaches : Scopes → names.Name → ExpressionTree → List SourceFault
element_breaches scopes n e = array_breaches scopes n ++ expression_breaches scopes true e

-- of a call
abbrev pub called_breaches : Scopes → Bool → names.Name → ArgumentsTree → List SourceFault
called_breaches scopes for_value n values = if is_printf (meaning_of scopes n.text) then print_breaches scopes
    for_value n values else own_call_breaches scopes for_value n values
