-- An expression without a breach has a resolution.
use Rattle.std.proofs.Common.{◌≡◌, ℕ, ◌+◌, ◌≤◌, Bool, true, false, cond, not, ◌||◌, List, [], ◌++◌, Option, None, Some}
use Rattle.std.proofs.Common.{is_some, refl, sym, ap, ◌∙◌, arith}
use Rattle.std.specs.Prelude.{IsSome, nat_lt, ◌==◌, position}
use Rattle.std.specs.Str.{bytes_eq}
use Rattle.std.proofs.lemmas.Bool.Decides.{nat_tests}
use Rattle.om_lexer.specs.declared.fault.FaultCode.TheVariants as faults
use Rattle.om_lexer.specs.declared.fault.SourceFault.{SourceFault}
use Rattle.om_pragma.specs.declared.clause.Name as names
use Rattle.om_parser_tree.specs.declared.tree.PrefixOperator.TheVariants as prefixes
use Rattle.om_parser_tree.specs.Tree.{ExpressionTree, Name, Constant, Text, Paren, Index, Call, Prefix, Postfix, Binary}
use Rattle.om_parser_tree.specs.Tree.{Conditional, Assign, ArgumentsTree, NoArguments, Argument}
use Rattle.om_scope_rules.specs.declared.names.Meaning.{Meaning}
use Rattle.om_scope_rules.specs.declared.names.Meaning.TheVariants as meanings
use Rattle.om_scope_rules.specs.declared.limits.TheConstants.{PRINTED_LIMIT}
use Rattle.om_scope_rules.specs.ExpressionRules.{is_undeclared, undeclared_breaches, is_scalar, is_array}
use Rattle.om_scope_rules.specs.ExpressionRules.{misused_scalar_breaches, scalar_breaches, misused_array_breaches}
use Rattle.om_scope_rules.specs.ExpressionRules.{array_breaches, unlisted_breaches, is_miscalled, call_breaches, is_printf}
use Rattle.om_scope_rules.specs.ExpressionRules.{leading_breaches, misplaced_breaches, argument_count, is_target, is_print}
use Rattle.om_scope_rules.specs.ExpressionRules.{misprint_breaches, expression_breaches, arguments_breaches, printed_breaches}
use Rattle.om_scope_rules.specs.ExpressionRules.{target_breaches, print_breaches, own_call_breaches}
use Rattle.om_scope_rules.specs.Faults.{breach_if, perhaps_with}
use Rattle.om_scope_rules.specs.Formats.{is_format}
use Rattle.om_scope_rules.specs.Places.{expression_start}
use Rattle.om_scope_rules.specs.Resolution.{variable_of, variable_named, callee_of, callee_named, text_in, format_in}
use Rattle.om_scope_rules.specs.Resolution.{print_of, own_call_of, resolved_expression, resolved_values, resolved_printed}
use Rattle.om_scope_rules.specs.Resolution.{resolved_target}
use Rattle.om_scope_tree.specs.ResolvedTree.{ValuesTree}
use Rattle.om_scope_rules.specs.Scopes.{Scopes, meaning_of}
use Rattle.om_scope_rules.specs.Sharing.{is_copied}
use Rattle.om_scope_rules.proofs.SomeSteps.{some_then}
use Rattle.om_scope_rules.proofs.Unbroken.{front, back, not_broken, not_placed, by_test, left_false, right_false, not_false}

-- ---- names

pub scalar_is_variable : (meaning : Option Meaning) → is_scalar meaning ≡ true → IsSome (variable_of meaning)
scalar_is_variable (Some (meanings.Variable v shape)) e = refl
scalar_is_variable (Some (meanings.Function signature)) e = cc
scalar_is_variable (Some meanings.Printf) e = cc
scalar_is_variable None e = cc

array_is_variable : (meaning : Option Meaning) → is_array meaning ≡ true → IsSome (variable_of meaning)
array_is_variable (Some (meanings.Variable v shape)) e = refl
array_is_variable (Some (meanings.Function signature)) e = cc
array_is_variable (Some meanings.Printf) e = cc
array_is_variable None e = cc

has_scalar : (scopes : Scopes) (n : names.Name) → scalar_breaches scopes n ≡ [] → IsSome (variable_named scopes n)
has_scalar scopes n whole =
    scalar_is_variable (meaning_of scopes n.text)
    (not_false (is_scalar (meaning_of scopes n.text)) (not_broken (not (is_scalar (meaning_of scopes n.text)))
    faults.Misuse n.span.start
    (back (undeclared_breaches scopes n) (misused_scalar_breaches (meaning_of scopes n.text) n.span.start)
    (front _ (unlisted_breaches scopes n) whole))))

has_array : (scopes : Scopes) (n : names.Name) → array_breaches scopes n ≡ [] → IsSome (variable_named scopes n)
has_array scopes n whole =
    let meaning = meaning_of scopes n.text in
    let copied = is_copied scopes n.text in
    let is = not_broken (not (is_array meaning) || copied) faults.Misuse n.span.start
    (back (undeclared_breaches scopes n) (misused_array_breaches meaning copied n.span.start)
    (front _ (unlisted_breaches scopes n) whole)) in
    array_is_variable meaning (not_false (is_array meaning) (left_false (not (is_array meaning)) copied is))

-- ---- calls

has_callee : (scopes : Scopes) (for_value : Bool) (name : List ℕ) (count : ℕ) (meaning : Option Meaning)
    → is_undeclared scopes name meaning ≡ false → is_miscalled for_value name count meaning ≡ false
    → IsSome (callee_of meaning (position (bytes_eq name) scopes.definitions))
has_callee scopes for_value name count (Some (meanings.Function signature)) there called = not_false
    (is_some (position (bytes_eq name) scopes.definitions)) there
has_callee scopes for_value name count (Some meanings.Printf) there called = cc
has_callee scopes for_value name count (Some (meanings.Variable v shape)) there called = cc
has_callee scopes for_value name count None there called = cc

called : (scopes : Scopes) (for_value : Bool) (n : names.Name) (count : ℕ) → call_breaches scopes for_value n count
    ≡ [] → IsSome (callee_named scopes n)
called scopes for_value n count whole =
    let meaning = meaning_of scopes n.text in
    has_callee scopes for_value n.text count meaning
    (not_broken (is_undeclared scopes n.text meaning) faults.Undeclared n.span.start
    (front (undeclared_breaches scopes n) _ whole))
    (not_broken (is_miscalled for_value n.text count meaning) faults.Misuse n.span.start
    (back (undeclared_breaches scopes n) _ whole))

has_text : (e : ExpressionTree) (count : ℕ) → is_format e count ≡ true → IsSome (text_in e)
has_text (Text t) count e = refl
has_text (Name n) count e = cc
has_text (Constant n) count e = cc
has_text (Paren left c right) count e = cc
has_text (Index n left c right) count e = cc
has_text (Call n left values right) count e = cc
has_text (Prefix o at c) count e = cc
has_text (Postfix c o at) count e = cc
has_text (Binary a o at b) count e = cc
has_text (Conditional c question a colon b) count e = cc
has_text (Assign a o at b) count e = cc

has_format : (values : ArgumentsTree) → is_print values ≡ true → IsSome (format_in values)
has_format NoArguments e = cc
has_format (Argument comma format rest) e = has_text format (argument_count rest) e

print_there : (format : Option (List ℕ)) (values : Option ValuesTree) → IsSome format → IsSome values
    → IsSome (print_of format values)
print_there (Some f) (Some vs) hf hv = refl
print_there (Some f) None hf hv = cc
print_there None values hf hv = cc

own_call_there : (callee : Option ℕ) (values : Option ValuesTree) → IsSome callee → IsSome values
    → IsSome (own_call_of callee values)
own_call_there (Some place) (Some vs) hf hv = refl
own_call_there (Some place) None hf hv = cc
own_call_there None values hf hv = cc

has_print : (for_value : Bool) (n : names.Name) (values : ArgumentsTree) (printed : Option ValuesTree)
    → misprint_breaches for_value n values ≡ [] → IsSome printed → IsSome (print_of (format_in values) printed)
has_print for_value n values printed whole there =
    print_there (format_in values) printed
    (has_format values (not_false (is_print values) (right_false for_value (not (is_print values))
    (not_broken (for_value || not (is_print values)) faults.Misuse n.span.start whole)))) there

has_own_call : (scopes : Scopes) (for_value : Bool) (n : names.Name) (count : ℕ) (values : Option ValuesTree)
    → call_breaches scopes for_value n count ≡ [] → IsSome values → IsSome (own_call_of (callee_named scopes n) values)
has_own_call scopes for_value n count values whole there = own_call_there (callee_named scopes n) values
    (called scopes for_value n count whole) there

-- ---- expressions

-- what can't stand at a place has its breach
pub never_misplaced : (scopes : Scopes) (e : ExpressionTree) → misplaced_breaches scopes e ≡ [] → ⊥
never_misplaced scopes e whole = none_there
    (back (leading_breaches scopes e) (breach_if true faults.Misuse (expression_start e)) whole)
  where
    none_there : breach_if true faults.Misuse (expression_start e) ≡ [] → ⊥
    none_there f = cc

-- an argument that is no format has its breaches
behind_format : (place : ℕ) (breaches : List SourceFault) → 1 ≤ place → cond (place == 0) [] breaches ≡ []
    → breaches ≡ []
behind_format place breaches le e =
    let later : (place == 0) ≡ false = grind (arith, nat_tests) in
    sym (ap (λ test. cond test [] breaches) later) ∙ e

mutual
  unfolding expression_breaches arguments_breaches printed_breaches target_breaches resolved_expression
      resolved_values resolved_printed resolved_target

  pub has_expression : (scopes : Scopes) (for_value : Bool) (e : ExpressionTree) → expression_breaches scopes
      for_value e ≡ [] → IsSome (resolved_expression scopes e)
  has_expression scopes for_value (Name n) whole = some_then (variable_named scopes n) _ (has_scalar scopes n whole)
      (λ v. refl)
  has_expression scopes for_value (Constant n) whole = refl
  has_expression scopes for_value (Text t) whole = cc
  has_expression scopes for_value (Paren left e right) whole = has_expression scopes for_value e whole
  has_expression scopes for_value (Index n left e right) whole =
      let i = has_expression scopes true e (back (array_breaches scopes n) (expression_breaches scopes true e) whole) in
      some_then (variable_named scopes n) _
      (has_array scopes n (front (array_breaches scopes n) (expression_breaches scopes true e) whole))
      (λ v. some_then (resolved_expression scopes e) _ i (λ x. refl))
  has_expression scopes for_value (Call n left values right) whole =
      by_test (is_printf (meaning_of scopes n.text)) (λ breaches found. breaches ≡ [] → IsSome found)
      (print_breaches scopes for_value n values) (own_call_breaches scopes for_value n values)
      (print_of (format_in values) (resolved_printed scopes values)) (own_call_of (callee_named scopes n)
      (resolved_values scopes values))
      (λ w. has_print for_value n values (resolved_printed scopes values)
      (front (misprint_breaches for_value n values) (printed_breaches scopes 0 values) w)
      (has_printed scopes values (back (misprint_breaches for_value n values) (printed_breaches scopes 0 values)
      w)))
      (λ w. has_own_call scopes for_value n (argument_count values) (resolved_values scopes values)
      (front (call_breaches scopes for_value n (argument_count values)) (arguments_breaches scopes values) w)
      (has_values scopes values (back (call_breaches scopes for_value n (argument_count values))
      (arguments_breaches scopes values) w)))
      whole
  has_expression scopes for_value (Prefix prefixes.Increment at e) whole = some_then (resolved_target scopes e) _
      (has_target scopes e whole) (λ t. refl)
  has_expression scopes for_value (Prefix prefixes.Decrement at e) whole = some_then (resolved_target scopes e) _
      (has_target scopes e whole) (λ t. refl)
  has_expression scopes for_value (Prefix prefixes.Plus at e) whole = some_then (resolved_expression scopes e) _
      (has_expression scopes true e whole) (λ x. refl)
  has_expression scopes for_value (Prefix prefixes.Minus at e) whole = some_then (resolved_expression scopes e) _
      (has_expression scopes true e whole) (λ x. refl)
  has_expression scopes for_value (Prefix prefixes.Not at e) whole = some_then (resolved_expression scopes e) _
      (has_expression scopes true e whole) (λ x. refl)
  has_expression scopes for_value (Postfix e o at) whole = some_then (resolved_target scopes e) _
      (has_target scopes e whole) (λ t. refl)
  has_expression scopes for_value (Binary a o at b) whole =
      let y = has_expression scopes true b (back (expression_breaches scopes true a)
      (expression_breaches scopes true b) whole) in
      some_then (resolved_expression scopes a) _
      (has_expression scopes true a (front (expression_breaches scopes true a)
      (expression_breaches scopes true b) whole)) (λ x.
      some_then (resolved_expression scopes b) _ y (λ z. refl))
  has_expression scopes for_value (Conditional c question a colon b) whole =
      let first = expression_breaches scopes true c in
      let second = expression_breaches scopes true a in
      let third = expression_breaches scopes true b in
      let before = front (first ++ second) third whole in
      let y = has_expression scopes true a (back first second before) in
      let z = has_expression scopes true b (back (first ++ second) third whole) in
      some_then (resolved_expression scopes c) _ (has_expression scopes true c (front first second before)) (λ t.
      some_then (resolved_expression scopes a) _ y (λ u. some_then (resolved_expression scopes b) _ z (λ v. refl)))
  has_expression scopes for_value (Assign a o at b) whole =
      let y = has_expression scopes true b (back (target_breaches scopes a) (expression_breaches scopes true b)
      whole) in
      some_then (resolved_target scopes a) _
      (has_target scopes a (front (target_breaches scopes a) (expression_breaches scopes true b) whole)) (λ t.
      some_then (resolved_expression scopes b) _ y (λ z. refl))

  has_values : (scopes : Scopes) (values : ArgumentsTree) → arguments_breaches scopes values ≡ []
      → IsSome (resolved_values scopes values)
  has_values scopes NoArguments whole = refl
  has_values scopes (Argument comma e rest) whole =
      let y = has_values scopes rest (back (expression_breaches scopes true e) (arguments_breaches scopes rest)
      whole) in
      some_then (resolved_expression scopes e) _
      (has_expression scopes true e (front (expression_breaches scopes true e) (arguments_breaches scopes rest)
      whole)) (λ x.
      some_then (resolved_values scopes rest) _ y (λ z. refl))

  -- those of a `printf`, behind its format
  has_behind : (scopes : Scopes) (place : ℕ) (values : ArgumentsTree) → 1 ≤ place → printed_breaches scopes place
      values ≡ [] → IsSome (resolved_values scopes values)
  has_behind scopes place NoArguments le whole = refl
  has_behind scopes place (Argument comma e rest) le whole =
      let own = perhaps_with (nat_lt PRINTED_LIMIT place) faults.TooMany (expression_start e)
      (expression_breaches scopes true e) in
      let here = cond (place == 0) [] own in
      let others = printed_breaches scopes (place + 1) rest in
      let y = has_behind scopes (place + 1) rest (omega arith) (back here others whole) in
      some_then (resolved_expression scopes e) _
      (has_expression scopes true e (not_placed (nat_lt PRINTED_LIMIT place) faults.TooMany (expression_start e)
      (expression_breaches scopes true e) (behind_format place own le (front here others whole))))
      (λ x. some_then (resolved_values scopes rest) _ y (λ z. refl))

  has_printed : (scopes : Scopes) (values : ArgumentsTree) → printed_breaches scopes 0 values ≡ []
      → IsSome (resolved_printed scopes values)
  has_printed scopes NoArguments whole = refl
  has_printed scopes (Argument comma e rest) whole = has_behind scopes (0 + 1) rest (omega arith) whole

  has_target : (scopes : Scopes) (e : ExpressionTree) → target_breaches scopes e ≡ []
      → IsSome (resolved_target scopes e)
  has_target scopes (Name n) whole = some_then (variable_named scopes n) _ (has_scalar scopes n whole) (λ v. refl)
  has_target scopes (Index n left e right) whole =
      let i = has_expression scopes true e (back (array_breaches scopes n) (expression_breaches scopes true e) whole) in
      some_then (variable_named scopes n) _
      (has_array scopes n (front (array_breaches scopes n) (expression_breaches scopes true e) whole))
      (λ v. some_then (resolved_expression scopes e) _ i (λ x. refl))
  has_target scopes (Paren left e right) whole =
      by_test (is_target e) (λ breaches found. breaches ≡ [] → IsSome (resolved_target scopes e))
      (target_breaches scopes e) (misplaced_breaches scopes (Paren left e right)) e e
      (λ w. has_target scopes e w) (λ w. absurd (never_misplaced scopes (Paren left e right) w)) whole
  has_target scopes (Constant n) whole = absurd (never_misplaced scopes (Constant n) whole)
  has_target scopes (Text t) whole = absurd (never_misplaced scopes (Text t) whole)
  has_target scopes (Call n left values right) whole = absurd (never_misplaced scopes (Call n left values right) whole)
  has_target scopes (Prefix o at e) whole = absurd (never_misplaced scopes (Prefix o at e) whole)
  has_target scopes (Postfix e o at) whole = absurd (never_misplaced scopes (Postfix e o at) whole)
  has_target scopes (Binary a o at b) whole = absurd (never_misplaced scopes (Binary a o at b) whole)
  has_target scopes (Conditional c question a colon b) whole = absurd
      (never_misplaced scopes (Conditional c question a colon b) whole)
  has_target scopes (Assign a o at b) whole = absurd (never_misplaced scopes (Assign a o at b) whole)
