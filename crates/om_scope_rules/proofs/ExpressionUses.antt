-- A resolved expression uses globals that there are.
use Rattle.std.proofs.Common.{ℕ, List, Option, None, Some}
use Rattle.std.specs.Prelude.{IfSome, nat_eq, ◌-◌}
use Rattle.om_parser_tree.specs.declared.tree.AssignOperator.{AssignOperator}
use Rattle.om_parser_tree.specs.declared.tree.PostfixOperator.{PostfixOperator}
use Rattle.om_parser_tree.specs.declared.tree.PrefixOperator.{PrefixOperator}
use Rattle.om_parser_tree.specs.declared.tree.PrefixOperator.TheVariants as prefixes
use Rattle.om_parser_tree.specs.Tree.{ExpressionTree, Name, Constant, Text, Paren, Index, Call, Prefix, Postfix, Binary}
use Rattle.om_parser_tree.specs.Tree.{Conditional, Assign, ArgumentsTree, NoArguments, Argument}
use Rattle.om_scope_rules.specs.ExpressionRules.{is_printf}
use Rattle.om_scope_rules.specs.Resolution.{TargetTree, Scalar, ElementOf, assigned, stepped, prefixed, variable_named}
use Rattle.om_scope_rules.specs.Resolution.{callee_named, call_of, format_in, print_of, own_call_of, resolved_expression}
use Rattle.om_scope_rules.specs.Resolution.{resolved_values, resolved_printed, resolved_target}
use Rattle.om_scope_tree.specs.ResolvedTree as resolved
use Rattle.om_scope_tree.specs.ResolvedTree.{ResolvedExpressionTree, ValuesTree}
use Rattle.om_scope_rules.specs.Scopes.{Scopes, meaning_of}
use Rattle.om_scope_tree.specs.Uses.{IsVariable, UsesVariables, ValuesUseVariables}
use Rattle.om_scope_rules.proofs.GlobalsBelow.{Below, named_below}
use Rattle.om_scope_rules.proofs.Steps.{if_then, if_either}

abbrev TargetUsesVariables : ℕ → TargetTree → Type 0
TargetUsesVariables n (Scalar v) = IsVariable n v
TargetUsesVariables n (ElementOf v index) = IsVariable n v × UsesVariables n index

-- the parts use those that there are
assigned_uses : (n : ℕ) (t : TargetTree) (o : AssignOperator) (e : ResolvedExpressionTree) → TargetUsesVariables n t
    → UsesVariables n e → UsesVariables n (assigned t o e)
assigned_uses n (Scalar v) o e h he = (h, he)
assigned_uses n (ElementOf v index) o e h he = (h.0, h.1, he)

stepped_uses : (n : ℕ) (t : TargetTree) (o : PostfixOperator) → TargetUsesVariables n t → UsesVariables n (stepped t o)
stepped_uses n (Scalar v) o h = h
stepped_uses n (ElementOf v index) o h = h

prefixed_uses : (n : ℕ) (o : PrefixOperator) (target : Option TargetTree) (operand : Option ResolvedExpressionTree)
    → IfSome target (TargetUsesVariables n) → IfSome operand (UsesVariables n) → IfSome (prefixed o target operand)
    (UsesVariables n)
prefixed_uses n prefixes.Increment target operand ht he = if_then (TargetUsesVariables n) (UsesVariables n) target _
    ht (λ t h. assigned_uses n t _ _ h tt)
prefixed_uses n prefixes.Decrement target operand ht he = if_then (TargetUsesVariables n) (UsesVariables n) target _
    ht (λ t h. assigned_uses n t _ _ h tt)
prefixed_uses n prefixes.Plus target operand ht he = if_then (UsesVariables n) (UsesVariables n) operand _ he (λ e h. h)
prefixed_uses n prefixes.Minus target operand ht he = if_then (UsesVariables n) (UsesVariables n) operand _ he
    (λ e h. h)
prefixed_uses n prefixes.Not target operand ht he = if_then (UsesVariables n) (UsesVariables n) operand _ he (λ e h. h)

print_uses : (n : ℕ) (format : Option (List ℕ)) (values : Option ValuesTree) → IfSome values (ValuesUseVariables n)
    → IfSome (print_of format values) (UsesVariables n)
print_uses n None values h = tt
print_uses n (Some f) values h = if_then (ValuesUseVariables n) (UsesVariables n) values _ h (λ vs hs. hs)

call_uses : (n : ℕ) (place : ℕ) (values : ValuesTree) → ValuesUseVariables n values → UsesVariables n
    (call_of place values)
call_uses n place values h =
    if_either (UsesVariables n) (nat_eq place 1) resolved.ThreadNumber _ tt
    (if_either (UsesVariables n) (nat_eq place 2) resolved.TeamSize (resolved.Call (place - 3) values) tt h)

own_call_uses : (n : ℕ) (callee : Option ℕ) (values : Option ValuesTree) → IfSome values (ValuesUseVariables n)
    → IfSome (own_call_of callee values) (UsesVariables n)
own_call_uses n None values h = tt
own_call_uses n (Some place) values h = if_then (ValuesUseVariables n) (UsesVariables n) values _ h
    (λ vs hs. call_uses n place vs hs)

mutual
  unfolding resolved_expression resolved_values resolved_printed resolved_target

  pub expression_uses : (n : ℕ) (scopes : Scopes) (e : ExpressionTree) → Below n scopes
      → IfSome (resolved_expression scopes e) (UsesVariables n)
  expression_uses n scopes (Name name) h = if_then (IsVariable n) (UsesVariables n) (variable_named scopes name) _
      (named_below n scopes name h) (λ v hv. hv)
  expression_uses n scopes (Constant number) h = tt
  expression_uses n scopes (Text t) h = tt
  expression_uses n scopes (Paren left e right) h = expression_uses n scopes e h
  expression_uses n scopes (Index name left e right) h =
      if_then (IsVariable n) (UsesVariables n) (variable_named scopes name) _ (named_below n scopes name h) (λ v hv.
      if_then (UsesVariables n) (UsesVariables n) (resolved_expression scopes e) _ (expression_uses n scopes e h)
      (λ i hi. (hv, hi)))
  expression_uses n scopes (Call name left values right) h =
      if_either (λ o. IfSome o (UsesVariables n)) (is_printf (meaning_of scopes name.text))
      (print_of (format_in values) (resolved_printed scopes values)) (own_call_of (callee_named scopes name)
      (resolved_values scopes values))
      (print_uses n (format_in values) (resolved_printed scopes values) (printed_use n scopes values h))
      (own_call_uses n (callee_named scopes name) (resolved_values scopes values) (values_use n scopes values h))
  expression_uses n scopes (Prefix o at e) h = prefixed_uses n o (resolved_target scopes e)
      (resolved_expression scopes e) (target_uses n scopes e h) (expression_uses n scopes e h)
  expression_uses n scopes (Postfix e o at) h = if_then (TargetUsesVariables n) (UsesVariables n)
      (resolved_target scopes e) _ (target_uses n scopes e h) (λ t ht. stepped_uses n t o ht)
  expression_uses n scopes (Binary a o at b) h =
      if_then (UsesVariables n) (UsesVariables n) (resolved_expression scopes a) _ (expression_uses n scopes a h)
      (λ x hx.
      if_then (UsesVariables n) (UsesVariables n) (resolved_expression scopes b) _ (expression_uses n scopes b h)
      (λ y hy. (hx, hy)))
  expression_uses n scopes (Conditional c question a colon b) h =
      if_then (UsesVariables n) (UsesVariables n) (resolved_expression scopes c) _ (expression_uses n scopes c h)
      (λ z hz.
      if_then (UsesVariables n) (UsesVariables n) (resolved_expression scopes a) _ (expression_uses n scopes a h)
      (λ x hx.
      if_then (UsesVariables n) (UsesVariables n) (resolved_expression scopes b) _ (expression_uses n scopes b h)
      (λ y hy. (hz, hx, hy))))
  expression_uses n scopes (Assign a o at b) h =
      if_then (TargetUsesVariables n) (UsesVariables n) (resolved_target scopes a) _ (target_uses n scopes a h) (λ t ht.
      if_then (UsesVariables n) (UsesVariables n) (resolved_expression scopes b) _ (expression_uses n scopes b h)
      (λ y hy. assigned_uses n t o y ht hy))

  values_use : (n : ℕ) (scopes : Scopes) (values : ArgumentsTree) → Below n scopes
      → IfSome (resolved_values scopes values) (ValuesUseVariables n)
  values_use n scopes NoArguments h = tt
  values_use n scopes (Argument comma e rest) h =
      if_then (UsesVariables n) (ValuesUseVariables n) (resolved_expression scopes e) _
      (expression_uses n scopes e h) (λ x hx.
      if_then (ValuesUseVariables n) (ValuesUseVariables n) (resolved_values scopes rest) _
      (values_use n scopes rest h) (λ xs hxs. (hx, hxs)))

  printed_use : (n : ℕ) (scopes : Scopes) (values : ArgumentsTree) → Below n scopes
      → IfSome (resolved_printed scopes values) (ValuesUseVariables n)
  printed_use n scopes NoArguments h = tt
  printed_use n scopes (Argument comma e rest) h = values_use n scopes rest h

  target_uses : (n : ℕ) (scopes : Scopes) (e : ExpressionTree) → Below n scopes → IfSome (resolved_target scopes e)
      (TargetUsesVariables n)
  target_uses n scopes (Name name) h = if_then (IsVariable n) (TargetUsesVariables n) (variable_named scopes name) _
      (named_below n scopes name h) (λ v hv. hv)
  target_uses n scopes (Index name left e right) h =
      if_then (IsVariable n) (TargetUsesVariables n) (variable_named scopes name) _ (named_below n scopes name h)
      (λ v hv.
      if_then (UsesVariables n) (TargetUsesVariables n) (resolved_expression scopes e) _
      (expression_uses n scopes e h) (λ i hi. (hv, hi)))
  target_uses n scopes (Paren left e right) h = target_uses n scopes e h
  target_uses n scopes (Constant number) h = tt
  target_uses n scopes (Text t) h = tt
  target_uses n scopes (Call name left values right) h = tt
  target_uses n scopes (Prefix o at e) h = tt
  target_uses n scopes (Postfix e o at) h = tt
  target_uses n scopes (Binary a o at b) h = tt
  target_uses n scopes (Conditional c question a colon b) h = tt
  target_uses n scopes (Assign a o at b) h = tt
