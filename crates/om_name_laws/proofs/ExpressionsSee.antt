-- P of each variable that a resolved expression uses, where it is true of each that a name means.
use Rattle.std.proofs.Common.{ℕ, List, Option, None, Some}
use Rattle.std.specs.Prelude.{IfSome, nat_eq, ◌-◌}
use Rattle.om_parser_tree.specs.declared.tree.AssignOperator.{AssignOperator}
use Rattle.om_parser_tree.specs.declared.tree.PostfixOperator.{PostfixOperator}
use Rattle.om_parser_tree.specs.declared.tree.PrefixOperator.{PrefixOperator}
use Rattle.om_parser_tree.specs.declared.tree.PrefixOperator.TheVariants as prefixes
use Rattle.om_parser_tree.specs.Tree.{ExpressionTree, Name, Constant, Text, Paren, Index, Call, Prefix, Postfix, Binary}
use Rattle.om_parser_tree.specs.Tree.{Conditional, Assign, ArgumentsTree, NoArguments, Argument}
use Rattle.om_scope_rules.specs.ExpressionRules.{is_printf}
use Rattle.om_scope_rules.specs.Resolution.{TargetTree, Scalar, ElementOf, assigned, stepped, prefixed, variable_named}
use Rattle.om_scope_rules.specs.Resolution.{callee_named, call_of, format_in, print_of, own_call_of}
use Rattle.om_scope_rules.specs.Resolution.{resolved_expression}
use Rattle.om_scope_rules.specs.Resolution.{resolved_values, resolved_printed, resolved_target}
use Rattle.om_scope_tree.specs.ResolvedTree as resolved
use Rattle.om_scope_tree.specs.ResolvedTree.{ResolvedExpressionTree, ValuesTree}
use Rattle.om_scope_rules.specs.Scopes.{Scopes, meaning_of}
use Rattle.om_scope_tree.specs.declared.resolved.Variable.{Variable}
use Rattle.om_scope_rules.specs.Resolution.{variable_of}
use Rattle.om_name_laws.specs.Sees.{EachUse, EachUseIn}
use Rattle.om_name_laws.proofs.Steps.{if_then, if_either}

-- P of each variable that a name means
abbrev pub AreNamed : (P : Variable → Type 0) → Scopes → Type 0
AreNamed P scopes = (name : List ℕ) → IfSome (variable_of (meaning_of scopes name)) P

abbrev pub TargetUses : (P : Variable → Type 0) → TargetTree → Type 0
TargetUses P (Scalar v) = P v
TargetUses P (ElementOf v index) = P v × EachUse P index

-- the parts use those that there are
assigned_uses : (P : Variable → Type 0) (t : TargetTree) (o : AssignOperator) (e : ResolvedExpressionTree) → TargetUses
    P t
    → EachUse P e → EachUse P (assigned t o e)
assigned_uses P (Scalar v) o e h he = (h, he)
assigned_uses P (ElementOf v index) o e h he = (h.0, h.1, he)

stepped_uses : (P : Variable → Type 0) (t : TargetTree) (o : PostfixOperator) → TargetUses P t → EachUse P (stepped t o)
stepped_uses P (Scalar v) o h = h
stepped_uses P (ElementOf v index) o h = h

prefixed_uses : (P : Variable → Type 0) (o : PrefixOperator) (target : Option TargetTree)
    (operand : Option ResolvedExpressionTree)
    → IfSome target (TargetUses P) → IfSome operand (EachUse P) → IfSome (prefixed o target operand)
    (EachUse P)
prefixed_uses P prefixes.Increment target operand ht he = if_then (TargetUses P) (EachUse P) target _
    ht (λ t h. assigned_uses P t _ _ h tt)
prefixed_uses P prefixes.Decrement target operand ht he = if_then (TargetUses P) (EachUse P) target _
    ht (λ t h. assigned_uses P t _ _ h tt)
prefixed_uses P prefixes.Plus target operand ht he = if_then (EachUse P) (EachUse P) operand _ he (λ e h. h)
prefixed_uses P prefixes.Minus target operand ht he = if_then (EachUse P) (EachUse P) operand _ he
    (λ e h. h)
prefixed_uses P prefixes.Not target operand ht he = if_then (EachUse P) (EachUse P) operand _ he (λ e h. h)

print_uses : (P : Variable → Type 0) (format : Option (List ℕ)) (values : Option ValuesTree) → IfSome values
    (EachUseIn P)
    → IfSome (print_of format values) (EachUse P)
print_uses P None values h = tt
print_uses P (Some f) values h = if_then (EachUseIn P) (EachUse P) values _ h (λ vs hs. hs)

call_uses : (P : Variable → Type 0) (place : ℕ) (values : ValuesTree) → EachUseIn P values → EachUse P
    (call_of place values)
call_uses P place values h =
    if_either (EachUse P) (nat_eq place 1) resolved.ThreadNumber _ tt
    (if_either (EachUse P) (nat_eq place 2) resolved.TeamSize (resolved.Call (place - 3) values) tt h)

own_call_uses : (P : Variable → Type 0) (callee : Option ℕ) (values : Option ValuesTree) → IfSome values (EachUseIn P)
    → IfSome (own_call_of callee values) (EachUse P)
own_call_uses P None values h = tt
own_call_uses P (Some place) values h = if_then (EachUseIn P) (EachUse P) values _ h
    (λ vs hs. call_uses P place vs hs)

mutual
  unfolding resolved_expression resolved_values resolved_printed resolved_target

  pub expression_uses : (P : Variable → Type 0) (scopes : Scopes) (e : ExpressionTree) → AreNamed P scopes
      → IfSome (resolved_expression scopes e) (EachUse P)
  expression_uses P scopes (Name name) h = if_then (P) (EachUse P) (variable_named scopes name) _
      (h name.text) (λ v hv. hv)
  expression_uses P scopes (Constant number) h = tt
  expression_uses P scopes (Text t) h = tt
  expression_uses P scopes (Paren left e right) h = expression_uses P scopes e h
  expression_uses P scopes (Index name left e right) h =
      if_then (P) (EachUse P) (variable_named scopes name) _ (h name.text) (λ v hv.
      if_then (EachUse P) (EachUse P) (resolved_expression scopes e) _ (expression_uses P scopes e h)
      (λ i hi. (hv, hi)))
  expression_uses P scopes (Call name left values right) h =
      if_either (λ o. IfSome o (EachUse P)) (is_printf (meaning_of scopes name.text))
      (print_of (format_in values) (resolved_printed scopes values)) (own_call_of (callee_named scopes name)
      (resolved_values scopes values))
      (print_uses P (format_in values) (resolved_printed scopes values) (printed_use P scopes values h))
      (own_call_uses P (callee_named scopes name) (resolved_values scopes values) (values_use P scopes values h))
  expression_uses P scopes (Prefix o at e) h = prefixed_uses P o (resolved_target scopes e)
      (resolved_expression scopes e) (target_uses P scopes e h) (expression_uses P scopes e h)
  expression_uses P scopes (Postfix e o at) h = if_then (TargetUses P) (EachUse P)
      (resolved_target scopes e) _ (target_uses P scopes e h) (λ t ht. stepped_uses P t o ht)
  expression_uses P scopes (Binary a o at b) h =
      if_then (EachUse P) (EachUse P) (resolved_expression scopes a) _ (expression_uses P scopes a h)
      (λ x hx.
      if_then (EachUse P) (EachUse P) (resolved_expression scopes b) _ (expression_uses P scopes b h)
      (λ y hy. (hx, hy)))
  expression_uses P scopes (Conditional c question a colon b) h =
      if_then (EachUse P) (EachUse P) (resolved_expression scopes c) _ (expression_uses P scopes c h)
      (λ z hz.
      if_then (EachUse P) (EachUse P) (resolved_expression scopes a) _ (expression_uses P scopes a h)
      (λ x hx.
      if_then (EachUse P) (EachUse P) (resolved_expression scopes b) _ (expression_uses P scopes b h)
      (λ y hy. (hz, hx, hy))))
  expression_uses P scopes (Assign a o at b) h =
      if_then (TargetUses P) (EachUse P) (resolved_target scopes a) _ (target_uses P scopes a h) (λ t ht.
      if_then (EachUse P) (EachUse P) (resolved_expression scopes b) _ (expression_uses P scopes b h)
      (λ y hy. assigned_uses P t o y ht hy))

  values_use : (P : Variable → Type 0) (scopes : Scopes) (values : ArgumentsTree) → AreNamed P scopes
      → IfSome (resolved_values scopes values) (EachUseIn P)
  values_use P scopes NoArguments h = tt
  values_use P scopes (Argument comma e rest) h =
      if_then (EachUse P) (EachUseIn P) (resolved_expression scopes e) _
      (expression_uses P scopes e h) (λ x hx.
      if_then (EachUseIn P) (EachUseIn P) (resolved_values scopes rest) _
      (values_use P scopes rest h) (λ xs hxs. (hx, hxs)))

  printed_use : (P : Variable → Type 0) (scopes : Scopes) (values : ArgumentsTree) → AreNamed P scopes
      → IfSome (resolved_printed scopes values) (EachUseIn P)
  printed_use P scopes NoArguments h = tt
  printed_use P scopes (Argument comma e rest) h = values_use P scopes rest h

  target_uses : (P : Variable → Type 0) (scopes : Scopes) (e : ExpressionTree) → AreNamed P scopes → IfSome
      (resolved_target scopes e)
      (TargetUses P)
  target_uses P scopes (Name name) h = if_then (P) (TargetUses P) (variable_named scopes name) _
      (h name.text) (λ v hv. hv)
  target_uses P scopes (Index name left e right) h =
      if_then (P) (TargetUses P) (variable_named scopes name) _ (h name.text)
      (λ v hv.
      if_then (EachUse P) (TargetUses P) (resolved_expression scopes e) _
      (expression_uses P scopes e h) (λ i hi. (hv, hi)))
  target_uses P scopes (Paren left e right) h = target_uses P scopes e h
  target_uses P scopes (Constant number) h = tt
  target_uses P scopes (Text t) h = tt
  target_uses P scopes (Call name left values right) h = tt
  target_uses P scopes (Prefix o at e) h = tt
  target_uses P scopes (Postfix e o at) h = tt
  target_uses P scopes (Binary a o at b) h = tt
  target_uses P scopes (Conditional c question a colon b) h = tt
  target_uses P scopes (Assign a o at b) h = tt
