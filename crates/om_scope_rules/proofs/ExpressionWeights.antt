-- A resolved expression has no more `printf`s than the expression has tokens.
use Rattle.std.proofs.Common.{ℕ, ◌+◌, ℤ, List, [], ◌∷◌, ◌++◌, Option, None, Some}
use Rattle.std.specs.Prelude.{IfSome, nat_eq, ◌-◌}
use Rattle.om_lexer.specs.declared.token.Punctuator.TheVariants as punctuators
use Rattle.om_lexer.specs.declared.token.Span.{Span}
use Rattle.om_lexer.specs.declared.token.Token.{Token}
use Rattle.om_scope_tree.specs.ResolvedTree as resolved
use Rattle.om_scope_tree.specs.ResolvedTree.{ResolvedExpressionTree, ValuesTree}
use Rattle.om_scope_tree.specs.Weights.{expression_weight, perhaps_weight, values_weight}
use Rattle.om_scope_rules.proofs.Fitting.{Fits, nothing, further, counted, behind, before, together, and_none}
use Rattle.om_scope_rules.proofs.Steps.{if_either, if_then}
use Rattle.om_scope_rules.proofs.StepsFrom.{if_behind, if_weaker}
use Rattle.om_scope_rules.specs.ExpressionRules.{is_printf}
use Rattle.om_scope_rules.specs.Resolution.{TargetTree, Scalar, ElementOf, assigned, call_of, callee_named, format_in}
use Rattle.om_scope_rules.specs.Resolution.{own_call_of, prefixed, print_of, resolved_expression, resolved_printed}
use Rattle.om_scope_rules.specs.Resolution.{resolved_target, resolved_values, stepped, variable_named}
use Rattle.om_scope_rules.specs.Scopes.{Scopes, meaning_of}
use Rattle.om_scope_rules.specs.StatementResolution.{resolved_perhaps}
use Rattle.om_parser_tree.specs.declared.tree.AssignOperator.{AssignOperator}
use Rattle.om_parser_tree.specs.declared.tree.PostfixOperator.{PostfixOperator}
use Rattle.om_parser_tree.specs.declared.tree.PrefixOperator.{PrefixOperator}
use Rattle.om_parser_tree.specs.declared.tree.PrefixOperator.TheVariants as prefixes
use Rattle.om_parser_tree.specs.Spelling.{arguments_spelling, expression_spelling, mark, perhaps}
use Rattle.om_parser_tree.specs.Tree.{ExpressionTree, Name, Constant, Text, Paren, Index, Call, Prefix, Postfix, Binary}
use Rattle.om_parser_tree.specs.Tree.{Conditional, Assign, ArgumentsTree, NoArguments, Argument}

-- there are tokens enough for the `printf`s of an expression, of the values of a call, and of what is assigned to
abbrev pub ExpressionFits : List Token → ResolvedExpressionTree → Type 0
ExpressionFits ts e = Fits ts (expression_weight e)

abbrev ValuesFit : List Token → ValuesTree → Type 0
ValuesFit ts values = Fits ts (values_weight values)

abbrev target_weight : TargetTree → ℕ
target_weight (Scalar v) = 0
target_weight (ElementOf v index) = expression_weight index

abbrev TargetFits : List Token → TargetTree → Type 0
TargetFits ts t = Fits ts (target_weight t)

-- the comma before an argument
abbrev comma_tokens : Option Span → List Token
comma_tokens comma = perhaps (λ at. mark punctuators.Comma at ∷ []) comma

-- ---- what resolving makes of the parts

stepped_fits : (ts : List Token) (t : TargetTree) (o : PostfixOperator) → TargetFits ts t
    → ExpressionFits ts (stepped t o)
unfolding expression_weight
stepped_fits ts (Scalar v) o h = h
stepped_fits ts (ElementOf v index) o h = h

assigned_fits : (front back : List Token) (t : TargetTree) (o : AssignOperator) (e : ResolvedExpressionTree)
    → TargetFits front t → ExpressionFits back e → ExpressionFits (front ++ back) (assigned t o e)
unfolding expression_weight
assigned_fits front back (Scalar v) o e ht he = behind (expression_weight e) front back he
assigned_fits front back (ElementOf v index) o e ht he =
    together (expression_weight index) (expression_weight e) front back ht he

-- a constant is added to it
raised_fits : (ts : List Token) (t : TargetTree) (o : AssignOperator) (value : ℤ) → TargetFits ts t
    → ExpressionFits ts (assigned t o (resolved.Constant value))
unfolding expression_weight
raised_fits ts (Scalar v) o value h = nothing ts
raised_fits ts (ElementOf v index) o value h = and_none (expression_weight index) ts h

prefixed_fits : (ts : List Token) (o : PrefixOperator) (target : Option TargetTree)
    (operand : Option ResolvedExpressionTree) → IfSome target (TargetFits ts) → IfSome operand (ExpressionFits ts)
    → IfSome (prefixed o target operand) (ExpressionFits ts)
unfolding expression_weight
prefixed_fits ts prefixes.Increment target operand ht he =
    if_then (TargetFits ts) (ExpressionFits ts) target _ ht (λ t h. raised_fits ts t _ _ h)
prefixed_fits ts prefixes.Decrement target operand ht he =
    if_then (TargetFits ts) (ExpressionFits ts) target _ ht (λ t h. raised_fits ts t _ _ h)
prefixed_fits ts prefixes.Plus target operand ht he =
    if_then (ExpressionFits ts) (ExpressionFits ts) operand _ he (λ e h. h)
prefixed_fits ts prefixes.Minus target operand ht he =
    if_then (ExpressionFits ts) (ExpressionFits ts) operand _ he (λ e h. h)
prefixed_fits ts prefixes.Not target operand ht he =
    if_then (ExpressionFits ts) (ExpressionFits ts) operand _ he (λ e h. h)

-- the name `printf` stands for the format
print_fits : (t : Token) (ts : List Token) (format : Option (List ℕ)) (values : Option ValuesTree)
    → IfSome values (ValuesFit ts) → IfSome (print_of format values) (ExpressionFits (t ∷ ts))
unfolding expression_weight
print_fits t ts None values h = tt
print_fits t ts (Some f) values h =
    if_then (ValuesFit ts) (ExpressionFits (t ∷ ts)) values _ h (λ vs hs. counted (values_weight vs) t ts hs)

call_fits : (ts : List Token) (place : ℕ) (values : ValuesTree) → ValuesFit ts values
    → ExpressionFits ts (call_of place values)
unfolding expression_weight
call_fits ts place values h =
    if_either (ExpressionFits ts) (nat_eq place 1) resolved.ThreadNumber _ (nothing ts)
    (if_either (ExpressionFits ts) (nat_eq place 2) resolved.TeamSize (resolved.Call (place - 3) values) (nothing ts) h)

own_call_fits : (ts : List Token) (callee : Option ℕ) (values : Option ValuesTree) → IfSome values (ValuesFit ts)
    → IfSome (own_call_of callee values) (ExpressionFits ts)
own_call_fits ts None values h = tt
own_call_fits ts (Some place) values h =
    if_then (ValuesFit ts) (ExpressionFits ts) values _ h (λ vs hs. call_fits ts place vs hs)

-- ---- expressions

mutual
  unfolding resolved_expression resolved_values resolved_printed resolved_target expression_spelling
      arguments_spelling expression_weight values_weight

  pub expression_fits : (scopes : Scopes) (e : ExpressionTree)
      → IfSome (resolved_expression scopes e) (ExpressionFits (expression_spelling e))
  expression_fits scopes (Name n) =
      let ts = expression_spelling (Name n) in
      if_behind (ExpressionFits ts) (variable_named scopes n) _ (λ v. nothing ts)
  expression_fits scopes (Constant n) = nothing _
  expression_fits scopes (Text t) = tt
  expression_fits scopes (Paren left e right) =
      let own = expression_spelling e in
      if_weaker (ExpressionFits own) (ExpressionFits (expression_spelling (Paren left e right))) _
      (expression_fits scopes e) (λ x h.
      let n = expression_weight x in
      further n _ _ (before n own _ h))
  expression_fits scopes (Index name left e right) =
      let own = expression_spelling e in
      let goal = ExpressionFits (expression_spelling (Index name left e right)) in
      if_behind goal (variable_named scopes name) _ (λ v.
      if_then (ExpressionFits own) goal _ _ (expression_fits scopes e) (λ x h.
      let n = expression_weight x in
      further n _ _ (further n _ _ (before n own _ h))))
  expression_fits scopes (Call name left values right) =
      let own = arguments_spelling values in
      let ts = expression_spelling (Call name left values right) in
      let given = resolved_values scopes values in
      let printed = resolved_printed scopes values in
      if_either (λ o. IfSome o (ExpressionFits ts)) (is_printf (meaning_of scopes name.text))
      (print_of (format_in values) printed) (own_call_of (callee_named scopes name) given)
      (print_fits _ _ (format_in values) printed
      (if_weaker (ValuesFit own) (ValuesFit _) printed (printed_fit scopes values) (λ vs h.
      let n = values_weight vs in
      further n _ _ (before n own _ h))))
      (own_call_fits ts (callee_named scopes name) given
      (if_weaker (ValuesFit own) (ValuesFit ts) given (values_fit scopes values) (λ vs h.
      let n = values_weight vs in
      further n _ _ (further n _ _ (before n own _ h)))))
  expression_fits scopes (Prefix o at e) =
      let own = expression_spelling e in
      if_weaker (ExpressionFits own) (ExpressionFits (expression_spelling (Prefix o at e)))
      (prefixed o (resolved_target scopes e) (resolved_expression scopes e))
      (prefixed_fits own o (resolved_target scopes e) (resolved_expression scopes e) (target_fits scopes e)
      (expression_fits scopes e)) (λ x h. further (expression_weight x) _ own h)
  expression_fits scopes (Postfix e o at) =
      let own = expression_spelling e in
      let goal = ExpressionFits (expression_spelling (Postfix e o at)) in
      if_then (TargetFits own) goal (resolved_target scopes e) _ (target_fits scopes e) (λ t h.
      before (expression_weight (stepped t o)) own _ (stepped_fits own t o h))
  expression_fits scopes (Binary a o at b) =
      let first = expression_spelling a in
      let last = expression_spelling b in
      let goal = ExpressionFits (expression_spelling (Binary a o at b)) in
      if_then (ExpressionFits first) goal _ _ (expression_fits scopes a) (λ x hx.
      if_then (ExpressionFits last) goal _ _ (expression_fits scopes b) (λ y hy.
      let n = expression_weight y in
      together (expression_weight x) n first _ hx (further n _ last hy)))
  expression_fits scopes (Conditional c question a colon b) =
      let first = expression_spelling c in
      let second = expression_spelling a in
      let last = expression_spelling b in
      let goal = ExpressionFits (expression_spelling (Conditional c question a colon b)) in
      if_then (ExpressionFits first) goal _ _ (expression_fits scopes c) (λ x hx.
      if_then (ExpressionFits second) goal _ _ (expression_fits scopes a) (λ y hy.
      if_then (ExpressionFits last) goal _ _ (expression_fits scopes b) (λ z hz.
      let m = expression_weight y in
      let n = expression_weight z in
      together (expression_weight x) (m + n) first _ hx
      (further (m + n) _ _ (together m n second _ hy (further n _ last hz))))))
  expression_fits scopes (Assign a o at b) =
      let first = expression_spelling a in
      let last = expression_spelling b in
      let goal = ExpressionFits (expression_spelling (Assign a o at b)) in
      if_then (TargetFits first) goal _ _ (target_fits scopes a) (λ t ht.
      if_then (ExpressionFits last) goal _ _ (expression_fits scopes b) (λ y hy.
      assigned_fits first _ t o y ht (further (expression_weight y) _ last hy)))

  values_fit : (scopes : Scopes) (values : ArgumentsTree)
      → IfSome (resolved_values scopes values) (ValuesFit (arguments_spelling values))
  values_fit scopes NoArguments = nothing _
  values_fit scopes (Argument comma e rest) =
      let own = expression_spelling e in
      let tail = arguments_spelling rest in
      let goal = ValuesFit (arguments_spelling (Argument comma e rest)) in
      if_then (ExpressionFits own) goal _ _ (expression_fits scopes e) (λ x hx.
      if_then (ValuesFit tail) goal _ _ (values_fit scopes rest) (λ xs hxs.
      let m = expression_weight x in
      let n = values_weight xs in
      together m n (comma_tokens comma ++ own) tail (behind m (comma_tokens comma) own hx) hxs))

  printed_fit : (scopes : Scopes) (values : ArgumentsTree)
      → IfSome (resolved_printed scopes values) (ValuesFit (arguments_spelling values))
  printed_fit scopes NoArguments = nothing _
  printed_fit scopes (Argument comma e rest) =
      let own = expression_spelling e in
      let tail = arguments_spelling rest in
      if_weaker (ValuesFit tail) (ValuesFit (arguments_spelling (Argument comma e rest))) _ (values_fit scopes rest)
      (λ xs h.
      let n = values_weight xs in
      behind n (comma_tokens comma ++ own) tail h)

  target_fits : (scopes : Scopes) (e : ExpressionTree)
      → IfSome (resolved_target scopes e) (TargetFits (expression_spelling e))
  target_fits scopes (Name name) =
      let ts = expression_spelling (Name name) in
      if_behind (TargetFits ts) (variable_named scopes name) _ (λ v. nothing ts)
  target_fits scopes (Index name left e right) =
      let own = expression_spelling e in
      let goal = TargetFits (expression_spelling (Index name left e right)) in
      if_behind goal (variable_named scopes name) _ (λ v.
      if_then (ExpressionFits own) goal _ _ (expression_fits scopes e) (λ x h.
      let n = expression_weight x in
      further n _ _ (further n _ _ (before n own _ h))))
  target_fits scopes (Paren left e right) =
      let own = expression_spelling e in
      if_weaker (TargetFits own) (TargetFits (expression_spelling (Paren left e right))) _ (target_fits scopes e)
      (λ t h.
      let n = target_weight t in
      further n _ _ (before n own _ h))
  target_fits scopes (Constant number) = tt
  target_fits scopes (Text t) = tt
  target_fits scopes (Call name left values right) = tt
  target_fits scopes (Prefix o at e) = tt
  target_fits scopes (Postfix e o at) = tt
  target_fits scopes (Binary a o at b) = tt
  target_fits scopes (Conditional c question a colon b) = tt
  target_fits scopes (Assign a o at b) = tt

-- the same of an expression that may be left out
abbrev pub PerhapsFits : Option ExpressionTree → Option ResolvedExpressionTree → Type 0
PerhapsFits e x = Fits (perhaps expression_spelling e) (perhaps_weight x)

pub perhaps_fits : (scopes : Scopes) (e : Option ExpressionTree) → IfSome (resolved_perhaps scopes e) (PerhapsFits e)
perhaps_fits scopes None = nothing []
perhaps_fits scopes (Some e) =
    let ts = expression_spelling e in
    if_then (ExpressionFits ts) (PerhapsFits (Some e)) _ _ (expression_fits scopes e) (λ x h. h)
