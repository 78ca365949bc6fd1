-- Declarations, jumps and the beginnings of loops without a breach resolve to whole ones.
use Rattle.std.proofs.Common.{◌≡◌, ℕ, ◌≤◌, zero, suc, Bool, true, false, cond, not, List, [], ◌∷◌, ◌++◌, Option, None}
use Rattle.std.proofs.Common.{Some, refl, subst, arith}
use Rattle.std.specs.Prelude.{IfSome, nat_eq}
use Rattle.om_lexer.specs.declared.fault.FaultCode.TheVariants as faults
use Rattle.om_scope_tree.specs.ResolvedTree as resolved
use Rattle.om_scope_tree.specs.ResolvedTree.{ResolvedExpressionTree, ResolvedDeclaratorTree, ResolvedClauseTree}
use Rattle.om_scope_tree.specs.ResolvedTree.{ResolvedLoopTree, ResolvedStartTree, ResolvedStatementTree}
use Rattle.om_scope_tree.specs.Whole as whole
use Rattle.om_scope_tree.specs.Whole.{Around, IsWhole, IsWholeIfAny, AreWholeDeclarators, declared, after_declarators}
use Rattle.om_scope_tree.specs.Whole.{IsWholeStart, after_start, IsWholeReturn, repeated, within, iterated, after_item}
use Rattle.om_scope_rules.specs.declared.region.Flow.{Flow}
use Rattle.om_pragma.specs.declared.tree.Directive.{Directive}
use Rattle.om_scope_rules.specs.DirectiveRules.{constructing}
use Rattle.om_scope_rules.specs.ExpressionRules.{expression_breaches, misplaced_breaches}
use Rattle.om_scope_rules.specs.Knowing.{Known, Knows, Agrees}
use Rattle.om_scope_rules.specs.Resolution.{resolved_expression}
use Rattle.om_scope_rules.specs.Scopes as scoping
use Rattle.om_scope_rules.specs.Scopes.{Scopes, declarators_of, after_local, after_locals}
use Rattle.om_scope_rules.specs.StatementResolution.{local_of, length_of, resolved_initial, resolved_declarator}
use Rattle.om_scope_rules.specs.StatementResolution.{resolved_declarators, resolved_start, resolved_perhaps}
use Rattle.om_scope_rules.specs.StatementRules.{continuing, redeclared_breaches, is_empty_array, array_size_breaches}
use Rattle.om_scope_rules.specs.StatementRules.{initializer_breaches, local_breaches, locals_breaches, return_breaches}
use Rattle.om_scope_rules.specs.StatementRules.{perhaps_breaches, for_start_breaches, after_for_start, looping}
use Rattle.om_scope_rules.proofs.ExpressionsResolve.{never_misplaced}
use Rattle.om_scope_rules.proofs.ExpressionsWhole.{whole_expression}
use Rattle.om_scope_rules.proofs.Knowing.{known_local, known_more}
use Rattle.om_scope_rules.proofs.Steps.{if_then}
use Rattle.om_scope_rules.proofs.Unbroken.{front, back, not_broken}
use Rattle.om_parser_tree.specs.declared.tree.ArrayLength.{ArrayLength}
use Rattle.om_parser_tree.specs.Tree.{ExpressionTree, InitializerTree, DeclaratorTree, ForStartTree, Nothing, StartExpression}
use Rattle.om_parser_tree.specs.Tree.{StartDeclaration}

-- ---- declarations

pub whole_perhaps : (around : Around) (scopes : Scopes) (for_value : Bool) (e : Option ExpressionTree)
    → Knows around scopes → perhaps_breaches scopes for_value e ≡ [] → IfSome (resolved_perhaps scopes e)
    (IsWholeIfAny around for_value)
whole_perhaps around scopes for_value None h w = tt
whole_perhaps around scopes for_value (Some e) h w =
    if_then (IsWhole around for_value) (IsWholeIfAny around for_value) (resolved_expression scopes e) _
    (whole_expression around scopes for_value e h w) (λ x hx. hx)

whole_initial : (around : Around) (scopes : Scopes) (initializer : Option (InitializerTree ExpressionTree))
    → Knows around scopes
    → initializer_breaches scopes initializer ≡ [] → IfSome (resolved_initial scopes initializer)
    (IsWholeIfAny around true)
whole_initial around scopes None h w = tt
whole_initial around scopes (Some i) h w =
    if_then (IsWhole around true) (IsWholeIfAny around true) (resolved_expression scopes i.value) _
    (whole_expression around scopes true i.value h w) (λ x hx. hx)

has_element : (array : Option ArrayLength) → is_empty_array array ≡ false → IfSome (length_of array)
    (λ length. 1 ≤ length)
has_element None e = tt
has_element (Some array) e = by array.size.value e
  where
    by : (n : ℕ) → nat_eq n 0 ≡ false → 1 ≤ n
    by zero e = cc
    by (suc n) e = omega arith

same_shape : (array : Option ArrayLength) → scoping.shape_of array ≡ whole.shape_of (length_of array)
same_shape None = refl
same_shape (Some array) = refl

-- a declared variable is known behind its name
known_declared : (around : Around) (scopes : Scopes) (d : DeclaratorTree ExpressionTree)
    (initial : Option ResolvedExpressionTree)
    → Knows around scopes
    → Knows (declared around (record { variable = local_of d.name; length = length_of d.array; initial = initial }))
    (after_local scopes d)
known_declared around scopes d initial h =
    subst (λ shape. Known around.globals around.functions (around.locals ++ (d.name.span.start, shape) ∷ [])
    (after_local scopes d)) (same_shape d.array)
    (known_local around.globals around.functions around.locals scopes d.name (scoping.shape_of d.array) h)

-- a resolved declarator, and what is known behind it
abbrev IsGoodDeclarator : Around → Scopes → DeclaratorTree ExpressionTree → ResolvedDeclaratorTree → Type 0
IsGoodDeclarator around scopes d r = IfSome r.length (λ length. 1 ≤ length) × IsWholeIfAny (declared around r) true
    r.initial × Knows (declared around r) (after_local scopes d)

whole_declarator : (around : Around) (scopes : Scopes) (d : DeclaratorTree ExpressionTree) → Knows around scopes
    → local_breaches scopes d ≡ [] → IfSome (resolved_declarator scopes d) (IsGoodDeclarator around scopes d)
unfolding local_breaches resolved_declarator
whole_declarator around scopes d h w =
    let before = redeclared_breaches scopes d.name ++ array_size_breaches d in
    let own = initializer_breaches (after_local scopes d) d.initializer in
    let full = not_broken (is_empty_array d.array) faults.Misuse d.name.span.start
    (back (redeclared_breaches scopes d.name) (array_size_breaches d) (front before own w)) in
    let behind = known_declared around scopes d None h in
    if_then (IsWholeIfAny
    (declared around (record { variable = local_of d.name; length = length_of d.array; initial = None })) true)
    (IsGoodDeclarator around scopes d)
    (resolved_initial (after_local scopes d) d.initializer) _
    (whole_initial (declared around (record {
      variable = local_of d.name;
      length = length_of d.array;
      initial = None;
    })) (after_local scopes d) d.initializer behind (back before own w))
    (λ initial hi. (has_element d.array full, hi, behind))

-- resolved declarators, and what is known behind them
abbrev pub AreGoodDeclarators : Around → Scopes → List (DeclaratorTree ExpressionTree) → List ResolvedDeclaratorTree
    → Type 0
AreGoodDeclarators around scopes ds rs = AreWholeDeclarators around rs × Knows (after_declarators around rs)
    (after_locals scopes ds)

pub whole_declarators : (ds : List (DeclaratorTree ExpressionTree)) (around : Around) (scopes : Scopes)
    → Knows around scopes
    → locals_breaches scopes ds ≡ [] → IfSome (resolved_declarators scopes ds) (AreGoodDeclarators around scopes ds)
whole_declarators [] around scopes h w = (tt, h)
whole_declarators (d ∷ ds) around scopes h w =
    if_then (IsGoodDeclarator around scopes d) (AreGoodDeclarators around scopes (d ∷ ds))
    (resolved_declarator scopes d) _
    (whole_declarator around scopes d h (front (local_breaches scopes d) (locals_breaches (after_local scopes d) ds)
    w)) (λ r hr.
    if_then (AreGoodDeclarators (declared around r) (after_local scopes d) ds)
    (AreGoodDeclarators around scopes (d ∷ ds)) (resolved_declarators (after_local scopes d) ds) _
    (whole_declarators ds (declared around r) (after_local scopes d) hr.2
    (back (local_breaches scopes d) (locals_breaches (after_local scopes d) ds) w))
    (λ rs hrs. ((hr.0, hr.1, hrs.0), hrs.1)))

-- what a `for` begins with, and what is known behind it
abbrev pub IsGoodStart : Around → Scopes → ForStartTree → ResolvedStartTree → Type 0
IsGoodStart around scopes start r = IsWholeStart around r × Knows (after_start around r) (after_for_start scopes start)

pub whole_start : (around : Around) (scopes : Scopes) (start : ForStartTree) → Knows around scopes
    → for_start_breaches scopes start ≡ [] → IfSome (resolved_start scopes start) (IsGoodStart around scopes start)
unfolding resolved_start
whole_start around scopes (Nothing semicolon) h w = (tt, h)
whole_start around scopes (StartExpression e semicolon) h w =
    if_then (IsWhole around false) (IsGoodStart around scopes (StartExpression e semicolon))
    (resolved_expression scopes e) _ (whole_expression around scopes false e h w) (λ x hx. (hx, h))
whole_start around scopes (StartDeclaration d) h w =
    if_then (AreGoodDeclarators around scopes (declarators_of d)) (IsGoodStart around scopes (StartDeclaration d))
    (resolved_declarators scopes (declarators_of d)) _
    (whole_declarators (declarators_of d) around scopes h w) (λ ds hds. hds)

-- ---- jumps

pub whole_return : (around : Around) (scopes : Scopes) (flow : Flow) (value : Option ExpressionTree)
    → Knows around scopes → around.returns ≡ flow.returns → return_breaches scopes flow value ≡ []
    → IfSome (resolved_perhaps scopes value) (IsWholeReturn around)
whole_return around scopes flow None h same w = tt
whole_return around scopes flow (Some e) h same w = by flow.returns same w
  where
    by : (returns : Bool) → around.returns ≡ returns → cond returns (expression_breaches scopes true e)
        (misplaced_breaches scopes e) ≡ [] → IfSome (resolved_perhaps scopes (Some e)) (IsWholeReturn around)
    by true same w = if_then (IsWhole around true) (IsWholeReturn around) (resolved_expression scopes e) _
        (whole_expression around scopes true e h w) (λ x hx. (same, hx))
    by false same w = absurd (never_misplaced scopes e w)

pub not_true : (a : Bool) → not (not a) ≡ false → a ≡ false
not_true true e = cc
not_true false e = refl

-- ---- what stands round a further place

agrees_declarators : (ds : List ResolvedDeclaratorTree) (around : Around) (flow : Flow) → Agrees around flow
    → Agrees (after_declarators around ds) flow
agrees_declarators [] around flow f = f
agrees_declarators (d ∷ ds) around flow f =
    agrees_declarators ds (declared around d) flow (record {
      breaks = f.breaks;
      continues = f.continues;
      returns = f.returns;
      in_construct = f.in_construct;
    })

pub agrees_looping : (around : Around) (flow : Flow) → Agrees around flow → Agrees (repeated around) (looping flow)
agrees_looping around flow f = record {
  breaks = refl;
  continues = refl;
  returns = f.returns;
  in_construct = f.in_construct;
}

pub agrees_start : (around : Around) (flow : Flow) (start : ResolvedStartTree) → Agrees around flow
    → Agrees (after_start around start) flow
agrees_start around flow resolved.StartNothing f = f
agrees_start around flow (resolved.StartExpression e) f = f
agrees_start around flow (resolved.StartDeclaration ds) f = agrees_declarators ds around flow f

pub agrees_item : (around : Around) (flow : Flow) (t : ResolvedStatementTree) → Agrees around flow
    → Agrees (after_item around t) flow
agrees_item around flow (resolved.Declaration at ds) f = agrees_declarators ds around flow f
agrees_item around flow (resolved.Block at items) f = f
agrees_item around flow (resolved.Empty at) f = f
agrees_item around flow (resolved.Expression at e) f = f
agrees_item around flow (resolved.If at c s) f = f
agrees_item around flow (resolved.IfElse at c s u) f = f
agrees_item around flow (resolved.While at c s) f = f
agrees_item around flow (resolved.Do at s c) f = f
agrees_item around flow (resolved.For at start condition step s) f = f
agrees_item around flow (resolved.Return at value) f = f
agrees_item around flow (resolved.Break at) f = f
agrees_item around flow (resolved.Continue at) f = f
agrees_item around flow (resolved.Region at kind cs captures s) f = f
agrees_item around flow (resolved.Loop at cs nowait l s) f = f
agrees_item around flow (resolved.Sections at cs nowait items) f = f
agrees_item around flow (resolved.Construct at kind cs s) f = f
agrees_item around flow (resolved.Update at u) f = f
agrees_item around flow (resolved.StandAlone at directive) f = f

pub agrees_construct : (around : Around) (flow : Flow) (d : Directive ExpressionTree) (cs : List ResolvedClauseTree)
    → Agrees around flow → Agrees (within around cs) (constructing d flow)
agrees_construct around flow d cs f = record {
  breaks = refl;
  continues = refl;
  returns = f.returns;
  in_construct = refl;
}

pub agrees_loop : (around : Around) (flow : Flow) (d : Directive ExpressionTree) (cs : List ResolvedClauseTree)
    (l : ResolvedLoopTree) → Agrees around flow → Agrees (iterated around cs l) (continuing (constructing d flow))
agrees_loop around flow d cs l f = record { breaks = refl; continues = refl; returns = f.returns; in_construct = refl }

-- what is known stays so behind an item
knows_declarators : (ds : List ResolvedDeclaratorTree) (around : Around) (scopes : Scopes) → Knows around scopes
    → Knows (after_declarators around ds) scopes
knows_declarators [] around scopes h = h
knows_declarators (d ∷ ds) around scopes h = knows_declarators ds (declared around d) scopes
    (known_more around.globals around.functions around.locals (whole.local_of d ∷ []) scopes h)

pub knows_item : (around : Around) (scopes : Scopes) (t : ResolvedStatementTree) → Knows around scopes
    → Knows (after_item around t) scopes
knows_item around scopes (resolved.Declaration at ds) h = knows_declarators ds around scopes h
knows_item around scopes (resolved.Block at items) h = h
knows_item around scopes (resolved.Empty at) h = h
knows_item around scopes (resolved.Expression at e) h = h
knows_item around scopes (resolved.If at c s) h = h
knows_item around scopes (resolved.IfElse at c s u) h = h
knows_item around scopes (resolved.While at c s) h = h
knows_item around scopes (resolved.Do at s c) h = h
knows_item around scopes (resolved.For at start condition step s) h = h
knows_item around scopes (resolved.Return at value) h = h
knows_item around scopes (resolved.Break at) h = h
knows_item around scopes (resolved.Continue at) h = h
knows_item around scopes (resolved.Region at kind cs captures s) h = h
knows_item around scopes (resolved.Loop at cs nowait l s) h = h
knows_item around scopes (resolved.Sections at cs nowait items) h = h
knows_item around scopes (resolved.Construct at kind cs s) h = h
knows_item around scopes (resolved.Update at u) h = h
knows_item around scopes (resolved.StandAlone at directive) h = h
