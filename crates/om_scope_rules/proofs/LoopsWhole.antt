-- A canonical loop without a breach resolves to a whole one.
use Rattle.std.proofs.Common.{◌≡◌, ℕ, ◌≤◌, ℤ, pos, Bool, true, false, cond, ◌&&◌, List, [], ◌∷◌, ◌++◌, Option, None}
use Rattle.std.proofs.Common.{Some, refl, sym, subst, arith}
use Rattle.std.proofs.lemmas.Int.{ints}
use Rattle.std.specs.Prelude.{IfSome, option_map, ◌-ℤ◌, ◌<ℤ◌, nat_lt, nat_le}
use Rattle.std.proofs.lemmas.Bool.Decides.{nat_tests}
use Rattle.om_pragma.specs.declared.clause.Clause.{Clause}
use Rattle.om_pragma.specs.declared.clause.Clause.TheVariants as clauses
use Rattle.om_pragma.specs.declared.clause.ClauseItem.{ClauseItem}
use Rattle.om_pragma.specs.declared.clause.Number.{Number}
use Rattle.om_pragma.specs.declared.tree.Directive.{Directive}
use Rattle.om_pragma.specs.declared.tree.DirectiveName.{DirectiveName}
use Rattle.om_pragma.specs.Table.{IsChunk, IsClause, IsItem, EachBehind, IsDirective}
use Rattle.om_lexer.specs.declared.token.Span.{Span}
use Rattle.om_scope_tree.specs.declared.resolved.ResolvedSchedule.{ResolvedSchedule}
use Rattle.om_scope_tree.specs.declared.resolved.Shape.TheVariants as shapes
use Rattle.om_scope_tree.specs.ResolvedTree.{ResolvedLoopTree}
use Rattle.om_scope_tree.specs.Whole.{Around, IsWhole, IsStep, IsWholeLoop, scalar, with_locals}
use Rattle.om_scope_rules.specs.declared.canonical.Direction.{Direction}
use Rattle.om_scope_rules.specs.declared.canonical.Direction.TheVariants as directions
use Rattle.om_scope_rules.specs.declared.canonical.Step.{Step}
use Rattle.om_scope_rules.specs.ExpressionRules.{expression_breaches}
use Rattle.om_scope_rules.specs.Knowing.{Knows}
use Rattle.om_scope_rules.specs.Loops.{is_named, signed, one_step, step_of, stride_in, LoopStart, Bound, bounded}
use Rattle.om_scope_rules.specs.Loops.{comparison_direction, compared, bound_of, prefix_step, postfix_step, added_step}
use Rattle.om_scope_rules.specs.Loops.{subtracted_step, sum_step, value_step, assigned_step, step_in, same_direction, Loop}
use Rattle.om_scope_rules.specs.Loops.{start_of, loop_to, loop_of, loop_in}
use Rattle.om_scope_rules.specs.Perhaps.{◌>>=◌}
use Rattle.om_scope_rules.specs.Resolution.{resolved_expression}
use Rattle.om_scope_rules.specs.Scopes.{Scopes, inside}
use Rattle.om_scope_rules.specs.StatementResolution.{local_of, clause_schedule, schedule_of, bounds_scopes, resolved_loop}
use Rattle.om_scope_rules.specs.StatementRules.{with_iteration, variable_breaches, values_breaches, found_breaches}
use Rattle.om_scope_rules.proofs.ExpressionsWhole.{whole_expression}
use Rattle.om_scope_rules.proofs.Knowing.{known_more, known_inside, known_local}
use Rattle.om_scope_rules.proofs.Steps.{if_then, if_any, if_either}
use Rattle.om_scope_rules.proofs.Unbroken.{front, back}
use Rattle.om_parser_tree.specs.declared.tree.AssignOperator.{AssignOperator}
use Rattle.om_parser_tree.specs.declared.tree.AssignOperator.TheVariants as assigns
use Rattle.om_parser_tree.specs.declared.tree.BinaryOperator.{BinaryOperator}
use Rattle.om_parser_tree.specs.declared.tree.BinaryOperator.TheVariants as binaries
use Rattle.om_parser_tree.specs.declared.tree.PostfixOperator.{PostfixOperator}
use Rattle.om_parser_tree.specs.declared.tree.PostfixOperator.TheVariants as postfixes
use Rattle.om_parser_tree.specs.declared.tree.PrefixOperator.{PrefixOperator}
use Rattle.om_parser_tree.specs.declared.tree.PrefixOperator.TheVariants as prefixes
use Rattle.om_parser_tree.specs.Formed.{IsExpression, IsLine}
use Rattle.om_parser_tree.specs.Tree.{ExpressionTree, Name, Constant, Text, Paren, Index, Call, Prefix, Postfix, Binary}
use Rattle.om_parser_tree.specs.Tree.{Conditional, Assign, ForHeadTree, StatementTree, LocalDeclaration, Block, Empty}
use Rattle.om_parser_tree.specs.Tree.{Expression, If, IfElse, While, Do, For, Return, Break, Continue, Construct, StandAlone}
use Rattle.om_parser_tree.specs.Tree.{Sections}

-- what a test decides
pub test_cases : {A : Type 0} (P : A → Type 0) (test : Bool) (x y : A) → (test ≡ true → P x) → (test ≡ false → P y)
    → P (cond test x y)
test_cases P true x y hx hy = hx refl
test_cases P false x y hx hy = hy refl

both_true : (a b : Bool) → (a && b) ≡ true → a ≡ true
both_true true b e = refl
both_true false b e = cc

-- ---- bounds

abbrev IsGoodBound : Bound → Type 0
IsGoodBound bound = comparison_direction bound.comparison ≡ Some bound.direction

good_compared : (o : BinaryOperator) (b : ExpressionTree) → IfSome (compared o b) IsGoodBound
good_compared o b = by (comparison_direction o) refl
  where
    by : (direction : Option Direction) → comparison_direction o ≡ direction
        → IfSome (direction >>= λ d. Some (bounded o b d)) IsGoodBound
    by None e = tt
    by (Some d) e = e

good_bound : (e : ExpressionTree) (name : List ℕ) → IfSome (bound_of e name) IsGoodBound
good_bound (Binary a o at b) name = if_either (λ x. IfSome x IsGoodBound) (is_named a name) (compared o b) None
    (good_compared o b) tt
good_bound (Name n) name = tt
good_bound (Constant n) name = tt
good_bound (Text t) name = tt
good_bound (Paren left e right) name = tt
good_bound (Index n left e right) name = tt
good_bound (Call n left values right) name = tt
good_bound (Prefix o at e) name = tt
good_bound (Postfix e o at) name = tt
good_bound (Conditional c question a colon b) name = tt
good_bound (Assign a o at b) name = tt

-- ---- steps

abbrev IsGoodStep : Step → Type 0
IsGoodStep step = (n : ℕ) × (1 ≤ n) × (step.value ≡ signed step.direction n)

good_step_of : (direction : Direction) (value : ℕ) → IfSome (step_of direction value) IsGoodStep
good_step_of direction value =
    test_cases (λ x. IfSome x IsGoodStep) (nat_lt 0 value && nat_le value 2147483647)
    (Some (record { direction = direction; value = signed direction value })) None
    (λ e. (value, positive value (both_true (nat_lt 0 value) (nat_le value 2147483647) e), refl)) (λ e. tt)
  where
    positive : (n : ℕ) → nat_lt 0 n ≡ true → 1 ≤ n
    positive n e = grind (arith, nat_tests)

good_stride : (direction : Direction) (e : ExpressionTree) → IfSome (stride_in direction e) IsGoodStep
good_stride direction (Constant n) = good_step_of direction n.value
good_stride direction (Name n) = tt
good_stride direction (Text t) = tt
good_stride direction (Paren left e right) = tt
good_stride direction (Index n left e right) = tt
good_stride direction (Call n left values right) = tt
good_stride direction (Prefix o at e) = tt
good_stride direction (Postfix e o at) = tt
good_stride direction (Binary a o at b) = tt
good_stride direction (Conditional c question a colon b) = tt
good_stride direction (Assign a o at b) = tt

good_one : (direction : Direction) → IsGoodStep (one_step direction)
good_one direction = (1, omega arith, refl)

good_prefix : (o : PrefixOperator) → IfSome (prefix_step o) IsGoodStep
good_prefix prefixes.Increment = good_one directions.Up
good_prefix prefixes.Decrement = good_one directions.Down
good_prefix prefixes.Plus = tt
good_prefix prefixes.Minus = tt
good_prefix prefixes.Not = tt

good_postfix : (o : PostfixOperator) → IsGoodStep (postfix_step o)
good_postfix postfixes.Increment = good_one directions.Up
good_postfix postfixes.Decrement = good_one directions.Down

good_added : (a b : ExpressionTree) (name : List ℕ) → IfSome (added_step a b name) IsGoodStep
good_added a b name =
    if_either (λ x. IfSome x IsGoodStep) (is_named a name) (stride_in directions.Up b)
    (cond (is_named b name) (stride_in directions.Up a) None) (good_stride directions.Up b)
    (if_either (λ x. IfSome x IsGoodStep) (is_named b name) (stride_in directions.Up a) None
    (good_stride directions.Up a) tt)

good_subtracted : (a b : ExpressionTree) (name : List ℕ) → IfSome (subtracted_step a b name) IsGoodStep
good_subtracted a b name = if_either (λ x. IfSome x IsGoodStep) (is_named a name) (stride_in directions.Down b) None
    (good_stride directions.Down b) tt

good_sum : (o : BinaryOperator) (a b : ExpressionTree) (name : List ℕ) → IfSome (sum_step o a b name) IsGoodStep
good_sum binaries.Add a b name = good_added a b name
good_sum binaries.Subtract a b name = good_subtracted a b name
good_sum binaries.Or a b name = tt
good_sum binaries.And a b name = tt
good_sum binaries.Equal a b name = tt
good_sum binaries.NotEqual a b name = tt
good_sum binaries.Less a b name = tt
good_sum binaries.Greater a b name = tt
good_sum binaries.LessEqual a b name = tt
good_sum binaries.GreaterEqual a b name = tt
good_sum binaries.Multiply a b name = tt
good_sum binaries.Divide a b name = tt
good_sum binaries.Remainder a b name = tt

good_value : (e : ExpressionTree) (name : List ℕ) → IfSome (value_step e name) IsGoodStep
good_value (Binary a o at b) name = good_sum o a b name
good_value (Name n) name = tt
good_value (Constant n) name = tt
good_value (Text t) name = tt
good_value (Paren left e right) name = tt
good_value (Index n left e right) name = tt
good_value (Call n left values right) name = tt
good_value (Prefix o at e) name = tt
good_value (Postfix e o at) name = tt
good_value (Conditional c question a colon b) name = tt
good_value (Assign a o at b) name = tt

good_assigned : (o : AssignOperator) (e : ExpressionTree) (name : List ℕ) → IfSome (assigned_step o e name) IsGoodStep
good_assigned assigns.Set e name = good_value e name
good_assigned assigns.Add e name = good_stride directions.Up e
good_assigned assigns.Subtract e name = good_stride directions.Down e
good_assigned assigns.Multiply e name = tt
good_assigned assigns.Divide e name = tt
good_assigned assigns.Remainder e name = tt

good_step : (e : ExpressionTree) (name : List ℕ) → IfSome (step_in e name) IsGoodStep
good_step (Prefix o at e) name = if_either (λ x. IfSome x IsGoodStep) (is_named e name) (prefix_step o) None
    (good_prefix o) tt
good_step (Postfix e o at) name = if_either (λ x. IfSome x IsGoodStep) (is_named e name) (Some (postfix_step o))
    None (good_postfix o) tt
good_step (Assign a o at b) name = if_either (λ x. IfSome x IsGoodStep) (is_named a name) (assigned_step o b name)
    None (good_assigned o b name) tt
good_step (Name n) name = tt
good_step (Constant n) name = tt
good_step (Text t) name = tt
good_step (Paren left e right) name = tt
good_step (Index n left e right) name = tt
good_step (Call n left values right) name = tt
good_step (Binary a o at b) name = tt
good_step (Conditional c question a colon b) name = tt

-- ---- loops

rises : (n : ℕ) (value : ℤ) → 1 ≤ n → value ≡ pos n → pos 0 <ℤ value
rises n value le e = subst (λ v. pos 0 <ℤ v) (sym e) (above n le)
  where
    above : (n : ℕ) → 1 ≤ n → pos 0 <ℤ pos n
    above n le = omega (arith, ints)

falls : (n : ℕ) (value : ℤ) → 1 ≤ n → value ≡ pos 0 -ℤ pos n → value <ℤ pos 0
falls n value le e = subst (λ v. v <ℤ pos 0) (sym e) (below n le)
  where
    below : (n : ℕ) → 1 ≤ n → (pos 0 -ℤ pos n) <ℤ pos 0
    below n le = omega (arith, ints)

step_goes : (o : BinaryOperator) (d e : Direction) (value : ℤ) → comparison_direction o ≡ Some d → same_direction d
    e ≡ true → ((n : ℕ) × (1 ≤ n) × (value ≡ signed e n)) → IsStep o value
step_goes binaries.Or d e value c same h = cc
step_goes binaries.And d e value c same h = cc
step_goes binaries.Equal d e value c same h = cc
step_goes binaries.NotEqual d e value c same h = cc
step_goes binaries.Less directions.Up directions.Up value c same h = rises h.0 value h.1 h.2
step_goes binaries.Less directions.Up directions.Down value c same h = cc
step_goes binaries.Less directions.Down e value c same h = cc
step_goes binaries.Greater directions.Down directions.Down value c same h = falls h.0 value h.1 h.2
step_goes binaries.Greater directions.Down directions.Up value c same h = cc
step_goes binaries.Greater directions.Up e value c same h = cc
step_goes binaries.LessEqual directions.Up directions.Up value c same h = rises h.0 value h.1 h.2
step_goes binaries.LessEqual directions.Up directions.Down value c same h = cc
step_goes binaries.LessEqual directions.Down e value c same h = cc
step_goes binaries.GreaterEqual directions.Down directions.Down value c same h = falls h.0 value h.1 h.2
step_goes binaries.GreaterEqual directions.Down directions.Up value c same h = cc
step_goes binaries.GreaterEqual directions.Up e value c same h = cc
step_goes binaries.Add d e value c same h = cc
step_goes binaries.Subtract d e value c same h = cc
step_goes binaries.Multiply d e value c same h = cc
step_goes binaries.Divide d e value c same h = cc
step_goes binaries.Remainder d e value c same h = cc

abbrev pub GoesOn : Loop → Type 0
GoesOn found = IsStep found.comparison found.step

loop_goes : (at : Span) (start : LoopStart) (bound : Bound) (step : Step) → IsGoodBound bound → IsGoodStep step
    → IfSome (loop_to at start bound step) GoesOn
loop_goes at start bound step hb hs =
    test_cases (λ x. IfSome x GoesOn) (same_direction bound.direction step.direction)
    (Some (record { at = at; start = start; comparison = bound.comparison; to = bound.to; step = step.value })) None
    (λ same. step_goes bound.comparison bound.direction step.direction step.value hb same hs) (λ e. tt)

head_goes : (h : ForHeadTree) → IfSome (loop_of h) GoesOn
head_goes h =
    if_then (λ x. Unit {0}) GoesOn (start_of h.start) _ (if_any (start_of h.start)) (λ start u.
    if_then (λ x. Unit {0}) GoesOn h.condition _ (if_any h.condition) (λ condition v.
    if_then (λ x. Unit {0}) GoesOn h.step _ (if_any h.step) (λ step w.
    if_then IsGoodBound GoesOn (bound_of condition start.variable.text) _ (good_bound condition start.variable.text)
    (λ bound hb.
    if_then IsGoodStep GoesOn (step_in step start.variable.text) _ (good_step step start.variable.text)
    (λ by hs. loop_goes h.word start bound by hb hs)))))

pub goes_on : (s : StatementTree) → IfSome (loop_in s) GoesOn
goes_on (For h s) = head_goes h
goes_on (LocalDeclaration d) = tt
goes_on (Block left items right) = tt
goes_on (Empty semicolon) = tt
goes_on (Expression e semicolon) = tt
goes_on (If at c s) = tt
goes_on (IfElse at c s other t) = tt
goes_on (While at c s) = tt
goes_on (Do at s again c semicolon) = tt
goes_on (Return at value semicolon) = tt
goes_on (Break at semicolon) = tt
goes_on (Continue at semicolon) = tt
goes_on (Construct d s) = tt
goes_on (StandAlone d) = tt
goes_on (Sections d left parts right) = tt

-- ---- schedules

abbrev pub IsGoodSchedule : ResolvedSchedule → Type 0
IsGoodSchedule schedule = IfSome schedule.chunk (λ chunk. 1 ≤ chunk)

good_chunk : (chunk : Option (Span × Number)) → IsChunk chunk → IfSome (option_map (λ c. c.1.value) chunk) (λ n. 1 ≤ n)
good_chunk None h = tt
good_chunk (Some chunk) h = h

good_clause : (otherwise : ResolvedSchedule) (clause : Clause ExpressionTree) → IsGoodSchedule otherwise
    → IsClause IsExpression clause → IsGoodSchedule (clause_schedule otherwise clause)
good_clause otherwise (clauses.Schedule s argument) h c = good_chunk argument.chunk c
good_clause otherwise (clauses.Value kind s v) h c = h
good_clause otherwise (clauses.Default s argument) h c = h
good_clause otherwise (clauses.Data sharing s list) h c = h
good_clause otherwise (clauses.Reduction s r) h c = h
good_clause otherwise (clauses.Plain kind s) h c = h

good_items : (name : DirectiveName) (items before : List (ClauseItem ExpressionTree))
    → EachBehind (IsItem IsExpression name) before items → IsGoodSchedule (schedule_of items)
unfolding EachBehind
good_items name [] before h = tt
good_items name (item ∷ items) before h = good_clause (schedule_of items) item.clause
    (good_items name items (before ++ item ∷ []) h.1) h.0.formed

pub good_schedule : (d : Directive ExpressionTree) → IsLine d → IsGoodSchedule (schedule_of d.clauses)
unfolding IsDirective
good_schedule d h = good_items d.name d.clauses [] h

-- ---- resolved loops

bounds_unbroken : (scopes : Scopes) (found : Loop) → found_breaches scopes found ≡ [] → values_breaches
    (bounds_scopes scopes found) found ≡ []
bounds_unbroken scopes found w = by found.start.is_declared w
  where
    by : (declared : Bool) → cond declared (values_breaches (with_iteration scopes found) found)
        (variable_breaches scopes found.start.variable ++ values_breaches scopes found) ≡ []
        → values_breaches (cond declared (with_iteration scopes found) scopes) found ≡ []
    by true w = w
    by false w = back (variable_breaches scopes found.start.variable) (values_breaches scopes found) w

known_bounds : (around : Around) (scopes : Scopes) (found : Loop) → Knows around scopes
    → Knows (with_locals around (scalar (local_of found.start.variable) ∷ [])) (bounds_scopes scopes found)
known_bounds around scopes found h =
    if_either (λ inner. Knows (with_locals around (scalar (local_of found.start.variable) ∷ [])) inner)
    found.start.is_declared (with_iteration scopes found) scopes
    (known_local around.globals around.functions around.locals (inside scopes) found.start.variable shapes.Scalar
    (known_inside around.globals around.functions around.locals scopes h))
    (known_more around.globals around.functions around.locals (scalar (local_of found.start.variable) ∷ []) scopes h)

-- a resolved loop, whose variable is that one's
abbrev pub IsGoodLoop : Around → Loop → ResolvedLoopTree → Type 0
IsGoodLoop around found l = IsWholeLoop around l × (l.variable ≡ local_of found.start.variable)

pub whole_loop : (around : Around) (scopes : Scopes) (schedule : ResolvedSchedule) (found : Loop)
    → Knows around scopes → GoesOn found → IsGoodSchedule schedule → found_breaches scopes found ≡ []
    → IfSome (resolved_loop scopes schedule found) (IsGoodLoop around found)
unfolding resolved_loop
whole_loop around scopes schedule found h goes chunk w =
    let inner = bounds_scopes scopes found in
    let within = with_locals around (scalar (local_of found.start.variable) ∷ []) in
    let known = known_bounds around scopes found h in
    let values = bounds_unbroken scopes found w in
    let from = expression_breaches inner true found.start.from in
    let to = expression_breaches inner true found.to in
    if_then (IsWhole within true) (IsGoodLoop around found) (resolved_expression inner found.start.from) _
    (whole_expression within inner true found.start.from known (front from to values)) (λ x hx.
    if_then (IsWhole within true) (IsGoodLoop around found) (resolved_expression inner found.to) _
    (whole_expression within inner true found.to known (back from to values)) (λ y hy.
    (record { from = hx; to = hy; step = goes; chunk = chunk }, refl)))
