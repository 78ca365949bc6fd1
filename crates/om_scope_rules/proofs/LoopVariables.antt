-- The iteration variable of a canonical loop is among the tokens of its `for`.
use Rattle.std.proofs.Common.{◌≡◌, List, [], ◌∷◌, ◌++◌, Option, None, Some, refl}
use Rattle.std.specs.Prelude.{IfSome}
use Rattle.om_lexer.specs.declared.token.Span.{Span}
use Rattle.om_lexer.specs.declared.token.Token.{Token}
use Rattle.om_scope_rules.proofs.Among.{none, further, before, named}
use Rattle.om_scope_rules.specs.TreePlaces.{AreAmong}
use Rattle.om_scope_rules.proofs.Steps.{if_either, if_then}
use Rattle.om_scope_rules.proofs.StepsFrom.{if_behind, if_weaker}
use Rattle.om_scope_rules.specs.TreePlaces.{Declared}
use Rattle.om_pragma.specs.declared.clause.Name as names
use Rattle.om_scope_tree.specs.declared.resolved.ResolvedSchedule.{ResolvedSchedule}
use Rattle.om_scope_tree.specs.ResolvedTree.{ResolvedLoopTree}
use Rattle.om_scope_rules.specs.declared.canonical.Step.{Step}
use Rattle.om_scope_rules.specs.Loops.{Bound, Loop, LoopStart, assigned_start, bound_of, declared_start, initialized_start}
use Rattle.om_scope_rules.specs.Loops.{loop_of, loop_to, name_in, same_direction, set_start, start_of, step_in}
use Rattle.om_scope_rules.specs.Resolution.{resolved_expression}
use Rattle.om_scope_rules.specs.Scopes.{Scopes}
use Rattle.om_scope_rules.specs.StatementResolution.{bounds_scopes, local_of, resolved_loop}
use Rattle.om_parser_tree.specs.declared.tree.ArrayLength.{ArrayLength}
use Rattle.om_parser_tree.specs.declared.tree.AssignOperator.{AssignOperator}
use Rattle.om_parser_tree.specs.declared.tree.AssignOperator.TheVariants as assigns
use Rattle.om_parser_tree.specs.Spelling.{declaration_spelling, declarator_spelling, expression_spelling, for_head_spelling}
use Rattle.om_parser_tree.specs.Spelling.{for_start_spelling, local_spelling, perhaps}
use Rattle.om_parser_tree.specs.Tree.{ExpressionTree, Name, Constant, Text, Paren, Index, Call, Prefix, Postfix, Binary}
use Rattle.om_parser_tree.specs.Tree.{Conditional, Assign, DeclaratorTree, ForHeadTree, ForStartTree, InitializerTree}
use Rattle.om_parser_tree.specs.Tree.{Nothing, StartExpression, StartDeclaration}

-- a name is among these tokens
abbrev NameAmong : List Token → names.Name → Type 0
NameAmong ts n = AreAmong (Declared (local_of n) ∷ []) ts

-- ---- `i = lb`

abbrev VariableAmong : List Token → LoopStart → Type 0
VariableAmong ts start = NameAmong ts start.variable

-- it is among more of them
widened : (front back : List Token) (o : Option LoopStart) → IfSome o (VariableAmong front)
    → IfSome o (VariableAmong (front ++ back))
widened front back o h =
    if_weaker (VariableAmong front) (VariableAmong (front ++ back)) o h (λ start among.
    before (Declared (local_of start.variable) ∷ []) front back among)

name_among : (e : ExpressionTree) → IfSome (name_in e) (NameAmong (expression_spelling e))
unfolding expression_spelling
name_among (Name n) = named n [] [] (none [])
name_among (Constant n) = tt
name_among (Text t) = tt
name_among (Paren left e right) = tt
name_among (Index n left e right) = tt
name_among (Call n left values right) = tt
name_among (Prefix o at e) = tt
name_among (Postfix e o at) = tt
name_among (Binary a o at b) = tt
name_among (Conditional c question a colon b) = tt
name_among (Assign a o at b) = tt

set_among : (o : AssignOperator) (a b : ExpressionTree)
    → IfSome (set_start o a b) (VariableAmong (expression_spelling a))
set_among assigns.Set a b =
    let ts = expression_spelling a in
    if_then (NameAmong ts) (VariableAmong ts) (name_in a) _ (name_among a) (λ n h. h)
set_among assigns.Add a b = tt
set_among assigns.Subtract a b = tt
set_among assigns.Multiply a b = tt
set_among assigns.Divide a b = tt
set_among assigns.Remainder a b = tt

assigned_among : (e : ExpressionTree) → IfSome (assigned_start e) (VariableAmong (expression_spelling e))
unfolding expression_spelling
assigned_among (Assign a o at b) = widened (expression_spelling a) _ (set_start o a b) (set_among o a b)
assigned_among (Name n) = tt
assigned_among (Constant n) = tt
assigned_among (Text t) = tt
assigned_among (Paren left e right) = tt
assigned_among (Index n left e right) = tt
assigned_among (Call n left values right) = tt
assigned_among (Prefix o at e) = tt
assigned_among (Postfix e o at) = tt
assigned_among (Binary a o at b) = tt
assigned_among (Conditional c question a colon b) = tt

-- ---- `int i = lb`

initialized_among : (ts : List Token) (n : names.Name) (array : Option ArrayLength)
    (initializer : Option (InitializerTree ExpressionTree)) → NameAmong ts n
    → IfSome (initialized_start n array initializer) (VariableAmong ts)
initialized_among ts n None None h = tt
initialized_among ts n None (Some i) h = h
initialized_among ts n (Some array) initializer h = tt

declared_among : (ts : List Token) (d : DeclaratorTree ExpressionTree)
    (rest : List (Span × DeclaratorTree ExpressionTree)) → NameAmong ts d.name
    → IfSome (declared_start d rest) (VariableAmong ts)
declared_among ts d [] h = initialized_among ts d.name d.array d.initializer h
declared_among ts d (next ∷ rest) h = tt

start_among : (start : ForStartTree) → IfSome (start_of start) (VariableAmong (for_start_spelling start))
unfolding for_start_spelling declaration_spelling declarator_spelling
start_among (Nothing semicolon) = tt
start_among (StartExpression e semicolon) =
    widened (expression_spelling e) _ (assigned_start e) (assigned_among e)
start_among (StartDeclaration d) =
    declared_among (local_spelling d) d.first d.rest (further _ _ _ (named d.first.name [] _ (none _)))

-- ---- the loop

abbrev pub LoopAmong : List Token → Loop → Type 0
LoopAmong ts found = NameAmong ts found.start.variable

bounded_among : (ts : List Token) (at : Span) (start : LoopStart) (bound : Bound) (by : Step)
    → VariableAmong ts start → IfSome (loop_to at start bound by) (LoopAmong ts)
bounded_among ts at start bound by h =
    if_either (λ found. IfSome found (LoopAmong ts)) (same_direction bound.direction by.direction) _ None h tt

pub loop_among : (h : ForHeadTree) → IfSome (loop_of h) (LoopAmong (for_head_spelling h))
unfolding for_head_spelling
loop_among h =
    let own = for_start_spelling h.start in
    let front = own ++ perhaps expression_spelling h.condition in
    let ts = for_head_spelling h in
    let goal = LoopAmong ts in
    if_then (VariableAmong own) goal (start_of h.start) _ (start_among h.start) (λ start among.
    if_behind goal h.condition _ (λ condition.
    if_behind goal h.step _ (λ step.
    if_behind goal (bound_of condition start.variable.text) _ (λ bound.
    if_behind goal (step_in step start.variable.text) _ (λ by.
    let variable = Declared (local_of start.variable) ∷ [] in
    bounded_among ts h.word start bound by
    (further variable _ _ (further variable _ _ (before variable front _ (before variable own _ among)))))))))

-- what resolving keeps of it
pub is_its_variable : (scopes : Scopes) (schedule : ResolvedSchedule) (found : Loop)
    → IfSome (resolved_loop scopes schedule found) (λ l. local_of found.start.variable ≡ l.variable)
unfolding resolved_loop
is_its_variable scopes schedule found =
    let is_its = λ (l : ResolvedLoopTree). local_of found.start.variable ≡ l.variable in
    if_behind is_its (resolved_expression (bounds_scopes scopes found) found.start.from) _ (λ from.
    if_behind is_its (resolved_expression (bounds_scopes scopes found) found.to) _ (λ to. refl))
