-- The bounds of a canonical loop are among the tokens of its `for`, which are enough for the `printf`s in them.
use Rattle.std.proofs.Common.{◌≡◌, ℕ, ◌+◌, ◌≤◌, List, [], ◌∷◌, ◌++◌, length, Option, None, Some, refl, subst, arith}
use Rattle.std.specs.Prelude.{IfSome}
use Rattle.om_lexer.specs.declared.token.Span.{Span}
use Rattle.om_lexer.specs.declared.token.Token.{Token}
use Rattle.om_pragma.specs.declared.clause.Name as names
use Rattle.om_scope_tree.specs.declared.resolved.ResolvedSchedule.{ResolvedSchedule}
use Rattle.om_scope_tree.specs.ResolvedTree.{ResolvedLoopTree}
use Rattle.om_scope_tree.specs.Weights.{expression_weight, loop_weight}
use Rattle.om_scope_rules.proofs.DeclarationWeights.{head_fits}
use Rattle.om_scope_rules.proofs.ExpressionWeights.{ExpressionFits, expression_fits}
use Rattle.om_scope_rules.proofs.Fitting.{Fits, nothing, further, behind, before, itself, lighter, within}
use Rattle.om_scope_rules.proofs.Steps.{if_either, if_then}
use Rattle.om_scope_rules.proofs.StepsFrom.{if_behind, if_weaker}
use Rattle.om_scope_rules.specs.declared.canonical.Step.{Step}
use Rattle.om_scope_rules.specs.Loops.{Bound, Loop, LoopStart, assigned_start, bound_of, compared, comparison_direction}
use Rattle.om_scope_rules.specs.Loops.{declared_start, initialized_start, is_named, loop_of, loop_to, name_in, same_direction}
use Rattle.om_scope_rules.specs.Loops.{set_start, start_of, step_in}
use Rattle.om_scope_rules.specs.Resolution.{resolved_expression}
use Rattle.om_scope_rules.specs.Scopes.{Scopes}
use Rattle.om_scope_rules.specs.StatementResolution.{bounds_scopes, resolved_loop}
use Rattle.om_parser_tree.specs.declared.tree.ArrayLength.{ArrayLength}
use Rattle.om_parser_tree.specs.declared.tree.AssignOperator.{AssignOperator}
use Rattle.om_parser_tree.specs.declared.tree.AssignOperator.TheVariants as assigns
use Rattle.om_parser_tree.specs.declared.tree.BinaryOperator.{BinaryOperator}
use Rattle.om_parser_tree.specs.Spelling.{array_spelling, declaration_spelling, declarator_spelling, expression_spelling}
use Rattle.om_parser_tree.specs.Spelling.{for_head_spelling, for_start_spelling, initializer_spelling, perhaps}
use Rattle.om_parser_tree.specs.Tree.{ExpressionTree, Name, Constant, Text, Paren, Index, Call, Prefix, Postfix, Binary}
use Rattle.om_parser_tree.specs.Tree.{Conditional, Assign, DeclaratorTree, ForHeadTree, ForStartTree, InitializerTree}
use Rattle.om_parser_tree.specs.Tree.{Nothing, StartExpression, StartDeclaration}

-- how many tokens an expression has
abbrev size : ExpressionTree → ℕ
size e = length (expression_spelling e)

-- ---- `i = lb`

-- there are tokens enough for all of the first value
abbrev FromFits : List Token → LoopStart → Type 0
FromFits ts start = Fits ts (size start.from)

set_fits : (o : AssignOperator) (a b : ExpressionTree) → IfSome (set_start o a b) (FromFits (expression_spelling b))
set_fits assigns.Set a b =
    let ts = expression_spelling b in
    if_behind (FromFits ts) (name_in a) _ (λ n. itself ts)
set_fits assigns.Add a b = tt
set_fits assigns.Subtract a b = tt
set_fits assigns.Multiply a b = tt
set_fits assigns.Divide a b = tt
set_fits assigns.Remainder a b = tt

assigned_fits : (e : ExpressionTree) → IfSome (assigned_start e) (FromFits (expression_spelling e))
unfolding expression_spelling
assigned_fits (Assign a o at b) =
    let own = expression_spelling b in
    if_weaker (FromFits own) (FromFits (expression_spelling (Assign a o at b))) (set_start o a b) (set_fits o a b)
    (λ start h.
    let n = size start.from in
    behind n (expression_spelling a) _ (further n _ own h))
assigned_fits (Name n) = tt
assigned_fits (Constant n) = tt
assigned_fits (Text t) = tt
assigned_fits (Paren left e right) = tt
assigned_fits (Index n left e right) = tt
assigned_fits (Call n left values right) = tt
assigned_fits (Prefix o at e) = tt
assigned_fits (Postfix e o at) = tt
assigned_fits (Binary a o at b) = tt
assigned_fits (Conditional c question a colon b) = tt

-- ---- `int i = lb`

initialized_fits : (n : names.Name) (array : Option ArrayLength)
    (initializer : Option (InitializerTree ExpressionTree))
    → IfSome (initialized_start n array initializer)
    (FromFits (perhaps (initializer_spelling expression_spelling) initializer))
unfolding initializer_spelling
initialized_fits n None None = tt
initialized_fits n None (Some i) = further (size i.value) _ _ (itself (expression_spelling i.value))
initialized_fits n (Some array) initializer = tt

declared_fits : (d : DeclaratorTree ExpressionTree) (rest : List (Span × DeclaratorTree ExpressionTree))
    → IfSome (declared_start d rest) (FromFits (declarator_spelling expression_spelling d))
unfolding declarator_spelling
declared_fits d [] =
    let own = perhaps (initializer_spelling expression_spelling) d.initializer in
    let array = perhaps array_spelling d.array in
    if_weaker (FromFits own) (FromFits (declarator_spelling expression_spelling d)) _
    (initialized_fits d.name d.array d.initializer) (λ start h.
    let n = size start.from in
    further n _ (array ++ own) (behind n array own h))
declared_fits d (next ∷ rest) = tt

start_fits : (start : ForStartTree) → IfSome (start_of start) (FromFits (for_start_spelling start))
unfolding for_start_spelling declaration_spelling
start_fits (Nothing semicolon) = tt
start_fits (StartExpression e semicolon) =
    let own = expression_spelling e in
    if_weaker (FromFits own) (FromFits (for_start_spelling (StartExpression e semicolon))) _ (assigned_fits e)
    (λ start h. before (size start.from) own _ h)
start_fits (StartDeclaration d) =
    let own = declarator_spelling expression_spelling d.first in
    if_weaker (FromFits own) (FromFits (for_start_spelling (StartDeclaration d))) _ (declared_fits d.first d.rest)
    (λ start h.
    let n = size start.from in
    further n _ _ (before n (own ++ _) _ (before n own _ h)))

-- ---- `i < ub`

-- there are tokens enough for all of the bound
abbrev ToFits : List Token → Bound → Type 0
ToFits ts bound = Fits ts (size bound.to)

compared_fits : (o : BinaryOperator) (b : ExpressionTree) → IfSome (compared o b) (ToFits (expression_spelling b))
compared_fits o b =
    let ts = expression_spelling b in
    if_behind (ToFits ts) (comparison_direction o) _ (λ direction. itself ts)

bound_fits : (e : ExpressionTree) (name : List ℕ) → IfSome (bound_of e name) (ToFits (expression_spelling e))
unfolding expression_spelling
bound_fits (Binary a o at b) name =
    let own = expression_spelling b in
    let goal = ToFits (expression_spelling (Binary a o at b)) in
    if_either (λ bound. IfSome bound goal) (is_named a name) (compared o b) None
    (if_weaker (ToFits own) goal (compared o b) (compared_fits o b) (λ bound h.
    let n = size bound.to in
    behind n (expression_spelling a) _ (further n _ own h)))
    tt
bound_fits (Name n) name = tt
bound_fits (Constant n) name = tt
bound_fits (Text t) name = tt
bound_fits (Paren left e right) name = tt
bound_fits (Index n left e right) name = tt
bound_fits (Call n left values right) name = tt
bound_fits (Prefix o at e) name = tt
bound_fits (Postfix e o at) name = tt
bound_fits (Conditional c question a colon b) name = tt
bound_fits (Assign a o at b) name = tt

-- ---- the loop

-- how many tokens its first value and its bound have
abbrev pub bounds_size : Loop → ℕ
bounds_size found = size found.start.from + size found.to

abbrev pub LoopFits : List Token → Loop → Type 0
LoopFits ts found = Fits ts (bounds_size found)

-- a condition that is there has its tokens
given : (o : Option ExpressionTree) → IfSome o (λ e. expression_spelling e ≡ perhaps expression_spelling o)
given None = tt
given (Some e) = refl

bounded_fits : (ts : List Token) (at : Span) (start : LoopStart) (bound : Bound) (by : Step)
    → Fits ts (size start.from + size bound.to) → IfSome (loop_to at start bound by) (LoopFits ts)
bounded_fits ts at start bound by h =
    if_either (λ found. IfSome found (LoopFits ts)) (same_direction bound.direction by.direction) _ None h tt

pub loop_fits : (h : ForHeadTree) → IfSome (loop_of h) (LoopFits (for_head_spelling h))
loop_fits h =
    let ts = for_head_spelling h in
    let goal = LoopFits ts in
    let own = perhaps expression_spelling h.condition in
    if_then (FromFits (for_start_spelling h.start)) goal (start_of h.start) _ (start_fits h.start) (λ start hs.
    if_then (λ e. expression_spelling e ≡ own) goal h.condition _ (given h.condition) (λ condition is.
    if_behind goal h.step _ (λ step.
    if_then (ToFits (expression_spelling condition)) goal (bound_of condition start.variable.text) _
    (bound_fits condition start.variable.text) (λ bound hb.
    if_behind goal (step_in step start.variable.text) _ (λ by.
    let from = size start.from in
    let to = size bound.to in
    bounded_fits ts h.word start bound by
    (lighter (from + to) (from + to + 0) ts (omega arith)
    (head_fits h from to 0 hs (subst (λ us. Fits us to) is hb) (nothing _))))))))

-- what resolving keeps of it
pub loop_within : (scopes : Scopes) (schedule : ResolvedSchedule) (found : Loop)
    → IfSome (resolved_loop scopes schedule found) (λ l. loop_weight l ≤ bounds_size found)
unfolding resolved_loop
loop_within scopes schedule found =
    let first = expression_spelling found.start.from in
    let last = expression_spelling found.to in
    let goal = λ (l : ResolvedLoopTree). loop_weight l ≤ bounds_size found in
    if_then (ExpressionFits first) goal (resolved_expression (bounds_scopes scopes found) found.start.from) _
    (expression_fits (bounds_scopes scopes found) found.start.from) (λ from hf.
    if_then (ExpressionFits last) goal (resolved_expression (bounds_scopes scopes found) found.to) _
    (expression_fits (bounds_scopes scopes found) found.to) (λ to ht.
    omega (within (expression_weight from) first hf, within (expression_weight to) last ht, arith)))
