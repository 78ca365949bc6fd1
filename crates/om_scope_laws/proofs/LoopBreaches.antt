-- The breaches of what a loop begins with, and of its bounds, stand at the tokens of its head, in their order.
use Rattle.std.proofs.Common.{◌≡◌, ℕ, Bool, true, false, List, [], ◌∷◌, ◌++◌, Option, None, Some, refl, sym, subst}
use Rattle.std.proofs.Common.{arith}
use Rattle.std.proofs.Common.{append-nil, append_assoc, ◌∙◌}
use Rattle.std.specs.List.{flat_map}
use Rattle.std.specs.Prelude.{IfSome, not, if◌then◌else◌}
use Rattle.om_lexer.specs.declared.fault.FaultCode.TheVariants as faults
use Rattle.om_lexer.specs.declared.fault.SourceFault.{SourceFault}
use Rattle.om_lexer.specs.declared.token.Span.{Span}
use Rattle.om_lexer.specs.declared.token.Token.{Token}
use Rattle.om_pragma.specs.declared.clause.Name as names
use Rattle.om_parser_tree.specs.declared.tree.ArrayLength.{ArrayLength}
use Rattle.om_parser_tree.specs.declared.tree.AssignOperator.{AssignOperator}
use Rattle.om_parser_tree.specs.declared.tree.AssignOperator.TheVariants as assigns
use Rattle.om_parser_tree.specs.declared.tree.BinaryOperator.{BinaryOperator}
use Rattle.om_parser_tree.specs.Spelling.{array_spelling, declaration_spelling, declarator_spelling}
use Rattle.om_parser_tree.specs.Spelling.{expression_spelling}
use Rattle.om_parser_tree.specs.Spelling.{for_head_spelling, for_start_spelling, further_spelling, initializer_spelling}
use Rattle.om_parser_tree.specs.Spelling.{local_spelling, perhaps}
use Rattle.om_parser_tree.specs.Tree.{ExpressionTree, Name, Constant, Text, Paren, Index, Call, Prefix, Postfix, Binary}
use Rattle.om_parser_tree.specs.Tree.{Conditional, Assign, DeclaratorTree, DeclarationTree, ForHeadTree, ForStartTree}
use Rattle.om_parser_tree.specs.Tree.{InitializerTree, Nothing, StartExpression, StartDeclaration}
use Rattle.om_scope_rules.specs.declared.canonical.Step.{Step}
use Rattle.om_scope_rules.specs.ExpressionRules.{expression_breaches, is_scalar, is_undeclared}
use Rattle.om_scope_rules.specs.Loops.{Bound, Loop, LoopStart, assigned_start, bound_of, compared, comparison_direction}
use Rattle.om_scope_rules.specs.Loops.{declared_start, initialized_start, is_named, loop_of, loop_to, name_in}
use Rattle.om_scope_rules.specs.Loops.{same_direction}
use Rattle.om_scope_rules.specs.Loops.{set_start, start_of, step_in}
use Rattle.om_scope_rules.specs.Scopes.{Scopes, after_local, behind_commas, declarators_of, is_declared, meaning_of}
use Rattle.om_scope_rules.specs.StatementRules.{after_for_start, array_size_breaches, for_start_breaches}
use Rattle.om_scope_rules.specs.StatementRules.{for_turn_breaches}
use Rattle.om_scope_rules.specs.StatementRules.{found_breaches, initializer_breaches, is_empty_array, local_breaches}
use Rattle.om_scope_rules.specs.StatementRules.{locals_breaches, perhaps_breaches, redeclared_breaches, values_breaches}
use Rattle.om_scope_rules.specs.StatementRules.{variable_breaches, with_iteration}
use Rattle.om_scope_laws.proofs.ExpressionBreaches.{expression_among, named, named_alone, two}
use Rattle.om_scope_laws.proofs.Perhaps.{if_behind, if_either, if_then, if_weaker}
use Rattle.om_scope_laws.proofs.TokenBreaches.{Among, RiseAt, before, behind, further, none, one, rise_at, rise_next}
use Rattle.om_scope_laws.proofs.TokenBreaches.{together}

-- ---- declarations

initial_among : (scopes : Scopes) (o : Option (InitializerTree ExpressionTree))
    → Among (initializer_breaches scopes o) (perhaps (initializer_spelling expression_spelling) o)
unfolding initializer_spelling
initial_among scopes None = none []
initial_among scopes (Some i) = further _ _ _ (expression_among i.value scopes true)

-- S8 and S9 at the name
name_rises : (scopes : Scopes) (d : DeclaratorTree ExpressionTree)
    → RiseAt d.name.span.start 0 (redeclared_breaches scopes d.name ++ array_size_breaches d)
name_rises scopes d =
    rise_at d.name.span.start 0 9 (redeclared_breaches scopes d.name ++ array_size_breaches d)
    (rise_next d.name.span.start 0 8 9 (redeclared_breaches scopes d.name) (array_size_breaches d)
    (one (is_declared scopes d.name.text) faults.Redeclared d.name.span.start 0 8 (omega arith) (omega arith))
    (one (is_empty_array d.array) faults.Misuse d.name.span.start 8 9 (omega arith) (omega arith)))

local_among : (scopes : Scopes) (d : DeclaratorTree ExpressionTree)
    → Among (local_breaches scopes d) (declarator_spelling expression_spelling d)
unfolding local_breaches declarator_spelling
local_among scopes d =
    let at_name = redeclared_breaches scopes d.name ++ array_size_breaches d in
    let initial = initializer_breaches (after_local scopes d) d.initializer in
    named d.name at_name initial _ (name_rises scopes d)
    (behind initial (perhaps array_spelling d.array) _ (initial_among (after_local scopes d) d.initializer))

further_among : (rest : List (Span × DeclaratorTree ExpressionTree)) (scopes : Scopes)
    → Among (locals_breaches scopes (behind_commas rest)) (flat_map (further_spelling expression_spelling) rest)
unfolding further_spelling
further_among [] scopes = none []
further_among (d ∷ rest) scopes =
    further _ _ _ (together (local_breaches scopes d.1) _ (declarator_spelling expression_spelling d.1) _
    (local_among scopes d.1) (further_among rest (after_local scopes d.1)))

pub locals_among : (scopes : Scopes) (d : DeclarationTree ExpressionTree)
    → Among (locals_breaches scopes (declarators_of d)) (local_spelling d)
unfolding declaration_spelling
locals_among scopes d =
    let own = declarator_spelling expression_spelling d.first in
    let tail = flat_map (further_spelling expression_spelling) d.rest in
    further _ _ _ (before _ (own ++ tail) _ (together (local_breaches scopes d.first) _ own tail
    (local_among scopes d.first) (further_among d.rest (after_local scopes d.first))))

-- ---- the head of a `for`

start_among : (scopes : Scopes) (start : ForStartTree) → Among (for_start_breaches scopes start)
    (for_start_spelling start)
unfolding for_start_spelling
start_among scopes (Nothing semicolon) = none _
start_among scopes (StartExpression e semicolon) = before _ (expression_spelling e) _ (expression_among e scopes false)
start_among scopes (StartDeclaration d) = locals_among scopes d

pub perhaps_among : (scopes : Scopes) (used : Bool) (o : Option ExpressionTree)
    → Among (perhaps_breaches scopes used o) (perhaps expression_spelling o)
perhaps_among scopes used None = none []
perhaps_among scopes used (Some e) = expression_among e scopes used

-- breaches of a beginning, a condition and a step
head_among : (h : ForHeadTree) (first second third : List SourceFault) → Among first (for_start_spelling h.start)
    → Among second (perhaps expression_spelling h.condition) → Among third (perhaps expression_spelling h.step)
    → Among (first ++ second ++ third) (for_head_spelling h)
unfolding for_head_spelling
head_among h first second third hf hs ht =
    let front = for_start_spelling h.start in
    let test = perhaps expression_spelling h.condition in
    further _ _ _ (further _ _ _ (together (first ++ second) third (front ++ test) _
    (together first second front test hf hs)
    (further _ _ _ (before third (perhaps expression_spelling h.step) _ ht))))

pub for_head_among : (scopes : Scopes) (h : ForHeadTree)
    → Among (for_start_breaches scopes h.start ++ for_turn_breaches (after_for_start scopes h.start) h)
    (for_head_spelling h)
for_head_among scopes h =
    let behind_start = after_for_start scopes h.start in
    subst (λ z. Among z (for_head_spelling h)) (append_assoc (for_start_breaches scopes h.start)
    (perhaps_breaches behind_start true h.condition) (perhaps_breaches behind_start false h.step))
    (head_among h (for_start_breaches scopes h.start) (perhaps_breaches behind_start true h.condition)
    (perhaps_breaches behind_start false h.step) (start_among scopes h.start)
    (perhaps_among behind_start true h.condition) (perhaps_among behind_start false h.step))

-- ---- a canonical loop

variable_rises : (scopes : Scopes) (n : names.Name) → RiseAt n.span.start 0 (variable_breaches scopes n)
variable_rises scopes n =
    two n.span.start (is_undeclared scopes n.text (meaning_of scopes n.text))
    (not (is_scalar (meaning_of scopes n.text)))

-- of what it begins with: the variable in these scopes, and its first value in those
abbrev start_breaches : Scopes → Scopes → LoopStart → List SourceFault
start_breaches scopes inner start =
    if start.is_declared then expression_breaches inner true start.from
    else variable_breaches scopes start.variable ++ expression_breaches inner true start.from

abbrev StartAmong : List Token → LoopStart → Type 0
StartAmong ts start = (scopes inner : Scopes) → Among (start_breaches scopes inner start) ts

name_among : (e : ExpressionTree) → IfSome (name_in e) (λ n. (scopes : Scopes) → Among (variable_breaches scopes n)
    (expression_spelling e))
unfolding expression_spelling
name_among (Name n) = λ scopes. named_alone n (variable_breaches scopes n) [] (variable_rises scopes n)
name_among (Constant n) = tt
name_among (Text t) = tt
name_among (Paren left e right) = tt
name_among (Index n left e right) = tt
name_among (Call n left values right) = tt
name_among (Prefix o at e) = tt
name_among (Postfix e o at) = tt
name_among (Binary a o at b) = tt
name_among (Conditional c question a colon b) = tt
name_among (Assign a o at b) = tt

set_among : (o : AssignOperator) (a : ExpressionTree) (at : Span) (b : ExpressionTree)
    → IfSome (set_start o a b) (StartAmong (expression_spelling (Assign a o at b)))
unfolding expression_spelling
set_among assigns.Set a at b =
    if_then (λ n. (scopes : Scopes) → Among (variable_breaches scopes n) (expression_spelling a))
    (StartAmong (expression_spelling (Assign a assigns.Set at b))) (name_in a) _ (name_among a) (λ n h.
    λ scopes inner. together (variable_breaches scopes n) (expression_breaches inner true b) (expression_spelling a) _
    (h scopes) (further _ _ _ (expression_among b inner true)))
set_among assigns.Add a at b = tt
set_among assigns.Subtract a at b = tt
set_among assigns.Multiply a at b = tt
set_among assigns.Divide a at b = tt
set_among assigns.Remainder a at b = tt

assigned_among : (e : ExpressionTree) → IfSome (assigned_start e) (StartAmong (expression_spelling e))
assigned_among (Assign a o at b) = set_among o a at b
assigned_among (Name n) = tt
assigned_among (Constant n) = tt
assigned_among (Text t) = tt
assigned_among (Paren left e right) = tt
assigned_among (Index n left e right) = tt
assigned_among (Call n left values right) = tt
assigned_among (Prefix o at e) = tt
assigned_among (Postfix e o at) = tt
assigned_among (Binary a o at b) = tt
assigned_among (Conditional c question a colon b) = tt

initialized_among : (n : names.Name) (array : Option ArrayLength) (o : Option (InitializerTree ExpressionTree))
    → IfSome (initialized_start n array o) (StartAmong (perhaps (initializer_spelling expression_spelling) o))
unfolding initializer_spelling
initialized_among n None None = tt
initialized_among n None (Some i) = λ scopes inner. further _ _ _ (expression_among i.value inner true)
initialized_among n (Some array) o = tt

declared_among : (d : DeclaratorTree ExpressionTree) (rest : List (Span × DeclaratorTree ExpressionTree))
    → IfSome (declared_start d rest) (StartAmong (declarator_spelling expression_spelling d))
unfolding declarator_spelling
declared_among d [] =
    let own = perhaps (initializer_spelling expression_spelling) d.initializer in
    if_weaker (StartAmong own) (StartAmong (declarator_spelling expression_spelling d)) _
    (initialized_among d.name d.array d.initializer) (λ start h.
    λ scopes inner. further _ _ _ (behind _ (perhaps array_spelling d.array) own (h scopes inner)))
declared_among d (next ∷ rest) = tt

loop_start_among : (start : ForStartTree) → IfSome (start_of start) (StartAmong (for_start_spelling start))
unfolding for_start_spelling declaration_spelling
loop_start_among (Nothing semicolon) = tt
loop_start_among (StartExpression e semicolon) =
    let own = expression_spelling e in
    if_weaker (StartAmong own) (StartAmong (for_start_spelling (StartExpression e semicolon))) _ (assigned_among e)
    (λ start h. λ scopes inner. before _ own _ (h scopes inner))
loop_start_among (StartDeclaration d) =
    let own = declarator_spelling expression_spelling d.first in
    let tail = flat_map (further_spelling expression_spelling) d.rest in
    if_weaker (StartAmong own) (StartAmong (for_start_spelling (StartDeclaration d))) _ (declared_among d.first d.rest)
    (λ start h. λ scopes inner. further _ _ _ (before _ (own ++ tail) _ (before _ own tail (h scopes inner))))

-- the bound
abbrev ToAmong : List Token → Bound → Type 0
ToAmong ts bound = (inner : Scopes) → Among (expression_breaches inner true bound.to) ts

compared_among : (o : BinaryOperator) (b : ExpressionTree) → IfSome (compared o b) (ToAmong (expression_spelling b))
compared_among o b =
    if_behind (ToAmong (expression_spelling b)) (comparison_direction o) _ (λ direction. λ inner.
    expression_among b inner true)

bound_among : (e : ExpressionTree) (name : List ℕ) → IfSome (bound_of e name) (ToAmong (expression_spelling e))
unfolding expression_spelling
bound_among (Binary a o at b) name =
    let own = expression_spelling b in
    let goal = ToAmong (expression_spelling (Binary a o at b)) in
    if_either (λ bound. IfSome bound goal) (is_named a name) (compared o b) None
    (if_weaker (ToAmong own) goal (compared o b) (compared_among o b) (λ bound h. λ inner.
    behind _ (expression_spelling a) _ (further _ _ own (h inner))))
    tt
bound_among (Name n) name = tt
bound_among (Constant n) name = tt
bound_among (Text t) name = tt
bound_among (Paren left e right) name = tt
bound_among (Index n left e right) name = tt
bound_among (Call n left values right) name = tt
bound_among (Prefix o at e) name = tt
bound_among (Postfix e o at) name = tt
bound_among (Conditional c question a colon b) name = tt
bound_among (Assign a o at b) name = tt

-- the loop
abbrev FoundAmong : List Token → Loop → Type 0
FoundAmong ts found = (scopes : Scopes) → Among (found_breaches scopes found) ts

given : (o : Option ExpressionTree) → IfSome o (λ e. expression_spelling e ≡ perhaps expression_spelling o)
given None = tt
given (Some e) = refl

-- the variable, the first value and the bound, by what the start says of the variable
found_at : (h : ForHeadTree) (declared : Bool) (scopes inner own : Scopes) (n : names.Name) (from to : ExpressionTree)
    → Among (if declared then expression_breaches own true from
    else variable_breaches scopes n ++ expression_breaches inner true from) (for_start_spelling h.start)
    → Among (if declared then expression_breaches own true to else expression_breaches inner true to)
    (perhaps expression_spelling h.condition)
    → Among (if declared then expression_breaches own true from ++ expression_breaches own true to
    else variable_breaches scopes n ++ (expression_breaches inner true from ++ expression_breaches inner true to))
    (for_head_spelling h)
found_at h true scopes inner own n from to hf ht =
    let fs = expression_breaches own true from in
    let ts = expression_breaches own true to in
    subst (λ z. Among z (for_head_spelling h)) (append-nil (fs ++ ts)) (head_among h fs ts [] hf ht (none _))
found_at h false scopes inner own n from to hf ht =
    let vs = variable_breaches scopes n in
    let fs = expression_breaches inner true from in
    let ts = expression_breaches inner true to in
    subst (λ z. Among z (for_head_spelling h)) (append-nil (vs ++ fs ++ ts) ∙ append_assoc vs fs ts)
    (head_among h (vs ++ fs) ts [] hf ht (none _))

bounded_among : (h : ForHeadTree) (start : LoopStart) (bound : Bound) (by : Step)
    → StartAmong (for_start_spelling h.start) start → ToAmong (perhaps expression_spelling h.condition) bound
    → IfSome (loop_to h.word start bound by) (FoundAmong (for_head_spelling h))
bounded_among h start bound by hs hb =
    if_either (λ found. IfSome found (FoundAmong (for_head_spelling h)))
    (same_direction bound.direction by.direction) _ None (λ scopes. found scopes start.is_declared refl) tt
  where
    made : Loop
    made = record { at = h.word; start = start; comparison = bound.comparison; to = bound.to; step = by.value }

    found : (scopes : Scopes) (declared : Bool) → start.is_declared ≡ declared
        → Among (found_breaches scopes made) (for_head_spelling h)
    found scopes true e =
        subst (λ z. Among (if z then values_breaches (with_iteration scopes made) made
        else variable_breaches scopes start.variable ++ values_breaches scopes made) (for_head_spelling h)) (sym e)
        (found_at h true scopes scopes (with_iteration scopes made) start.variable start.from bound.to
        (subst (λ z. Among (if z then expression_breaches (with_iteration scopes made) true start.from
        else variable_breaches scopes start.variable
        ++ expression_breaches (with_iteration scopes made) true start.from)
        (for_start_spelling h.start)) e (hs scopes (with_iteration scopes made)))
        (hb (with_iteration scopes made)))
    found scopes false e =
        subst (λ z. Among (if z then values_breaches (with_iteration scopes made) made
        else variable_breaches scopes start.variable ++ values_breaches scopes made) (for_head_spelling h)) (sym e)
        (found_at h false scopes scopes (with_iteration scopes made) start.variable start.from bound.to
        (subst (λ z. Among (if z then expression_breaches scopes true start.from
        else variable_breaches scopes start.variable ++ expression_breaches scopes true start.from)
        (for_start_spelling h.start)) e (hs scopes scopes))
        (hb scopes))

pub loop_among : (h : ForHeadTree) → IfSome (loop_of h) (FoundAmong (for_head_spelling h))
loop_among h =
    let goal = FoundAmong (for_head_spelling h) in
    let own = perhaps expression_spelling h.condition in
    if_then (StartAmong (for_start_spelling h.start)) goal (start_of h.start) _ (loop_start_among h.start)
    (λ start hs.
    if_then (λ e. expression_spelling e ≡ own) goal h.condition _ (given h.condition) (λ condition is.
    if_behind goal h.step _ (λ step.
    if_then (ToAmong (expression_spelling condition)) goal (bound_of condition start.variable.text) _
    (bound_among condition start.variable.text) (λ bound hb.
    if_behind goal (step_in step start.variable.text) _ (λ by.
    bounded_among h start bound by hs (subst (λ us. ToAmong us bound) is hb))))))
