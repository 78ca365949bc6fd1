-- A whole tree has code, if the statement of each `atomic` that reads or writes is an assignment.
use Rattle.std.proofs.Common.{◌≡◌, ◌≤◌, ℕ, zero, suc, ℤ, Bool, true, false, List, [], ◌∷◌, Option, Some, None, refl}
use Rattle.std.proofs.Common.{◌+◌, length, sym, ap, ◌∙◌, arith}
use Rattle.std.specs.Prelude.{All, IfSome, IsSome, IsSomeAnd, slice_get}
use Rattle.std.proofs.lemmas.List.Elements.{All-nil, All-cons, All-head, All-tail, All-append}
use Rattle.om_parser_tree.specs.declared.tree.BinaryOperator.{BinaryOperator}
use Rattle.om_parser_tree.specs.declared.tree.BinaryOperator.TheVariants as binaries
use Rattle.om_scope_tree.specs.declared.resolved.ConstructKind.TheVariants as constructs
use Rattle.om_scope_tree.specs.declared.resolved.GlobalVariable.{GlobalVariable}
use Rattle.om_scope_tree.specs.declared.resolved.RegionKind.TheVariants as kinds
use Rattle.om_scope_tree.specs.declared.resolved.Variable as variables
use Rattle.om_scope_tree.specs.Beside.{Everywhere, EverywhereIn, EverywhereInParts, Assigns, AtomicAssigns}
use Rattle.om_scope_tree.specs.ResolvedTree.{ResolvedExpressionTree, Constant, Variable, Element, Call, ThreadNumber}
use Rattle.om_scope_tree.specs.ResolvedTree.{TeamSize, Print, Unary, Binary, Conditional, Assign, AssignElement, Postfix}
use Rattle.om_scope_tree.specs.ResolvedTree.{PostfixElement, ValuesTree, NoValues, Value, ResolvedDeclaratorTree}
use Rattle.om_scope_tree.specs.ResolvedTree.{ResolvedClauseTree, ClauseValue, Shared, Copied, ResolvedStartTree}
use Rattle.om_scope_tree.specs.ResolvedTree.{StartNothing, StartExpression, StartDeclaration, ResolvedStatementTree}
use Rattle.om_scope_tree.specs.ResolvedTree.{Declaration, Block, Empty, Expression, If, IfElse, While, Do, For, Return}
use Rattle.om_scope_tree.specs.ResolvedTree.{Break, Continue, Region, Loop, Sections, Construct, Update}
use Rattle.om_scope_tree.specs.ResolvedTree.{StandAlone, ResolvedStatementsTree, NoStatements, Statement}
use Rattle.om_scope_tree.specs.ResolvedTree.{ResolvedPartsTree, NoParts, Part, ResolvedFunctionTree}
use Rattle.om_scope_tree.specs.Whole.{Around, Admitted, IsWhole, AreWhole, IsWholeIfAny, AreWholeDeclarators}
use Rattle.om_scope_tree.specs.Whole.{after_declarators, declared, AreWholeClauses, IsWholeClause, IsStep, IsWholeStart}
use Rattle.om_scope_tree.specs.Whole.{after_start, IsWholeReturn, IsWholeTarget, after_item, repeated, within, iterated}
use Rattle.om_scope_tree.specs.Whole.{of_parallel, of_construct, IsWholeStatement, AreWholeItems, AreWholeParts}
use Rattle.om_scope_tree.specs.Whole.{IsWholeFunction, IsCalled, at_function, count_of, scalar, with_locals}
use Rattle.om_lower_rules.specs.Bodies.{Numbers, next_body, next_pick, behind, behind_all, behind_function, region_variables}
use Rattle.om_lower_rules.specs.Bodies.{function_variables, regions, all_regions, parts_regions, function_bodies, bodies_from}
use Rattle.om_lower_rules.specs.Bodies.{BodySite}
use Rattle.om_lower_rules.specs.Coded.{ValueHasCode, ValuesHaveCode, EffectHasCode, DeclaratorHasCode, StartHasCode}
use Rattle.om_lower_rules.specs.Coded.{AssignmentHasCode, StatementHasCode, StatementsHaveCode, PartsHaveCode, BodyHasCode}
use Rattle.om_lower_rules.specs.Expressions.{value_count}
use Rattle.om_lower_rules.specs.Operators.{comparison_of}
use Rattle.om_lower_rules.specs.Statements.{clause_value}

-- ---- how many values a call has

abbrev HasFew : ResolvedFunctionTree → Type 0
HasFew function = length function.parameters ≤ 16

abbrev AreFew : List ResolvedFunctionTree → Type 0
AreFew functions = All HasFew functions

abbrev CallsFew : Around → Type 0
CallsFew around = AreFew around.functions

pub same_count : (es : ValuesTree) → count_of es ≡ value_count es
same_count NoValues = refl
same_count (Value e rest) = ap (λ n. n + 1) (same_count rest)

few_called : (functions : List ResolvedFunctionTree) (used : Bool) (f : ℕ) (es : ValuesTree) → AreFew functions
    → IsSomeAnd (slice_get functions f) (IsCalled used (count_of es)) → value_count es ≤ 16
few_called [] used f es few w = absurd w
few_called (g ∷ gs) used zero es few w =
    let first : length g.parameters ≤ 16 = All-head HasFew g gs few in
    omega (arith, first, w.parameters, same_count es)
few_called (g ∷ gs) used (suc f) es few w = few_called gs used f es (All-tail HasFew g gs few) w

-- ---- expressions

mutual
  pub whole_value : (e : ResolvedExpressionTree) (around : Around) (few : CallsFew around) → IsWhole around true e
      → ValueHasCode e
  whole_value (Constant n) around few w = tt
  whole_value (Variable x) around few w = tt
  whole_value (Element a j) around few w = whole_value j around few w.1
  whole_value (Call f es) around few w = (few_called around.functions true f es few w.0, whole_values es around few w.1)
  whole_value ThreadNumber around few w = tt
  whole_value TeamSize around few w = tt
  whole_value (Print format es) around few w = let e = w.0 in absurd cc
  whole_value (Unary o e) around few w = whole_value e around few w
  whole_value (Binary a o b) around few w = (whole_value a around few w.0, whole_value b around few w.1)
  whole_value (Conditional c a b) around few w = (
    whole_value c around few w.0,
    whole_value a around few w.1,
    whole_value b
        around few w.2,
  )
  whole_value (Assign x o e) around few w = whole_value e around few w.1
  whole_value (AssignElement a j o e) around few w = (whole_value j around few w.1, whole_value e around few w.2)
  whole_value (Postfix x o) around few w = tt
  whole_value (PostfixElement a j o) around few w = whole_value j around few w.1

  pub whole_values : (es : ValuesTree) (around : Around) (few : CallsFew around) → AreWhole around es
      → ValuesHaveCode es
  whole_values NoValues around few w = tt
  whole_values (Value e rest) around few w = (whole_value e around few w.0, whole_values rest around few w.1)

whole_effect : (e : ResolvedExpressionTree) (around : Around) (few : CallsFew around) → IsWhole around false e
    → EffectHasCode e
whole_effect (Constant n) around few w = tt
whole_effect (Variable x) around few w = tt
whole_effect (Element a j) around few w = whole_value j around few w.1
whole_effect (Call f es) around few w = (few_called around.functions false f es few w.0, whole_values es around few w.1)
whole_effect ThreadNumber around few w = tt
whole_effect TeamSize around few w = tt
whole_effect (Print format es) around few w = (omega (arith, w.2, same_count es), whole_values es around few w.3)
whole_effect (Unary o e) around few w = whole_value e around few w
whole_effect (Binary a o b) around few w = (whole_value a around few w.0, whole_value b around few w.1)
whole_effect (Conditional c a b) around few w = (
  whole_value c around few w.0,
  whole_value a around few w.1,
  whole_value b
      around few w.2,
)
whole_effect (Assign x o e) around few w = whole_value e around few w.1
whole_effect (AssignElement a j o e) around few w = (whole_value j around few w.1, whole_value e around few w.2)
whole_effect (Postfix x o) around few w = tt
whole_effect (PostfixElement a j o) around few w = whole_value j around few w.1

whole_if_any : (e : Option ResolvedExpressionTree) (around : Around) (few : CallsFew around)
    → IsWholeIfAny around true e
    → IfSome e ValueHasCode
whole_if_any None around few w = tt
whole_if_any (Some e) around few w = whole_value e around few w

effect_if_any : (e : Option ResolvedExpressionTree) (around : Around) (few : CallsFew around)
    → IsWholeIfAny around false e
    → IfSome e EffectHasCode
effect_if_any None around few w = tt
effect_if_any (Some e) around few w = whole_effect e around few w

whole_declarators : (ds : List ResolvedDeclaratorTree) (around : Around) (few : CallsFew around)
    → AreWholeDeclarators around ds
    → All DeclaratorHasCode ds
whole_declarators [] around few w = All-nil DeclaratorHasCode
whole_declarators (d ∷ ds) around few w =
    All-cons DeclaratorHasCode d ds (whole_if_any d.initial (declared around d) few w.1)
    (whole_declarators ds (declared around d) few w.2)

whole_start : (start : ResolvedStartTree) (around : Around) (few : CallsFew around) → IsWholeStart around start
    → StartHasCode start
whole_start StartNothing around few w = tt
whole_start (StartExpression e) around few w = whole_effect e around few w
whole_start (StartDeclaration ds) around few w = whole_declarators ds around few w

whole_return : (e : Option ResolvedExpressionTree) (around : Around) (few : CallsFew around) → IsWholeReturn around e
    → IfSome e ValueHasCode
whole_return None around few w = tt
whole_return (Some e) around few w = whole_value e around few w.1

whole_clauses : (clauses : List ResolvedClauseTree) (around : Around) (few : CallsFew around) (admitted : Admitted)
    → AreWholeClauses around
    admitted clauses → IfSome (clause_value clauses) ValueHasCode
whole_clauses [] around few admitted w = tt
whole_clauses (ClauseValue kind e ∷ rest) around few admitted w =
    whole_value e around few (All-head (IsWholeClause around admitted) (ClauseValue kind e) rest w).1
whole_clauses (Shared v ∷ rest) around few admitted w =
    whole_clauses rest around few admitted (All-tail (IsWholeClause around admitted) (Shared v) rest w)
whole_clauses (Copied kind x copy ∷ rest) around few admitted w =
    whole_clauses rest around few admitted (All-tail (IsWholeClause around admitted) (Copied kind x copy) rest w)

whole_comparison : (comparison : BinaryOperator) (step : ℤ) → IsStep comparison step → IsSome (comparison_of comparison)
whole_comparison binaries.Less step w = refl
whole_comparison binaries.LessEqual step w = refl
whole_comparison binaries.Greater step w = refl
whole_comparison binaries.GreaterEqual step w = refl
whole_comparison _ step w = absurd w

whole_target : (x : variables.Variable) (index : Option ResolvedExpressionTree) (around : Around)
    (few : CallsFew around)
    → IsWholeTarget around x index → IfSome index ValueHasCode
whole_target x None around few w = tt
whole_target x (Some j) around few w = whole_value j around few w.1

whole_assignment : (s : ResolvedStatementTree) (around : Around) (few : CallsFew around) → IsWholeStatement around s
    → Assigns s
    → AssignmentHasCode s
whole_assignment (Expression first e) around few w a = whole_effect e around few w
whole_assignment _ around few w a = absurd a

-- ---- what is declared changes nothing of where jumps may stand

pub declared_jumps : (ds : List ResolvedDeclaratorTree) (around : Around)
    → ((after_declarators around ds).breaks ≡ around.breaks) × ((after_declarators around ds).continues
    ≡ around.continues)
declared_jumps [] around = (refl, refl)
declared_jumps (d ∷ ds) around = declared_jumps ds (declared around d)

pub item_jumps : (s : ResolvedStatementTree) (around : Around)
    → ((after_item around s).breaks ≡ around.breaks) × ((after_item around s).continues ≡ around.continues)
item_jumps (Declaration first ds) around = declared_jumps ds around
item_jumps _ around = (refl, refl)

-- ---- and nothing of the functions

few_declared : (ds : List ResolvedDeclaratorTree) (around : Around) → CallsFew around
    → CallsFew (after_declarators around ds)
few_declared [] around few = few
few_declared (d ∷ ds) around few = few_declared ds (declared around d) few

few_after_start : (start : ResolvedStartTree) (around : Around) → CallsFew around → CallsFew (after_start around start)
few_after_start StartNothing around few = few
few_after_start (StartExpression e) around few = few
few_after_start (StartDeclaration ds) around few = few_declared ds around few

few_after_item : (s : ResolvedStatementTree) (around : Around) → CallsFew around → CallsFew (after_item around s)
few_after_item (Declaration first ds) around few = few_declared ds around few
few_after_item _ around few = few

-- ---- statements

mutual
  whole_statement : (s : ResolvedStatementTree) (around : Around) (few : CallsFew around) (b c : Bool)
      → around.breaks ≡ b
      → around.continues ≡ c
      → IsWholeStatement around s → Everywhere AtomicAssigns s → StatementHasCode b c s
  whole_statement (Declaration first ds) around few b c eb ec w a = whole_declarators ds around few w
  whole_statement (Block first items) around few b c eb ec w a = whole_items items around few b c eb ec w a.1
  whole_statement (Empty first) around few b c eb ec w a = tt
  whole_statement (Expression first e) around few b c eb ec w a = whole_effect e around few w
  whole_statement (If first x s) around few b c eb ec w a = (
    whole_value x around few w.0,
    whole_statement s around few b c eb
        ec w.1 a.1,
  )
  whole_statement (IfElse first x s t) around few b c eb ec w a = (
    whole_value x around few w.0,
    whole_statement s around few b c eb ec w.1 a.1,
    whole_statement t around few b c
        eb ec w.2 a.2,
  )
  whole_statement (While first x s) around few b c eb ec w a =
      (whole_value x around few w.0, whole_statement s (repeated around) few true true refl refl w.1 a.1)
  whole_statement (Do first s x) around few b c eb ec w a =
      (whole_statement s (repeated around) few true true refl refl w.0 a.1, whole_value x around few w.1)
  whole_statement (For first start x step s) around few b c eb ec w a =
      let inside = few_after_start start around few in (
        whole_start start around few w.0,
        whole_if_any x (after_start around start) inside w.1,
        effect_if_any step (after_start around start) inside w.2,
        whole_statement s (repeated (after_start around start)) inside true true refl refl w.3 a.1,
      )
  whole_statement (Return first e) around few b c eb ec w a = whole_return e around few w.1
  whole_statement (Break first) around few b c eb ec w a = sym eb ∙ w
  whole_statement (Continue first) around few b c eb ec w a = sym ec ∙ w
  whole_statement (Region first kinds.Parallel clauses captures s) around few b c eb ec w a = whole_clauses clauses around few
      of_parallel w.0
  whole_statement (Region first kinds.Task clauses captures s) around few b c eb ec w a = tt
  whole_statement (Loop first clauses nowait l s) around few b c eb ec w a = (
    (
      whole_comparison l.comparison l.step w.1.step,
      whole_value l.from (with_locals around (scalar l.variable ∷ [])) few w.1.from,
      whole_value l.to (with_locals around (scalar l.variable ∷ [])) few w.1.to,
    ),
    whole_statement s (iterated around clauses l) few false true refl refl w.2 a.1,
  )
  whole_statement (Sections first clauses nowait sections) around few b c eb ec w a =
      (w.2, whole_parts sections (within around clauses) few refl refl w.3 a.1)
  whole_statement (Construct first (constructs.Single nowait) clauses s) around few b c eb ec w a =
      whole_statement s (within around clauses) few false false refl refl w.1 a.1
  whole_statement (Construct first constructs.Masked clauses s) around few b c eb ec w a = (
    whole_clauses clauses around few (of_construct constructs.Masked) w.0,
    whole_statement s (within around clauses) few
        false false refl refl w.1 a.1,
  )
  whole_statement (Construct first (constructs.Critical name) clauses s) around few b c eb ec w a =
      whole_statement s (within around clauses) few false false refl refl w.1 a.1
  whole_statement (Construct first (constructs.Atomic access) clauses s) around few b c eb ec w a = whole_assignment s
      (within around clauses) few w.1 a.0
  whole_statement (Construct first constructs.Taskgroup clauses s) around few b c eb ec w a =
      whole_statement s (within around clauses) few false false refl refl w.1 a.1
  whole_statement (Update first u) around few b c eb ec w a = (
    whole_target u.variable u.index (within around []) few w.target,
    whole_value
        u.operand (within around []) few w.operand,
  )
  whole_statement (StandAlone first directive) around few b c eb ec w a = tt

  whole_items : (items : ResolvedStatementsTree) (around : Around) (few : CallsFew around) (b c : Bool)
      → around.breaks ≡ b
      → around.continues ≡ c
      → AreWholeItems around items → EverywhereIn AtomicAssigns items → StatementsHaveCode b c items
  whole_items NoStatements around few b c eb ec w a = tt
  whole_items (Statement s rest) around few b c eb ec w a =
      let e = item_jumps s around in (
        whole_statement s around few b c eb ec w.0 a.0,
        whole_items rest (after_item around s) (few_after_item s around few) b c (e.0 ∙ eb) (e.1 ∙ ec)
            w.1 a.1,
      )

  whole_parts : (parts : ResolvedPartsTree) (around : Around) (few : CallsFew around) → around.breaks ≡ false
      → around.continues ≡ false
      → AreWholeParts around parts → EverywhereInParts AtomicAssigns parts → PartsHaveCode parts
  whole_parts NoParts around few eb ec w a = tt
  whole_parts (Part items rest) around few eb ec w a = (
    whole_items items around few false false eb ec w.1 a.0,
    whole_parts
        rest around few eb ec w.2 a.1,
  )

-- ---- bodies

abbrev SiteHasCode : BodySite → Type 0
SiteHasCode b = BodyHasCode b.function b.tree

module _ (f : ResolvedFunctionTree) where
  mutual
    unfolding regions all_regions parts_regions

    whole_regions : (s : ResolvedStatementTree) (around : Around) (few : CallsFew around) (outer : List ℕ) (n : Numbers)
        → IsWholeStatement around s → Everywhere AtomicAssigns s → All SiteHasCode (regions f outer n s)
    whole_regions (Block first items) around few outer n w a = whole_all_regions items around few outer n w a.1
    whole_regions (If first x s) around few outer n w a = whole_regions s around few outer n w.1 a.1
    whole_regions (IfElse first x s t) around few outer n w a =
        All-append SiteHasCode (regions f outer n s) (regions f outer (behind n s) t)
        (whole_regions s around few outer n w.1 a.1) (whole_regions t around few outer (behind n s) w.2 a.2)
    whole_regions (While first x s) around few outer n w a = whole_regions s (repeated around) few outer n w.1 a.1
    whole_regions (Do first s x) around few outer n w a = whole_regions s (repeated around) few outer n w.0 a.1
    whole_regions (For first start x step s) around few outer n w a = whole_regions s
        (repeated (after_start around start)) (few_after_start start around few) outer n w.3 a.1
    whole_regions (Region first kind clauses captures s) around few outer n w a =
        All-cons SiteHasCode _ (regions f (region_variables clauses s) (next_body n) s)
        (whole_statement s (within around clauses) few false false refl refl w.2 a.1)
        (whole_regions s (within around clauses) few (region_variables clauses s) (next_body n) w.2 a.1)
    whole_regions (Loop first clauses nowait l s) around few outer n w a = whole_regions s
        (iterated around clauses l) few
        outer n w.2 a.1
    whole_regions (Sections first clauses nowait sections) around few outer n w a =
        whole_parts_regions sections (within around clauses) few outer (next_pick n) w.3 a.1
    whole_regions (Construct first kind clauses s) around few outer n w a = whole_regions s (within around clauses) few
        outer n w.1 a.1
    whole_regions (Declaration first ds) around few outer n w a = All-nil SiteHasCode
    whole_regions (Empty first) around few outer n w a = All-nil SiteHasCode
    whole_regions (Expression first e) around few outer n w a = All-nil SiteHasCode
    whole_regions (Return first e) around few outer n w a = All-nil SiteHasCode
    whole_regions (Break first) around few outer n w a = All-nil SiteHasCode
    whole_regions (Continue first) around few outer n w a = All-nil SiteHasCode
    whole_regions (Update first u) around few outer n w a = All-nil SiteHasCode
    whole_regions (StandAlone first directive) around few outer n w a = All-nil SiteHasCode

    whole_all_regions : (items : ResolvedStatementsTree) (around : Around) (few : CallsFew around) (outer : List ℕ)
        (n : Numbers)
        → AreWholeItems around items → EverywhereIn AtomicAssigns items → All SiteHasCode (all_regions f outer n items)
    whole_all_regions NoStatements around few outer n w a = All-nil SiteHasCode
    whole_all_regions (Statement s rest) around few outer n w a =
        All-append SiteHasCode (regions f outer n s) (all_regions f outer (behind n s) rest)
        (whole_regions s around few outer n w.0 a.0) (whole_all_regions rest (after_item around s)
        (few_after_item s around few) outer (behind n s)
        w.1 a.1)

    whole_parts_regions : (parts : ResolvedPartsTree) (around : Around) (few : CallsFew around) (outer : List ℕ)
        (n : Numbers)
        → AreWholeParts around parts → EverywhereInParts AtomicAssigns parts → All SiteHasCode
        (parts_regions f outer n parts)
    whole_parts_regions NoParts around few outer n w a = All-nil SiteHasCode
    whole_parts_regions (Part items rest) around few outer n w a =
        All-append SiteHasCode (all_regions f outer n items) (parts_regions f outer (behind_all n items) rest)
        (whole_all_regions items around few outer n w.1 a.0) (whole_parts_regions rest around few outer
        (behind_all n items)
        w.2 a.1)

few_parameters : (globals : List GlobalVariable) (functions fs : List ResolvedFunctionTree)
    → All (IsWholeFunction globals functions) fs → AreFew fs
few_parameters globals functions [] w = All-nil HasFew
few_parameters globals functions (f ∷ fs) w =
    All-cons HasFew f fs (All-head (IsWholeFunction globals functions) f fs w).parameters
    (few_parameters globals functions fs (All-tail (IsWholeFunction globals functions) f fs w))

pub whole_bodies : (globals : List GlobalVariable) (functions fs : List ResolvedFunctionTree) (n : Numbers)
    → All (IsWholeFunction globals functions) functions → All (IsWholeFunction globals functions) fs → All
    (λ f. EverywhereIn AtomicAssigns f.body) fs → All SiteHasCode
    (bodies_from n fs)
whole_bodies globals functions [] n whole w a = All-nil SiteHasCode
whole_bodies globals functions (f ∷ fs) n whole w a =
    let here = All-head (IsWholeFunction globals functions) f fs w in
    let assigns = All-head (λ f. EverywhereIn AtomicAssigns f.body) f fs a in
    let around = at_function globals functions f in
    let few = few_parameters globals functions functions whole in
    All-append SiteHasCode (function_bodies n f) (bodies_from (behind_function n f) fs)
    (All-cons SiteHasCode _ (all_regions f (function_variables f) (next_body n) f.body)
    (whole_items f.body around few false false refl refl here.body assigns)
    (whole_all_regions f f.body around few (function_variables f) (next_body n) here.body assigns))
    (whole_bodies globals functions fs (behind_function n f) whole (All-tail (IsWholeFunction globals functions) f fs w)
    (All-tail (λ f. EverywhereIn AtomicAssigns f.body) f fs a))
