-- Which bodies the instructions of a statement begin: none but those of the `parallel` and `task` in it.
use Rattle.std.proofs.Common.{◌≡◌, ℕ, ◌+◌, ◌<◌, ◌≤◌, List, [], ◌∷◌, Option, None, Some, arith, subst}
use Rattle.std.proofs.Common.{⊎_elim, slice_get, ap, Bool, true, false}
use Rattle.std.specs.Prelude.{ℤ, pos}
use Rattle.std.proofs.lemmas.Bool.{cases_lt, eqb-true}
use Rattle.om_code.specs.declared.instruction.Barrier.{Barrier}
use Rattle.om_code.specs.declared.instruction.Barrier.TheVariants as barriers
use Rattle.om_code.specs.declared.instruction.BinaryOperator as machine
use Rattle.om_code.specs.declared.instruction.Comparison.{Comparison}
use Rattle.om_code.specs.declared.instruction.Instr.{Instr}
use Rattle.om_code.specs.declared.instruction.Instr.TheVariants as i
use Rattle.om_code.specs.declared.instruction.Task.TheVariants as taskings
use Rattle.om_code.specs.declared.instruction.Team.TheVariants as teams
use Rattle.om_code.specs.declared.raw.Line.{Line}
use Rattle.om_code_places.specs.Visible.{starts_body}
use Rattle.om_lexer.specs.declared.token.Span.{Span}
use Rattle.om_scope_tree.specs.declared.resolved.Capture.{Capture}
use Rattle.om_scope_tree.specs.declared.resolved.ConstructKind.{ConstructKind}
use Rattle.om_scope_tree.specs.declared.resolved.ConstructKind.TheVariants as constructs
use Rattle.om_scope_tree.specs.declared.resolved.CopyKind.TheVariants as copies
use Rattle.om_scope_tree.specs.declared.resolved.RegionKind.{RegionKind}
use Rattle.om_scope_tree.specs.declared.resolved.RegionKind.TheVariants as kinds
use Rattle.om_scope_tree.specs.declared.resolved.StandAlone as alone
use Rattle.om_scope_tree.specs.declared.resolved.StandAlone.TheVariants as alones
use Rattle.om_scope_tree.specs.declared.resolved.UnaryOperator.{UnaryOperator}
use Rattle.om_scope_tree.specs.declared.resolved.UnaryOperator.TheVariants as unaries
use Rattle.om_scope_tree.specs.declared.resolved.Variable as variables
use Rattle.om_scope_tree.specs.ResolvedTree.{ResolvedExpressionTree, Constant, Variable, Element, Call, ThreadNumber}
use Rattle.om_scope_tree.specs.ResolvedTree.{TeamSize, Print, Unary, Binary, Conditional, Assign, AssignElement}
use Rattle.om_scope_tree.specs.ResolvedTree.{Postfix, PostfixElement, ValuesTree, NoValues, Value}
use Rattle.om_scope_tree.specs.ResolvedTree.{ResolvedDeclaratorTree, ResolvedClauseTree, ClauseValue, Shared, Copied}
use Rattle.om_scope_tree.specs.ResolvedTree.{ResolvedStartTree, StartNothing, StartExpression, StartDeclaration}
use Rattle.om_scope_tree.specs.ResolvedTree.{ResolvedLoopTree, ResolvedUpdateTree, ResolvedStatementTree, Declaration}
use Rattle.om_scope_tree.specs.ResolvedTree.{Block, Empty, Expression, If, IfElse, While, Do, For, Return, Break}
use Rattle.om_scope_tree.specs.ResolvedTree.{Continue, Region, Loop, Sections, Construct, Update, StandAlone}
use Rattle.om_scope_tree.specs.ResolvedTree.{ResolvedStatementsTree, NoStatements, Statement, ResolvedPartsTree}
use Rattle.om_scope_tree.specs.ResolvedTree.{NoParts, Part, ResolvedFunctionTree}
use Rattle.om_lower_rules.specs.Bodies.{BodyTree, FunctionBody, Numbers, RegionBody, behind, behind_all, behind_parts}
use Rattle.om_lower_rules.specs.Bodies.{next_body, next_pick}
use Rattle.om_lower_rules.specs.Code.{body_row}
use Rattle.om_lower_rules.specs.Expressions.{assigned, binary_row, called, conditional_row, constant, effect}
use Rattle.om_lower_rules.specs.Expressions.{element_assigned, stepped_back, unary_row, value, values}
use Rattle.om_lower_rules.specs.Operators.{BinaryForm, Both, Either, Plain, comparison_of, compound_of, form_of}
use Rattle.om_lower_rules.specs.Operators.{inverse_step_of, step_of}
use Rattle.om_lower_rules.specs.Positions.{all_regions_long, parts_regions_long, regions_long}
use Rattle.om_lower_rules.specs.Rows.{Site, Row, each, given, perhaps, unless}
use Rattle.om_lower_rules.specs.Slots.{FirstCopy}
use Rattle.om_lower_rules.specs.Statements.{Jumps, alone_row, barrier, clause_reduction_start, clause_start, closes}
use Rattle.om_lower_rules.specs.Statements.{combine_clause, construct_row, declarator, given_copies, in_iteration}
use Rattle.om_lower_rules.specs.Statements.{jump, last_instruction, load_original, loop_rest, nowhere}
use Rattle.om_lower_rules.specs.Statements.{parts, reduction_starts, reductions, returned, start}
use Rattle.om_lower_rules.specs.Statements.{starts, statement, statements, test, update_row, updated}
use Rattle.om_lower_rules.specs.Statements.{worksharing_end, clause_value, filter_row, assignment_row, declared}
use Rattle.om_lower_rules.specs.Operators.{update_of, side_of}

-- so it is with each instruction from p to q
pub record Every (code : List Line) (P : Instr → Type 0) (p q : ℕ) : Type 0 where
  pub long : p ≤ q
  pub by : (k : ℕ) → p ≤ k → k < q → (line : Line) → slice_get code k ≡ Some line → P line.instruction

every_end : {code : List Line} {P : Instr → Type 0} {p q : ℕ} → p ≡ q → Every code P p q
every_end {code} {P} {p} {q} r = record {
  long = omega (arith, r);
  by = λ k le lt line is. absurd (omega (arith, r, le, lt));
}

every_ins : {code : List Line} {P : Instr → Type 0} {R : Type 0} {p q l : ℕ} {x : Instr}
    → (slice_get code p ≡ Some (record { instruction = x; line = l })) × R → P x → (R → Every code P (p + 1) q)
    → Every code P p q
every_ins {code} {P} {R} {p} {q} {l} {x} r known k = record {
  long = let rest = (k r.1).long in omega (arith, rest);
  by = λ k' le lt line is.
      ⊎_elim
      (λ (below : k' < p + 1).
      let here : k' ≡ p = omega (arith, below, le) in
      let same : record { instruction = x; line = l } ≡ line = cc (r.0, ap (λ z. slice_get code z) here, is) in
      subst (λ (z : Line). P z.instruction) same known)
      (λ (behind : p + 1 ≤ k'). (k r.1).by k' behind lt line is) (cases_lt k' (p + 1));
}

every_part : {code : List Line} {P : Instr → Type 0} {A R : ℕ → Type 0} {p q : ℕ} → (m : ℕ) × A m × R m
    → ((m : ℕ) → A m → Every code P p m) → ((m : ℕ) → R m → Every code P m q) → Every code P p q
every_part {code} {P} {A} {R} {p} {q} r first rest = record {
  long =
      let one = (first r.0 r.1).long in
      let other = (rest r.0 r.2).long in
      omega (arith, one, other);
  by = λ i le lt line is.
      ⊎_elim (λ (below : i < r.0). (first r.0 r.1).by i le below line is) (λ (behind : r.0 ≤ i). (rest r.0 r.2).by i
      behind lt line is) (cases_lt i r.0);
}

-- an instruction begins bodies of lower numbers alone
abbrev pub BeginsBelow : ℕ → Instr → Type 0
BeginsBelow above (i.Team (teams.Fork body sized values)) = body < above
BeginsBelow above (i.Task (taskings.Spawn body values)) = body < above
BeginsBelow above _ = Unit {0}

pub begins_it : (above number : ℕ) (x : Instr) → BeginsBelow above x → starts_body number x ≡ true → number < above
begins_it above number (i.Team (teams.Fork body sized values)) h e =
    let same : body ≡ number = eqb-true body number e in omega (arith, h, same)
begins_it above number (i.Team teams.ThreadNumber) h e = cc
begins_it above number (i.Team teams.TeamSize) h e = cc
begins_it above number (i.Team teams.Begin) h e = cc
begins_it above number (i.Team (teams.Arrive barrier)) h e = cc
begins_it above number (i.Team (teams.Depart barrier)) h e = cc
begins_it above number (i.Team teams.Leave) h e = cc
begins_it above number (i.Task (taskings.Spawn body values)) h e =
    let same : body ≡ number = eqb-true body number e in omega (arith, h, same)
begins_it above number (i.Task taskings.TaskEnd) h e = cc
begins_it above number (i.Task taskings.WaitBegin) h e = cc
begins_it above number (i.Task taskings.WaitEnd) h e = cc
begins_it above number (i.Task taskings.Yield) h e = cc
begins_it above number (i.Task taskings.GroupBegin) h e = cc
begins_it above number (i.Task taskings.GroupEnd) h e = cc
begins_it above number (i.Serial x) h e = cc
begins_it above number (i.Function x) h e = cc
begins_it above number (i.Sharing x) h e = cc
begins_it above number (i.Region x) h e = cc

-- the number behind the bodies in a body
abbrev pub ends : ResolvedFunctionTree → BodyTree → Numbers → ℕ
ends f FunctionBody n = (behind_all n f.body).bodies
ends f (RegionBody first kind clauses captures s) n = (behind n s).bodies

module _ (at : Site) (f : ResolvedFunctionTree) (above : ℕ) where
  abbrev P : Instr → Type 0
  P x = BeginsBelow above x

  abbrev E_ : Row → Type 0
  E_ r = (p q : ℕ) → r p q → Every at.code P p q

  -- ---- expressions

  constant_e : (l : ℕ) (v : ℤ) → E_ (constant at l v)
  constant_e l v p q r = every_ins r tt every_end

  unary_e : (l : ℕ) (o : UnaryOperator) (a : Row) → E_ a → E_ (unary_row at l o a)
  unary_e l unaries.Plus a ha p q r = ha p q r
  unary_e l unaries.Negate a ha p q r = every_part r (ha p) (λ m r. every_ins r tt every_end)
  unary_e l unaries.Not a ha p q r = every_part r (ha p) (λ m r. every_ins r tt every_end)

  binary_e : (l : ℕ) (form : BinaryForm) (a b : Row) → E_ a → E_ b → E_ (binary_row at l form a b)
  binary_e l Both a b ha hb p q r =
      every_part r.2 (ha p) (λ m r. every_ins r tt (λ r. every_part r (hb (m + 1)) (λ m r.
      every_ins r tt (λ r. every_ins r tt (λ r. every_ins r tt (λ r.
      every_ins r.1 tt (λ r. every_end r.1)))))))
  binary_e l Either a b ha hb p q r =
      every_part r.3 (ha p) (λ m r. every_ins r tt (λ r. every_ins r tt (λ r.
      every_ins r tt (λ r. every_part r.1 (hb (m + 1 + 1 + 1)) (λ m r.
      every_ins r tt (λ r. every_ins r tt (λ r. every_ins r tt (λ r.
      every_ins r.1 tt (λ r. every_end r.1)))))))))
  binary_e l (Plain o) a b ha hb p q r = every_part r (ha p)
      (λ m r. every_part r (hb m) (λ m r. every_ins r tt every_end))

  conditional_e : (l : ℕ) (x a b : Row) → E_ x → E_ a → E_ b → E_ (conditional_row at l x a b)
  conditional_e l x a b hx ha hb p q r =
      every_part r.2 (hx p) (λ m r. every_ins r tt (λ r. every_part r (ha (m + 1)) (λ m r.
      every_ins r tt (λ r. every_part r.1 (hb (m + 1)) (λ m r. every_end r.1)))))

  assigned_e : (l : ℕ) (keeps : Bool) (x : variables.Variable) (o : Option machine.BinaryOperator) (e : Row)
      → E_ e → E_ (assigned at l keeps x o e)
  assigned_e l keeps x None e he p q r = every_part r (he p) (λ m r. every_ins r tt every_end)
  assigned_e l keeps x (Some o) e he p q r =
      every_ins r tt (λ r. every_part r (he (p + 1)) (λ m r. every_ins r tt (λ r.
      every_ins r tt every_end)))

  element_e : (l : ℕ) (keeps : Bool) (a : variables.Variable) (j : Row) (o : Option machine.BinaryOperator) (e : Row)
      → E_ j → E_ e → E_ (element_assigned at l keeps a j o e)
  element_e l keeps a j None e hj he p q r =
      every_part r (hj p) (λ m r. every_part r (he m) (λ m r. every_ins r tt every_end))
  element_e l keeps a j (Some o) e hj he p q r =
      every_part r (hj p) (λ m r. every_ins r tt (λ r. every_ins r tt (λ r.
      every_part r (he (m + 1 + 1)) (λ m r. every_ins r tt (λ r. every_ins r tt every_end)))))

  called_e : (l function : ℕ) (es : ValuesTree) (e : Row) → E_ e → E_ (called at l function es e)
  called_e l function es e he p q r = every_part r (he p) (λ m r. every_ins r tt every_end)

  stepped_e : (l : ℕ) (o : machine.BinaryOperator) → E_ (stepped_back at l o)
  stepped_e l o p q r = every_ins r tt (λ r. every_ins r tt every_end)

  mutual
    value_e : (l : ℕ) (e : ResolvedExpressionTree) → E_ (value at l e)
    value_e l (Constant v) p q r = every_ins r tt every_end
    value_e l (Variable x) p q r = every_ins r tt every_end
    value_e l (Element a j) p q r = every_part r (value_e l j p) (λ m r. every_ins r tt every_end)
    value_e l (Call function es) p q r =
        every_part r (called_e l function es (values at l es) (values_e l es) p)
        (λ m r. every_ins r tt every_end)
    value_e l ThreadNumber p q r = every_ins r tt every_end
    value_e l TeamSize p q r = every_ins r tt every_end
    value_e l (Print format es) p q r = absurd r
    value_e l (Unary o a) p q r = unary_e l o (value at l a) (value_e l a) p q r
    value_e l (Binary a o b) p q r =
        binary_e l (form_of o) (value at l a) (value at l b) (value_e l a) (value_e l b) p q r
    value_e l (Conditional x a b) p q r =
        conditional_e l (value at l x) (value at l a) (value at l b) (value_e l x) (value_e l a) (value_e l b) p q r
    value_e l (Assign x o e) p q r = assigned_e l true x (compound_of o) (value at l e) (value_e l e) p q r
    value_e l (AssignElement a j o e) p q r =
        element_e l true a (value at l j) (compound_of o) (value at l e) (value_e l j) (value_e l e) p q r
    value_e l (Postfix x o) p q r =
        every_part r (assigned_e l true x (Some (step_of o)) (constant at l (pos 1)) (constant_e l (pos 1)) p)
        (λ m r. stepped_e l (inverse_step_of o) m q r)
    value_e l (PostfixElement a j o) p q r =
        every_part r
        (element_e l true a (value at l j) (Some (step_of o)) (constant at l (pos 1)) (value_e l j) (constant_e l (pos 1)) p)
        (λ m r. stepped_e l (inverse_step_of o) m q r)

    values_e : (l : ℕ) (es : ValuesTree) → E_ (values at l es)
    values_e l NoValues p q r = every_end r
    values_e l (Value e rest) p q r = every_part r (value_e l e p) (λ m r. values_e l rest m q r)

  effect_e : (l : ℕ) (e : ResolvedExpressionTree) → E_ (effect at l e)
  effect_e l (Assign x o e) p q r = assigned_e l false x (compound_of o) (value at l e) (value_e l e) p q r
  effect_e l (AssignElement a j o e) p q r =
      element_e l false a (value at l j) (compound_of o) (value at l e) (value_e l j) (value_e l e) p q r
  effect_e l (Postfix x o) p q r =
      assigned_e l false x (Some (step_of o)) (constant at l (pos 1)) (constant_e l (pos 1)) p q r
  effect_e l (PostfixElement a j o) p q r =
      element_e l false a (value at l j) (Some (step_of o)) (constant at l (pos 1)) (value_e l j) (constant_e l (pos 1)) p q r
  effect_e l (Print format es) p q r = every_part r (values_e l es p) (λ m r. every_ins r tt every_end)
  effect_e l (Call function es) p q r =
      every_part r (called_e l function es (values at l es) (values_e l es) p)
      (λ m r. every_ins r tt every_end)
  effect_e l e p q r = every_part r (value_e l e p) (λ m r. every_ins r tt every_end)

  -- ---- parts of statements

  each_e : {A : Type 0} (row : A → Row) (xs : List A) → ((x : A) → E_ (row x)) → E_ (each row xs)
  each_e row [] h p q r = every_end r
  each_e row (x ∷ xs) h p q r = every_part r (h x p) (λ m r. each_e row xs h m q r)

  perhaps_e : {A : Type 0} (row : A → Row) (x : Option A) → ((a : A) → E_ (row a)) → E_ (perhaps row x)
  perhaps_e row None h p q r = every_end r
  perhaps_e row (Some x) h p q r = h x p q r

  declarator_e : (l : ℕ) (d : ResolvedDeclaratorTree) → E_ (declarator at l d)
  declarator_e l d p q r = by d.initial r
    where
      by : (initial : Option ResolvedExpressionTree) → declared at l d.variable initial p q → Every at.code P p q
      by None r = every_ins r tt every_end
      by (Some e) r = every_part r (value_e l e p) (λ m r. every_ins r tt every_end)

  start_e : (l : ℕ) (s : ResolvedStartTree) → E_ (start at l s)
  start_e l StartNothing p q r = every_end r
  start_e l (StartExpression e) p q r = effect_e l e p q r
  start_e l (StartDeclaration ds) p q r = each_e (declarator at l) ds (declarator_e l) p q r

  test_e : (l to : ℕ) (c : ResolvedExpressionTree) → E_ (test at l to c)
  test_e l to c p q r = every_part r (value_e l c p) (λ m r. every_ins r tt every_end)

  last_e : (is_main has : Bool) → P (last_instruction is_main has)
  last_e true has = tt
  last_e false true = tt
  last_e false false = tt

  returned_e : (l : ℕ) (is_main : Bool) (e : Option ResolvedExpressionTree) → E_ (returned at l is_main e)
  returned_e l is_main None p q r = every_ins r (last_e is_main false) every_end
  returned_e l is_main (Some e) p q r =
      every_part r (value_e l e p) (λ m r. every_ins r (last_e is_main true) every_end)

  jump_e : (l : ℕ) (to : Option ℕ) → E_ (given to (jump at l))
  jump_e l None p q r = absurd r
  jump_e l (Some target) p q r = every_ins r tt every_end

  clause_start_e : (l : ℕ) (c : ResolvedClauseTree) → E_ (clause_start at l c)
  clause_start_e l (ClauseValue kind e) p q r = every_end r
  clause_start_e l (Shared x) p q r = every_end r
  clause_start_e l (Copied copies.Private x copy) p q r = every_ins r tt every_end
  clause_start_e l (Copied copies.Firstprivate x copy) p q r =
      every_ins r tt (λ r. every_ins r tt every_end)
  clause_start_e l (Copied (copies.Reduction o) x copy) p q r =
      every_ins r tt (λ r. every_ins r tt every_end)

  starts_e : (l : ℕ) (cs : List ResolvedClauseTree) → E_ (starts at l cs)
  starts_e l cs = each_e (clause_start at l) cs (clause_start_e l)

  reduction_start_e : (l : ℕ) (c : ResolvedClauseTree) → E_ (clause_reduction_start at l c)
  reduction_start_e l (ClauseValue kind e) p q r = every_end r
  reduction_start_e l (Shared x) p q r = every_end r
  reduction_start_e l (Copied copies.Private x copy) p q r = every_end r
  reduction_start_e l (Copied copies.Firstprivate x copy) p q r = every_end r
  reduction_start_e l (Copied (copies.Reduction o) x copy) p q r =
      every_ins r tt (λ r. every_ins r tt every_end)

  pub reduction_starts_e : (l : ℕ) (cs : List ResolvedClauseTree) → E_ (reduction_starts at l cs)
  reduction_starts_e l cs = each_e (clause_reduction_start at l) cs (reduction_start_e l)

  combine_e : (l : ℕ) (c : ResolvedClauseTree) → E_ (combine_clause at l c)
  combine_e l (ClauseValue kind e) p q r = every_end r
  combine_e l (Shared x) p q r = every_end r
  combine_e l (Copied copies.Private x copy) p q r = every_end r
  combine_e l (Copied copies.Firstprivate x copy) p q r = every_end r
  combine_e l (Copied (copies.Reduction o) x copy) p q r = every_ins r tt every_end

  pub reductions_e : (l : ℕ) (cs : List ResolvedClauseTree) → E_ (reductions at l cs)
  reductions_e l cs = each_e (combine_clause at l) cs (combine_e l)

  barrier_e : (l : ℕ) (b : Barrier) → E_ (barrier at l b)
  barrier_e l b p q r = every_ins r tt (λ r. every_ins r tt every_end)

  unless_e : (b : Bool) (row : Row) → E_ row → E_ (unless b row)
  unless_e true row h p q r = every_end r
  unless_e false row h p q r = h p q r

  end_e : (l : ℕ) (nowait : Bool) → E_ (worksharing_end at l nowait)
  end_e l nowait p q r =
      every_ins r tt (λ r. unless_e nowait (barrier at l barriers.Worksharing)
      (barrier_e l barriers.Worksharing) (p + 1) q r)

  closes_e : (l : ℕ) (cs : List ResolvedClauseTree) (nowait : Bool) → E_ (closes at l cs nowait)
  closes_e l cs nowait p q r = every_part r (reductions_e l cs p) (λ m r. end_e l nowait m q r)

  alone_e : (l : ℕ) (d : alone.StandAlone) → E_ (alone_row at l d)
  alone_e l alones.Barrier p q r = barrier_e l barriers.Explicit p q r
  alone_e l alones.Taskwait p q r = every_ins r tt (λ r. every_ins r tt every_end)
  alone_e l alones.Taskyield p q r = every_ins r tt every_end
  alone_e l (alones.Flush vs) p q r = every_ins r tt every_end

  filter_e : (l : ℕ) (e : Option ResolvedExpressionTree) → E_ (filter_row at l e)
  filter_e l None p q r = constant_e l (pos 0) p q r
  filter_e l (Some e) p q r = value_e l e p q r

  assignment_e : (l : ℕ) (s : ResolvedStatementTree) → E_ (assignment_row at l s)
  assignment_e l (Expression first e) p q r = effect_e l e p q r
  assignment_e l (Declaration first ds) p q r = absurd r
  assignment_e l (Block first items) p q r = absurd r
  assignment_e l (Empty first) p q r = absurd r
  assignment_e l (If first c s) p q r = absurd r
  assignment_e l (IfElse first c s t) p q r = absurd r
  assignment_e l (While first c s) p q r = absurd r
  assignment_e l (Do first s c) p q r = absurd r
  assignment_e l (For first begin c step s) p q r = absurd r
  assignment_e l (Return first e) p q r = absurd r
  assignment_e l (Break first) p q r = absurd r
  assignment_e l (Continue first) p q r = absurd r
  assignment_e l (Region first kind clauses captures s) p q r = absurd r
  assignment_e l (Loop first clauses nowait loop s) p q r = absurd r
  assignment_e l (Sections first clauses nowait sections) p q r = absurd r
  assignment_e l (Construct first kind clauses s) p q r = absurd r
  assignment_e l (Update first u) p q r = absurd r
  assignment_e l (StandAlone first directive) p q r = absurd r

  construct_e : (l : ℕ) (kind : ConstructKind) (cs : List ResolvedClauseTree) (s : ResolvedStatementTree) (body : Row)
      → E_ body → E_ (construct_row at l kind cs s body)
  construct_e l (constructs.Single nowait) cs s body h p q r =
      every_ins r.1 tt (λ r. every_part r (starts_e l cs (p + 1)) (λ m r. every_part r (h m) (λ m r.
      end_e l nowait m q r.1)))
  construct_e l constructs.Masked cs s body h p q r =
      every_part r.1 (filter_e l (clause_value cs) p) (λ m r. every_ins r tt (λ r.
      every_part r (h (m + 1)) (λ m r. every_ins r tt (λ r. every_end r.1))))
  construct_e l (constructs.Critical name) cs s body h p q r =
      every_ins r tt (λ r. every_ins r tt (λ r. every_part r (h (p + 1 + 1)) (λ m r.
      every_ins r tt every_end)))
  construct_e l (constructs.Atomic access) cs s body h p q r = assignment_e l s p q r
  construct_e l constructs.Taskgroup cs s body h p q r =
      every_ins r tt (λ r. every_part r (h (p + 1)) (λ m r. every_ins r tt every_end))

  update_e : (l : ℕ) (u : ResolvedUpdateTree) → E_ (update_row at l u)
  update_e l u p q r = by u.index r
    where
      by : (index : Option ResolvedExpressionTree)
          → updated at l u.variable index (update_of u.operator) (side_of u.side) u.operand p q → Every at.code P p q
      by None r = every_part r (value_e l u.operand p) (λ m r. every_ins r tt every_end)
      by (Some j) r = every_part r (value_e l j p) (λ m r. every_part r (value_e l u.operand m) (λ m r.
          every_ins r tt every_end))

  loop_e : (l : ℕ) (cs : List ResolvedClauseTree) (nowait : Bool) (loop : ResolvedLoopTree) (body : ℕ → Row)
      (c : Option Comparison) → ((next : ℕ) → E_ (body next)) → E_ (given c (loop_rest at l cs nowait loop body))
  loop_e l cs nowait loop body None h p q r = absurd r
  loop_e l cs nowait loop body (Some c) h p q r =
      every_part r.3 (value_e loop.at.line loop.from p) (λ m r. every_part r (value_e loop.at.line loop.to m) (λ m r.
      every_part r (starts_e l cs m) (λ m r. every_ins r tt (λ r. every_ins r.1 tt (λ r.
      every_ins r.1 tt (λ r. every_part r (h _ (m + 1 + 1 + 1)) (λ m r.
      every_ins r tt (λ r. closes_e l cs nowait (m + 1) q r.1))))))))

  load_e : (l : ℕ) (copy : FirstCopy) → E_ (load_original at l copy)
  load_e l copy p q r = every_ins r tt every_end

  -- ---- statements, whose bodies have numbers below this one

  abbrev IsBelow : ℕ → Type 0
  IsBelow n = n ≤ above

  grows : (s : ResolvedStatementTree) (n : Numbers) → n.bodies ≤ (behind n s).bodies
  grows s n = let long = regions_long f s [] n in omega (arith, long)

  all_grow : (items : ResolvedStatementsTree) (n : Numbers) → n.bodies ≤ (behind_all n items).bodies
  all_grow items n = let long = all_regions_long f items [] n in omega (arith, long)

  parts_grow : (xs : ResolvedPartsTree) (n : Numbers) → n.bodies ≤ (behind_parts n xs).bodies
  parts_grow xs n = let long = parts_regions_long f xs [] n in omega (arith, long)

  region_e : (l : ℕ) (kind : RegionKind) (cs : List ResolvedClauseTree) (captures : List Capture)
      (s : ResolvedStatementTree) (n : Numbers) (first : Span) (jumps : Jumps)
      → (behind (next_body n) s).bodies ≤ above → E_ (statement at n (Region first kind cs captures s) jumps)
  region_e l kinds.Parallel cs captures s n first jumps le p q r =
      let more = grows s (next_body n) in
      every_part r (perhaps_e (value at first.line) (clause_value cs) (value_e first.line) p) (λ m r.
      every_part r (each_e (load_original at first.line) (given_copies cs captures s) (load_e first.line) m) (λ m r.
      every_ins r (omega (arith, le, more)) every_end))
  region_e l kinds.Task cs captures s n first jumps le p q r =
      let more = grows s (next_body n) in
      every_part r (each_e (load_original at first.line) (given_copies cs captures s) (load_e first.line) p) (λ m r.
      every_ins r (omega (arith, le, more)) every_end)

  mutual
    pub statement_e : (s : ResolvedStatementTree) (n : Numbers) (jumps : Jumps) → (behind n s).bodies ≤ above
        → E_ (statement at n s jumps)
    statement_e (Declaration first ds) n jumps le p q r =
        each_e (declarator at first.line) ds (declarator_e first.line) p q r
    statement_e (Block first items) n jumps le p q r = statements_e items n jumps le p q r
    statement_e (Empty first) n jumps le p q r = every_end r
    statement_e (Expression first e) n jumps le p q r = effect_e first.line e p q r
    statement_e (If first c s) n jumps le p q r =
        every_part r.1 (value_e first.line c p) (λ m r. every_ins r tt (λ r.
        every_part r (statement_e s n jumps le (m + 1)) (λ m r. every_end r.1)))
    statement_e (IfElse first c s t) n jumps le p q r =
        let more = grows t (behind n s) in
        every_part r.2 (value_e first.line c p) (λ m r. every_ins r tt (λ r.
        every_part r (statement_e s n jumps (omega (arith, le, more)) (m + 1)) (λ m r. every_ins r tt (λ r.
        every_part r.1 (statement_e t (behind n s) jumps le (m + 1)) (λ m r. every_end r.1)))))
    statement_e (While first c s) n jumps le p q r =
        every_part r.2.1 (value_e first.line c p) (λ m r. every_ins r tt (λ r.
        every_part r (statement_e s n _ le (m + 1)) (λ m r. every_ins r tt (λ r. every_end r.1))))
    statement_e (Do first s c) n jumps le p q r =
        every_part r.3.1 (statement_e s n _ le p) (λ m r. every_part r.1 (value_e first.line c m) (λ m r.
        every_ins r tt (λ r. every_ins r tt (λ r. every_end r.1))))
    statement_e (For first begin c step s) n jumps le p q r =
        every_part r.3 (start_e first.line begin p) (λ m r.
        every_part r.1 (perhaps_e (test at first.line _) c (test_e first.line _) m) (λ m r.
        every_part r (statement_e s n _ le m) (λ m r.
        every_part r.1 (perhaps_e (effect at first.line) step (effect_e first.line) m) (λ m r.
        every_ins r tt (λ r. every_end r.1)))))
    statement_e (Return first e) n jumps le p q r = returned_e first.line at.is_main e p q r
    statement_e (Break first) n jumps le p q r = jump_e first.line jumps.over p q r
    statement_e (Continue first) n jumps le p q r = jump_e first.line jumps.next p q r
    statement_e (Region first kind cs captures s) n jumps le p q r =
        region_e first.line kind cs captures s n first jumps le p q r
    statement_e (Loop first cs nowait loop s) n jumps le p q r =
        loop_e first.line cs nowait loop (λ next. statement at n s (in_iteration next)) (comparison_of loop.comparison)
        (λ next. statement_e s n (in_iteration next) le) p q r
    statement_e (Sections first cs nowait xs) n jumps le p q r =
        every_part r.4 (starts_e first.line cs p) (λ m r. every_ins r tt (λ r.
        every_ins r.1 tt (λ r. every_ins r tt (λ r.
        every_part r (parts_e xs (next_pick n) first.line _ _ le (m + 1 + 1 + 1)) (λ m r.
        closes_e first.line cs nowait m q r.1)))))
    statement_e (Construct first kind cs s) n jumps le p q r =
        construct_e first.line kind cs s (statement at n s nowhere) (statement_e s n nowhere le) p q r
    statement_e (Update first u) n jumps le p q r = update_e first.line u p q r
    statement_e (StandAlone first directive) n jumps le p q r = alone_e first.line directive p q r

    pub statements_e : (items : ResolvedStatementsTree) (n : Numbers) (jumps : Jumps)
        → (behind_all n items).bodies ≤ above → E_ (statements at n items jumps)
    statements_e NoStatements n jumps le p q r = every_end r
    statements_e (Statement s rest) n jumps le p q r =
        let more = all_grow rest (behind n s) in
        every_part r (statement_e s n jumps (omega (arith, le, more)) p)
        (λ m r. statements_e rest (behind n s) jumps le m q r)

    parts_e : (xs : ResolvedPartsTree) (n : Numbers) (l grab : ℕ) (places : List ℕ)
        → (behind_parts n xs).bodies ≤ above → E_ (parts at n l grab xs places)
    parts_e NoParts n l grab [] le p q r = every_end r
    parts_e NoParts n l grab (place ∷ places) le p q r = absurd r
    parts_e (Part items rest) n l grab [] le p q r = absurd r
    parts_e (Part items rest) n l grab (place ∷ places) le p q r =
        let more = parts_grow rest (behind_all n items) in
        every_part r.1 (statements_e items n nowhere (omega (arith, le, more)) p) (λ m r.
        every_ins r tt (λ r. parts_e rest (behind_all n items) l grab places le (m + 1) q r))

  -- ---- bodies

  pub body_e : (t : BodyTree) (n : Numbers) → ends f t n ≤ above → E_ (body_row at n f t)
  body_e FunctionBody n le p q r =
      every_part r (statements_e f.body n nowhere le p) (λ m r. every_ins r (last_e at.is_main false) every_end)
  body_e (RegionBody first kinds.Parallel cs captures s) n le p q r =
      every_ins r tt (λ r. every_part r (reduction_starts_e first.line cs (p + 1)) (λ m r.
      every_part r (statement_e s n nowhere le m) (λ m r. every_part r (reductions_e first.line cs m) (λ m r.
      every_ins r tt (λ r. every_ins r tt every_end)))))
  body_e (RegionBody first kinds.Task cs captures s) n le p q r =
      every_part r (statement_e s n nowhere le p) (λ m r. every_ins r tt every_end)
