-- Where a row holds, its part of the tree has code.
use Rattle.std.proofs.Common.{◌≡◌, ℕ, ◌+◌, pos, Bool, true, false, List, [], ◌∷◌, Option, Some, None, refl}
use Rattle.std.specs.Prelude.{All, IfSome, IsSome, is_some}
use Rattle.std.proofs.lemmas.List.Elements.{All-nil, All-cons}
use Rattle.om_code.specs.declared.instruction.AtomicOperator.{AtomicOperator}
use Rattle.om_code.specs.declared.instruction.BinaryOperator as machine
use Rattle.om_code.specs.declared.instruction.Comparison.{Comparison}
use Rattle.om_code.specs.declared.instruction.Instr.TheVariants as i
use Rattle.om_code.specs.declared.instruction.Serial.TheVariants as serials
use Rattle.om_code.specs.declared.instruction.Side.{Side}
use Rattle.om_scope_tree.specs.declared.resolved.ConstructKind.TheVariants as constructs
use Rattle.om_scope_tree.specs.declared.resolved.LocalVariable.{LocalVariable}
use Rattle.om_scope_tree.specs.declared.resolved.RegionKind.TheVariants as kinds
use Rattle.om_scope_tree.specs.declared.resolved.UnaryOperator.{UnaryOperator}
use Rattle.om_scope_tree.specs.declared.resolved.UnaryOperator.TheVariants as unaries
use Rattle.om_scope_tree.specs.declared.resolved.Variable as variables
use Rattle.om_scope_tree.specs.ResolvedTree.{ResolvedExpressionTree, Constant, Variable, Element, Call, ThreadNumber}
use Rattle.om_scope_tree.specs.ResolvedTree.{TeamSize, Print, Unary, Binary, Conditional, Assign, AssignElement, Postfix}
use Rattle.om_scope_tree.specs.ResolvedTree.{PostfixElement, ValuesTree, NoValues, Value, ResolvedDeclaratorTree}
use Rattle.om_scope_tree.specs.ResolvedTree.{ResolvedClauseTree, ResolvedLoopTree, ResolvedStartTree, StartNothing}
use Rattle.om_scope_tree.specs.ResolvedTree.{StartExpression, StartDeclaration, ResolvedStatementTree, Declaration, Block}
use Rattle.om_scope_tree.specs.ResolvedTree.{Empty, Expression, If, IfElse, While, Do, For, Return, Break, Continue}
use Rattle.om_scope_tree.specs.ResolvedTree.{Region, Loop, Sections, Construct, Update, StandAlone}
use Rattle.om_scope_tree.specs.ResolvedTree.{ResolvedStatementsTree, NoStatements, Statement, ResolvedPartsTree, NoParts}
use Rattle.om_scope_tree.specs.ResolvedTree.{Part, ResolvedFunctionTree}
use Rattle.om_lower_rules.specs.Bodies.{Numbers, next_pick, behind, behind_all, BodyTree, FunctionBody, RegionBody}
use Rattle.om_lower_rules.specs.Code.{body_row}
use Rattle.om_lower_rules.specs.Coded.{ValueIsCoded, ValuesAreCoded, EffectIsCoded, DeclaratorIsCoded, StartIsCoded}
use Rattle.om_lower_rules.specs.Coded.{AssignmentIsCoded, StatementIsCoded, StatementsAreCoded, PartsAreCoded, BodyIsCoded}
use Rattle.om_lower_rules.specs.Expressions.{constant, unary_row, binary_row, assigned, element_assigned, value, values}
use Rattle.om_lower_rules.specs.Expressions.{effect}
use Rattle.om_lower_rules.specs.Operators.{BinaryForm, Both, Either, Plain, form_of, compound_of, step_of, comparison_of}
use Rattle.om_lower_rules.specs.Rows.{Site, Row, ins, part, here, ◌▸◌, given, perhaps, each}
use Rattle.om_lower_rules.specs.Statements.{Jumps, nowhere, in_loop, in_iteration, jump, declared, declarator, start, test}
use Rattle.om_lower_rules.specs.Statements.{returned, clause_value, filter_row, updated, assignment_row, loop_rest, with_place}
use Rattle.om_lower_rules.specs.Statements.{statement, statements, parts}

module _ (at : Site) where
  -- where this row holds, this is so
  abbrev Says : Row → Type 0 → Type 0
  Says r A = (p q : ℕ) → r p q → A

  unary_says : (l : ℕ) (o : UnaryOperator) (a : Row) (A : Type 0) → Says a A → Says (unary_row at l o a) A
  unary_says l unaries.Plus a A h p q r = h p q r
  unary_says l unaries.Negate a A h p q r = h p r.0 r.1
  unary_says l unaries.Not a A h p q r = h p r.0 r.1

  binary_says : (l : ℕ) (form : BinaryForm) (a b : Row) (A B : Type 0) → Says a A → Says b B
      → Says (binary_row at l form a b) (A × B)
  binary_says l Both a b A B h g p q r = let u = r.2.2.1 in (h p r.2.0 r.2.1, g (r.2.0 + 1) u.0 u.1)
  binary_says l Either a b A B h g p q r = let u = r.3.2.1.1.1.1 in (h p r.3.0 r.3.1, g (r.3.0 + 1 + 1 + 1) u.0 u.1)
  binary_says l (Plain o) a b A B h g p q r = (h p r.0 r.1, g r.0 r.2.0 r.2.1)

  assigned_says : (l : ℕ) (keeps : Bool) (x : variables.Variable) (o : Option machine.BinaryOperator) (e : Row)
      (E : Type 0) → Says e E
      → Says (assigned at l keeps x o e) E
  assigned_says l keeps x None e E h p q r = h p r.0 r.1
  assigned_says l keeps x (Some o) e E h p q r = h (p + 1) r.1.0 r.1.1

  element_assigned_says : (l : ℕ) (keeps : Bool) (a : variables.Variable) (j : Row)
      (o : Option machine.BinaryOperator) (e : Row) (J E : Type 0)
      → Says j J → Says e E → Says (element_assigned at l keeps a j o e) (J × E)
  element_assigned_says l keeps a j None e J E g h p q r = (g p r.0 r.1, h r.0 r.2.0 r.2.1)
  element_assigned_says l keeps a j (Some o) e J E g h p q r = let u = r.2.1.1 in (g p r.0 r.1, h (r.0 + 1 + 1) u.0 u.1)

  mutual
    pub value_says : (l : ℕ) (e : ResolvedExpressionTree) → Says (value at l e) (ValueIsCoded false e)
    value_says l (Constant n) p q r = tt
    value_says l (Variable x) p q r = tt
    value_says l (Element a j) p q r = value_says l j p r.0 r.1
    value_says l (Call f es) p q r = (tt, values_say l es p r.1.0 r.1.1)
    value_says l ThreadNumber p q r = tt
    value_says l TeamSize p q r = tt
    value_says l (Print format es) p q r = absurd r
    value_says l (Unary o e) p q r = unary_says l o (value at l e) (ValueIsCoded false e) (value_says l e) p q r
    value_says l (Binary a o b) p q r =
        binary_says l (form_of o) (value at l a) (value at l b) (ValueIsCoded false a) (ValueIsCoded false b)
        (value_says l a)
        (value_says l b) p q r
    value_says l (Conditional c a b) p q r =
        let u = r.2.2.1 in let v = u.2.1.1 in
        (value_says l c p r.2.0 r.2.1, value_says l a (r.2.0 + 1) u.0 u.1, value_says l b (u.0 + 1) v.0 v.1)
    value_says l (Assign x o e) p q r = assigned_says l true x (compound_of o) (value at l e) (ValueIsCoded false e)
        (value_says l e) p q r
    value_says l (AssignElement a j o e) p q r =
        element_assigned_says l true a (value at l j) (compound_of o) (value at l e) (ValueIsCoded false j)
        (ValueIsCoded false e) (value_says l j) (value_says l e) p q r
    value_says l (Postfix x o) p q r = tt
    value_says l (PostfixElement a j o) p q r =
        (element_assigned_says l true a (value at l j) (Some (step_of o)) (constant at l (pos 1)) (ValueIsCoded false j)
        (Unit {0})
        (value_says l j) (λ p q r. tt) p r.0 r.1).0

    pub values_say : (l : ℕ) (es : ValuesTree) → Says (values at l es) (ValuesAreCoded false es)
    values_say l NoValues p q r = tt
    values_say l (Value e rest) p q r = (value_says l e p r.0 r.1, values_say l rest r.0 q r.2)

  pub effect_says : (l : ℕ) (e : ResolvedExpressionTree) → Says (effect at l e) (EffectIsCoded false e)
  effect_says l (Assign x o e) p q r = assigned_says l false x (compound_of o) (value at l e) (ValueIsCoded false e)
      (value_says l e) p q r
  effect_says l (AssignElement a j o e) p q r =
      element_assigned_says l false a (value at l j) (compound_of o) (value at l e) (ValueIsCoded false j)
      (ValueIsCoded false e) (value_says l j) (value_says l e) p q r
  effect_says l (Postfix x o) p q r = tt
  effect_says l (PostfixElement a j o) p q r =
      (element_assigned_says l false a (value at l j) (Some (step_of o)) (constant at l (pos 1)) (ValueIsCoded false j)
      (Unit {0})
      (value_says l j) (λ p q r. tt) p q r).0
  effect_says l (Print format es) p q r = (tt, values_say l es p r.0 r.1)
  effect_says l (Call f es) p q r = (tt, values_say l es p r.1.0 r.1.1)
  effect_says l (Constant n) p q r = tt
  effect_says l (Variable x) p q r = tt
  effect_says l (Element a j) p q r = value_says l (Element a j) p r.0 r.1
  effect_says l ThreadNumber p q r = tt
  effect_says l TeamSize p q r = tt
  effect_says l (Unary o e) p q r = value_says l (Unary o e) p r.0 r.1
  effect_says l (Binary a o b) p q r = value_says l (Binary a o b) p r.0 r.1
  effect_says l (Conditional c a b) p q r = value_says l (Conditional c a b) p r.0 r.1

  -- ---- heads

  perhaps_says : {A : Type 0} (row : A → Row) (P : A → Type 0) (x : Option A) → ((y : A) → Says (row y) (P y))
      → Says (perhaps row x) (IfSome x P)
  perhaps_says row P None f p q r = tt
  perhaps_says row P (Some y) f p q r = f y p q r

  each_says : {A : Type 0} (row : A → Row) (P : A → Type 0) (xs : List A) → ((y : A) → Says (row y) (P y))
      → Says (each row xs) (All P xs)
  each_says row P [] f p q r = All-nil P
  each_says row P (x ∷ xs) f p q r = All-cons P x xs (f x p r.0 r.1) (each_says row P xs f r.0 q r.2)

  declarator_says : (l : ℕ) (x : LocalVariable) (e : Option ResolvedExpressionTree) → Says (declared at l x e)
      (IfSome e (ValueIsCoded false))
  declarator_says l x None p q r = tt
  declarator_says l x (Some e) p q r = value_says l e p r.0 r.1

  declarators_say : (l : ℕ) (ds : List ResolvedDeclaratorTree) → Says (each (declarator at l) ds)
      (All (DeclaratorIsCoded false) ds)
  declarators_say l ds = each_says (declarator at l) (DeclaratorIsCoded false) ds
      (λ d. declarator_says l d.variable d.initial)

  start_says : (l : ℕ) (s : ResolvedStartTree) → Says (start at l s) (StartIsCoded false s)
  start_says l StartNothing p q r = tt
  start_says l (StartExpression e) p q r = effect_says l e p q r
  start_says l (StartDeclaration ds) p q r = declarators_say l ds p q r

  returned_says : (l : ℕ) (is_main : Bool) (e : Option ResolvedExpressionTree) → Says (returned at l is_main e)
      (IfSome e (ValueIsCoded false))
  returned_says l is_main None p q r = tt
  returned_says l true (Some e) p q r = value_says l e p r.0 r.1
  returned_says l false (Some e) p q r = value_says l e p r.0 r.1

  jump_says : (l : ℕ) (to : Option ℕ) → Says (given to (jump at l)) (is_some to ≡ true)
  jump_says l None p q r = absurd r
  jump_says l (Some to) p q r = refl

  filter_says : (l : ℕ) (e : Option ResolvedExpressionTree) → Says (filter_row at l e) (IfSome e (ValueIsCoded false))
  filter_says l None p q r = tt
  filter_says l (Some e) p q r = value_says l e p q r

  updated_says : (l : ℕ) (x : variables.Variable) (j : Option ResolvedExpressionTree) (o : AtomicOperator)
      (side : Side) (e : ResolvedExpressionTree)
      → Says (updated at l x j o side e) (IfSome j (ValueIsCoded false) × ValueIsCoded false e)
  updated_says l x None o side e p q r = (tt, value_says l e p r.0 r.1)
  updated_says l x (Some j) o side e p q r = (value_says l j p r.0 r.1, value_says l e r.0 r.2.0 r.2.1)

  assignment_says : (l : ℕ) (s : ResolvedStatementTree) → Says (assignment_row at l s) (AssignmentIsCoded false s)
  assignment_says l (Expression first e) p q r = effect_says l e p q r
  assignment_says l _ p q r = absurd r

  loop_says : (l : ℕ) (clauses : List ResolvedClauseTree) (nowait : Bool) (loop : ResolvedLoopTree) (body : ℕ → Row)
      (B : Type 0) (comparison : Option Comparison)
      → ((next : ℕ) → Says (body next) B)
      → Says (given comparison (loop_rest at l clauses nowait loop body))
      ((IsSome comparison × ValueIsCoded false loop.from × ValueIsCoded false loop.to) × B)
  loop_says l clauses nowait loop body B None h p q r = absurd r
  loop_says l clauses nowait loop body B (Some comparison) h p q r =
      let a = r.3.2 in let b = a.2.2.1.1.1.1.1 in (
        (refl, value_says loop.at.line loop.from p r.3.0 r.3.1, value_says loop.at.line loop.to r.3.0 a.0 a.1),
        h r.1 _ b.0 b.1,
      )

  -- ---- statements

  with_place_says : (places : List ℕ) (row : ℕ → List ℕ → Row) (A : Type 0)
      → ((x : ℕ) (xs : List ℕ) → Says (row x xs) A) → Says (with_place places row) A
  with_place_says [] row A f p q r = absurd r
  with_place_says (x ∷ xs) row A f p q r = f x xs p q r

  mutual
    pub statement_says : (s : ResolvedStatementTree) (n : Numbers) (j : Jumps) → Says (statement at n s j)
        (StatementIsCoded false (is_some j.over) (is_some j.next) s)
    statement_says (Declaration first ds) n j p q r = declarators_say first.line ds p q r
    statement_says (Block first items) n j p q r = statements_say items n j p q r
    statement_says (Empty first) n j p q r = tt
    statement_says (Expression first e) n j p q r = effect_says first.line e p q r
    statement_says (If first c s) n j p q r =
        let u = r.1.2.1 in (value_says first.line c p r.1.0 r.1.1, statement_says s n j (r.1.0 + 1) u.0 u.1)
    statement_says (IfElse first c s t) n j p q r =
        let u = r.2.2.1 in let v = u.2.1.1 in (
          value_says first.line c p r.2.0 r.2.1,
          statement_says s n j (r.2.0 + 1) u.0 u.1,
          statement_says t
              (behind n s) j (u.0 + 1) v.0 v.1,
        )
    statement_says (While first c s) n j p q r =
        let a = r.2.1 in let u = a.2.1 in (
          value_says first.line c p a.0 a.1,
          statement_says s n (in_loop r.1 r.0)
              (a.0 + 1) u.0 u.1,
        )
    statement_says (Do first s c) n j p q r =
        let a = r.3.1 in let u = a.2.1 in (
          statement_says s n (in_loop r.2 r.1) p a.0 a.1,
          value_says first.line c
              a.0 u.0 u.1,
        )
    statement_says (For first begin c step s) n j p q r =
        let a = r.3 in let b = a.2.1 in let u = b.2 in let v = u.2.1 in (
          start_says first.line begin p a.0 a.1,
          perhaps_says (test at first.line r.2) (ValueIsCoded false) c
              (λ e p q r. value_says first.line e p r.0 r.1) a.0
              b.0 b.1,
          perhaps_says (effect at first.line) (EffectIsCoded false) step (effect_says first.line) u.0 v.0 v.1,
          statement_says s n (in_loop r.2 r.1) b.0 u.0 u.1,
        )
    statement_says (Return first e) n j p q r = returned_says first.line at.is_main e p q r
    statement_says (Break first) n j p q r = jump_says first.line j.over p q r
    statement_says (Continue first) n j p q r = jump_says first.line j.next p q r
    statement_says (Region first kinds.Parallel clauses captures s) n j p q r =
        perhaps_says (value at first.line) (ValueIsCoded false) (clause_value clauses) (value_says first.line) p r.0 r.1
    statement_says (Region first kinds.Task clauses captures s) n j p q r = tt
    statement_says (Loop first clauses nowait loop s) n j p q r =
        loop_says first.line clauses nowait loop (λ next. statement at n s (in_iteration next))
        (StatementIsCoded false false true s) (comparison_of loop.comparison)
        (λ next. statement_says s n (in_iteration next)) p q r
    statement_says (Sections first clauses nowait sections) n j p q r =
        let u = r.4.2.1.1.1.1 in (tt, parts_say sections (next_pick n) first.line r.1 r.0 _ u.0 u.1)
    statement_says (Construct first (constructs.Single nowait) clauses s) n j p q r =
        let u = r.1.1.2 in statement_says s n nowhere r.1.1.0 u.0 u.1
    statement_says (Construct first constructs.Masked clauses s) n j p q r =
        let u = r.1.2.1 in (
          filter_says first.line (clause_value clauses) p r.1.0 r.1.1,
          statement_says s n nowhere
              (r.1.0 + 1) u.0 u.1,
        )
    statement_says (Construct first (constructs.Critical name) clauses s) n j p q r = let u = r.1.1 in
        statement_says s n nowhere (p + 1 + 1) u.0 u.1
    statement_says (Construct first (constructs.Atomic access) clauses s) n j p q r = assignment_says first.line s p q r
    statement_says (Construct first constructs.Taskgroup clauses s) n j p q r = let u = r.1 in statement_says s n
        nowhere (p + 1) u.0 u.1
    statement_says (Update first u) n j p q r = updated_says first.line u.variable u.index _ _ u.operand p q r
    statement_says (StandAlone first directive) n j p q r = tt

    pub statements_say : (items : ResolvedStatementsTree) (n : Numbers) (j : Jumps) → Says (statements at n items j)
        (StatementsAreCoded false (is_some j.over) (is_some j.next) items)
    statements_say NoStatements n j p q r = tt
    statements_say (Statement s rest) n j p q r = (
      statement_says s n j p r.0 r.1,
      statements_say rest (behind n s)
          j r.0 q r.2,
    )

    parts_say : (sections : ResolvedPartsTree) (n : Numbers) (l grab : ℕ) (places : List ℕ)
        → Says (parts at n l grab sections places) (PartsAreCoded false sections)
    parts_say NoParts n l grab places p q r = tt
    parts_say (Part items rest) n l grab places p q r =
        with_place_says places
        (λ x xs. here x ▸ part (statements at n items nowhere) ▸ ins at l (i.Serial (serials.Jump grab)) ▸ parts at
        (behind_all n items) l grab rest xs)
        (StatementsAreCoded false false false items × PartsAreCoded false rest)
        (λ x xs p q r. let u = r.1 in (
          statements_say items n nowhere p u.0 u.1,
          parts_say rest (behind_all n items)
              l grab xs (u.0 + 1) q u.2.1,
        ))
        p q r

  pub body_says : (n : Numbers) (f : ResolvedFunctionTree) (tree : BodyTree) → Says (body_row at n f tree)
      (BodyIsCoded false f tree)
  body_says n f FunctionBody p q r = statements_say f.body n nowhere p r.0 r.1
  body_says n f (RegionBody first kinds.Parallel clauses captures s) p q r = let u = r.1.2 in statement_says s n nowhere r.1.0
      u.0 u.1
  body_says n f (RegionBody first kinds.Task clauses captures s) p q r = statement_says s n nowhere p r.0 r.1
