-- The operand heights of a statement's code: it leaves as many operands as it finds.
use Rattle.std.proofs.Common.{ℕ, ◌+◌, Bool, true, false, List, [], ◌∷◌, length, Option, Some, None, refl, arith}
use Rattle.om_code.specs.declared.instruction.AtomicOperator.{AtomicOperator}
use Rattle.om_code.specs.declared.instruction.Barrier.{Barrier}
use Rattle.om_code.specs.declared.instruction.Comparison.{Comparison}
use Rattle.om_code.specs.declared.instruction.Side.{Side}
use Rattle.om_scope_tree.specs.declared.resolved.CopyKind.{CopyKind}
use Rattle.om_scope_tree.specs.declared.resolved.CopyKind.TheVariants as copies
use Rattle.om_scope_tree.specs.declared.resolved.LocalVariable.{LocalVariable}
use Rattle.om_scope_tree.specs.declared.resolved.StandAlone as alone
use Rattle.om_scope_tree.specs.declared.resolved.StandAlone.TheVariants as alones
use Rattle.om_scope_tree.specs.declared.resolved.Variable as variables
use Rattle.om_scope_tree.specs.ResolvedTree.{ResolvedExpressionTree, ResolvedDeclaratorTree, ResolvedClauseTree}
use Rattle.om_scope_tree.specs.ResolvedTree.{ClauseValue, Shared, Copied, ResolvedLoopTree, ResolvedUpdateTree}
use Rattle.om_scope_tree.specs.ResolvedTree.{ResolvedStartTree, StartNothing, StartExpression, StartDeclaration}
use Rattle.om_scope_tree.specs.ResolvedTree.{ResolvedStatementTree, Expression}
use Rattle.om_lower_rules.specs.Expressions.{value, effect}
use Rattle.om_lower_rules.specs.Operators.{side_of, update_of}
use Rattle.om_lower_rules.specs.Rows.{Site, Row, given, perhaps, each}
use Rattle.om_lower_rules.specs.Slots.{FirstCopy}
use Rattle.om_lower_rules.specs.Statements.{jump, declared, declarator, start, test, returned, copy_start, clause_start}
use Rattle.om_lower_rules.specs.Statements.{starts, reduction_start, clause_reduction_start, reduction_starts, combine_copy}
use Rattle.om_lower_rules.specs.Statements.{combine_clause, reductions, clause_value, load_original, barrier, worksharing_end}
use Rattle.om_lower_rules.specs.Statements.{alone_row, filter_row, single_row, masked_row, critical_row, updated, update_row}
use Rattle.om_lower_rules.specs.Statements.{assignment_row, group_row, loop_rest, parallel_row, task_row}
use Rattle.om_lower_rules.proofs.Levels.{Levels, IsAt, nothing, level_end, level_out, level_next, level_either, level_jump}
use Rattle.om_lower_rules.proofs.Levels.{level_stop, level_within, level_free, level_part, level_here, level_closed}
use Rattle.om_lower_rules.proofs.ExpressionLevels as expressions

module _ (at : Site) where
  -- a row that leaves as many operands as it finds, where labels have the heights that it needs at this
  -- height; it gives those of its own
  abbrev pub Steady : (ℕ → List ℕ → Type 0) → (ℕ → List ℕ → Type 0) → Row → Type 0
  Steady needs gives r = (h p q : ℕ) → r p q → Levels at.picks at.code (needs h) (gives h) p q h h

  abbrev pub none : ℕ → List ℕ → Type 0
  none h = nothing

  abbrev pub Keeps : Row → Type 0
  Keeps r = Steady none none r

  abbrev pub values : (l : ℕ) (e : ResolvedExpressionTree) → expressions.Gives at (value at l e)
  values l e = expressions.value_levels at l e

  abbrev pub effects : (l : ℕ) (e : ResolvedExpressionTree) → Keeps (effect at l e)
  effects l e = expressions.effect_levels at l e

  -- a label has this height
  abbrev pub Label : ℕ → ℕ → List ℕ → Type 0
  Label f h hs = IsAt hs f h

  pub each_levels : {A : Type 0} (row : A → Row) (xs : List A) → ((x : A) → Keeps (row x)) → Keeps (each row xs)
  each_levels row [] f h p q r = level_end r
  each_levels row (x ∷ xs) f h p q r = level_part r (f x h p) (λ m r. each_levels row xs f h m q r)

  pub perhaps_levels : {A : Type 0} {N : ℕ → List ℕ → Type 0} (row : A → Row) (x : Option A)
      → ((y : A) → Steady N none (row y)) → Steady N none (perhaps row x)
  perhaps_levels row None f h p q r = level_end r
  perhaps_levels row (Some x) f h p q r = f x h p q r

  pub given_levels : {A : Type 0} {N G : ℕ → List ℕ → Type 0} (row : A → Row) (x : Option A)
      → ((y : A) → Steady N G (row y)) → Steady N G (given x row)
  given_levels row None f h p q r = absurd r
  given_levels row (Some x) f h p q r = f x h p q r

  -- ---- heads, clauses and ends

  pub declared_levels : (l : ℕ) (x : LocalVariable) (e : Option ResolvedExpressionTree) → Keeps (declared at l x e)
  declared_levels l x None h p q r = level_next h r refl (omega arith) (omega arith) level_end
  declared_levels l x (Some e) h p q r = level_part r (values l e h p) (λ m r. level_next h r refl (omega arith)
      (omega arith) level_end)

  pub declarators_levels : (l : ℕ) (ds : List ResolvedDeclaratorTree) → Keeps (each (declarator at l) ds)
  declarators_levels l ds = each_levels (declarator at l) ds (λ d. declared_levels l d.variable d.initial)

  pub start_levels : (l : ℕ) (s : ResolvedStartTree) → Keeps (start at l s)
  start_levels l StartNothing h p q r = level_end r
  start_levels l (StartExpression e) h p q r = effects l e h p q r
  start_levels l (StartDeclaration ds) h p q r = declarators_levels l ds h p q r

  pub test_levels : (l f : ℕ) (e : ResolvedExpressionTree) → Steady (Label f) none (test at l f e)
  test_levels l f e h p q r = level_part r (values l e h p) (λ m r. level_either {next = h} h r refl (omega arith)
      (omega arith) (λ hs n. n) level_end)

  pub returned_levels : (l : ℕ) (is_main : Bool) (e : Option ResolvedExpressionTree) → Keeps (returned at l is_main e)
  returned_levels l true None h p q r = level_stop {next = h} h r refl (omega arith) level_end
  returned_levels l true (Some e) h p q r = level_part r (values l e h p) (λ m r. level_stop {next = h} h r refl
      (omega arith) level_end)
  returned_levels l false None h p q r = level_stop {next = h} h r refl (omega arith) level_end
  returned_levels l false (Some e) h p q r = level_part r (values l e h p) (λ m r. level_stop {next = h} h r refl
      (omega arith) level_end)

  -- where a jump goes is this height, if it goes anywhere
  abbrev pub Goal : Option ℕ → ℕ → List ℕ → Type 0
  Goal None h hs = Unit {0}
  Goal (Some f) h hs = IsAt hs f h

  pub jump_levels : (l : ℕ) (to : Option ℕ) → Steady (Goal to) none (given to (jump at l))
  jump_levels l None h p q r = absurd r
  jump_levels l (Some f) h p q r = level_jump {next = h} r refl (omega arith) (omega arith) (λ hs n. n) level_end

  pub copy_start_levels : (l : ℕ) (kind : CopyKind) (x : variables.Variable) (copy : LocalVariable)
      → Keeps (copy_start at l kind x copy)
  copy_start_levels l copies.Private x copy h p q r = level_next h r refl (omega arith) (omega arith) level_end
  copy_start_levels l copies.Firstprivate x copy h p q r =
      level_next {next = h + 1} h r refl (omega arith) (omega arith) (λ r. level_next h r refl (omega arith)
      (omega arith) level_end)
  copy_start_levels l (copies.Reduction o) x copy h p q r =
      level_next {next = h + 1} h r refl (omega arith) (omega arith) (λ r. level_next h r refl (omega arith)
      (omega arith) level_end)

  pub clause_start_levels : (l : ℕ) (clause : ResolvedClauseTree) → Keeps (clause_start at l clause)
  clause_start_levels l (ClauseValue kind e) h p q r = level_end r
  clause_start_levels l (Shared x) h p q r = level_end r
  clause_start_levels l (Copied kind x copy) h p q r = copy_start_levels l kind x copy h p q r

  pub starts_levels : (l : ℕ) (clauses : List ResolvedClauseTree) → Keeps (starts at l clauses)
  starts_levels l clauses = each_levels (clause_start at l) clauses (clause_start_levels l)

  pub reduction_start_levels : (l : ℕ) (kind : CopyKind) (x : variables.Variable) (copy : LocalVariable)
      → Keeps (reduction_start at l kind x copy)
  reduction_start_levels l copies.Private x copy h p q r = level_end r
  reduction_start_levels l copies.Firstprivate x copy h p q r = level_end r
  reduction_start_levels l (copies.Reduction o) x copy h p q r = copy_start_levels l (copies.Reduction o) x copy h p q r

  pub clause_reduction_start_levels : (l : ℕ) (clause : ResolvedClauseTree) → Keeps (clause_reduction_start at l clause)
  clause_reduction_start_levels l (ClauseValue kind e) h p q r = level_end r
  clause_reduction_start_levels l (Shared x) h p q r = level_end r
  clause_reduction_start_levels l (Copied kind x copy) h p q r = reduction_start_levels l kind x copy h p q r

  pub reduction_starts_levels : (l : ℕ) (clauses : List ResolvedClauseTree) → Keeps (reduction_starts at l clauses)
  reduction_starts_levels l clauses = each_levels (clause_reduction_start at l) clauses
      (clause_reduction_start_levels l)

  pub combine_copy_levels : (l : ℕ) (kind : CopyKind) (x : variables.Variable) (copy : LocalVariable)
      → Keeps (combine_copy at l kind x copy)
  combine_copy_levels l copies.Private x copy h p q r = level_end r
  combine_copy_levels l copies.Firstprivate x copy h p q r = level_end r
  combine_copy_levels l (copies.Reduction o) x copy h p q r = level_next h r refl (omega arith) (omega arith) level_end

  pub combine_clause_levels : (l : ℕ) (clause : ResolvedClauseTree) → Keeps (combine_clause at l clause)
  combine_clause_levels l (ClauseValue kind e) h p q r = level_end r
  combine_clause_levels l (Shared x) h p q r = level_end r
  combine_clause_levels l (Copied kind x copy) h p q r = combine_copy_levels l kind x copy h p q r

  pub reductions_levels : (l : ℕ) (clauses : List ResolvedClauseTree) → Keeps (reductions at l clauses)
  reductions_levels l clauses = each_levels (combine_clause at l) clauses (combine_clause_levels l)

  -- loads leave one operand each
  pub loads_levels : (l : ℕ) (xs : List FirstCopy) (h p q : ℕ) → each (load_original at l) xs p q → Levels at.picks
      at.code nothing nothing p q h (h + length xs)
  loads_levels l [] h p q r = level_out h (omega arith) (level_end r)
  loads_levels l (x ∷ xs) h p q r =
      level_out (h + 1 + length xs) (omega arith)
      (level_part {mid = h + 1} r (λ m r. level_next h r refl (omega arith) (omega arith) level_end)
      (λ m r. loads_levels l xs (h + 1) m q r))

  pub barrier_levels : (l : ℕ) (kind : Barrier) → Keeps (barrier at l kind)
  barrier_levels l kind h p q r =
      level_next {next = h} h r refl (omega arith) (omega arith) (λ r. level_next h r refl (omega arith)
      (omega arith) level_end)

  pub end_levels : (l : ℕ) (nowait : Bool) → Keeps (worksharing_end at l nowait)
  end_levels l true h p q r = level_next {next = h} h r refl (omega arith) (omega arith) level_end
  end_levels l false h p q r =
      level_next {next = h} h r refl (omega arith) (omega arith) (λ r.
      level_next {next = h} h r refl (omega arith) (omega arith) (λ r. level_next h r refl (omega arith)
      (omega arith) level_end))

  pub alone_levels : (l : ℕ) (directive : alone.StandAlone) → Keeps (alone_row at l directive)
  alone_levels l alones.Barrier h p q r =
      level_next {next = h} h r refl (omega arith) (omega arith) (λ r. level_next h r refl (omega arith)
      (omega arith) level_end)
  alone_levels l alones.Taskwait h p q r =
      level_next {next = h} h r refl (omega arith) (omega arith) (λ r. level_next h r refl (omega arith)
      (omega arith) level_end)
  alone_levels l alones.Taskyield h p q r = level_next h r refl (omega arith) (omega arith) level_end
  alone_levels l (alones.Flush vs) h p q r = level_next h r refl (omega arith) (omega arith) level_end

  pub filter_levels : (l : ℕ) (e : Option ResolvedExpressionTree) → expressions.Gives at (filter_row at l e)
  filter_levels l None h p q r = level_next h r refl (omega arith) (omega arith) level_end
  filter_levels l (Some e) h p q r = values l e h p q r

  pub updated_levels : (l : ℕ) (x : variables.Variable) (j : Option ResolvedExpressionTree) (o : AtomicOperator)
      (side : Side) (e : ResolvedExpressionTree)
      → Keeps (updated at l x j o side e)
  updated_levels l x None o side e h p q r = level_part r (values l e h p) (λ m r. level_next h r refl (omega arith)
      (omega arith) level_end)
  updated_levels l x (Some j) o side e h p q r =
      level_part r (values l j h p) (λ m r. level_part r (values l e (h + 1) m)
      (λ m r. level_next h r refl (omega arith) (omega arith) level_end))

  pub update_levels : (l : ℕ) (u : ResolvedUpdateTree) → Keeps (update_row at l u)
  update_levels l u = updated_levels l u.variable u.index (update_of u.operator) (side_of u.side) u.operand

  pub assignment_levels : (l : ℕ) (s : ResolvedStatementTree) → Keeps (assignment_row at l s)
  assignment_levels l (Expression first e) h p q r = effects l e h p q r
  assignment_levels l _ h p q r = absurd r

  -- ---- constructs

  pub single_levels : (l : ℕ) (nowait : Bool) (clauses : List ResolvedClauseTree) (body : Row) → Keeps body
      → Keeps (single_row at l nowait clauses body)
  single_levels l nowait clauses body f h p q r =
      level_closed {L = λ hs. IsAt hs r.0 h}
      (level_either {next = h} h r.1 refl (omega arith) (omega arith) (λ hs n. n.1) (λ u.
      level_part u (starts_levels l clauses h (p + 1)) (λ m u.
      level_part u (f h m) (λ m u.
      level_here u (λ u. level_free (end_levels l nowait h m q u))))))
      (λ hs g. g.0) (λ hs g. tt)

  pub masked_levels : (l : ℕ) (clauses : List ResolvedClauseTree) (body : Row) → Keeps body
      → Keeps (masked_row at l clauses body)
  masked_levels l clauses body f h p q r =
      level_closed {L = λ hs. IsAt hs r.0 h}
      (level_part r.1 (filter_levels l (clause_value clauses) h p) (λ m u.
      level_either {next = h} h u refl (omega arith) (omega arith) (λ hs n. n.1) (λ u.
      level_part u (f h (m + 1)) (λ m u.
      level_next {next = h} h u refl (omega arith) (omega arith) (λ u. level_here u level_end)))))
      (λ hs g. g.0) (λ hs g. tt)

  pub critical_levels : (l : ℕ) (name : Option (List ℕ)) (body : Row) → Keeps body → Keeps (critical_row at l name body)
  critical_levels l name body f h p q r =
      level_next {next = h} h r refl (omega arith) (omega arith) (λ r.
      level_next {next = h} h r refl (omega arith) (omega arith) (λ r.
      level_part r (f h (p + 1 + 1)) (λ m r. level_next h r refl (omega arith) (omega arith) level_end)))

  pub group_levels : (l : ℕ) (body : Row) → Keeps body → Keeps (group_row at l body)
  group_levels l body f h p q r =
      level_next {next = h} h r refl (omega arith) (omega arith) (λ r.
      level_part r (f h (p + 1)) (λ m r. level_next h r refl (omega arith) (omega arith) level_end))

  pub loop_levels : (l : ℕ) (clauses : List ResolvedClauseTree) (nowait : Bool) (loop : ResolvedLoopTree)
      (body : ℕ → Row) (comparison : Comparison)
      → ((next : ℕ) → Steady (Label next) none (body next)) → Keeps (loop_rest at l clauses nowait loop body comparison)
  loop_levels l clauses nowait loop body comparison f h p q r =
      level_closed {L = λ hs. IsAt hs r.0 h × IsAt hs r.1 h × IsAt hs r.2 h}
      (level_part r.3 (values loop.at.line loop.from h p) (λ m u.
      level_part u (values loop.at.line loop.to (h + 1) m) (λ m u.
      level_part u (starts_levels l clauses (h + 1 + 1) m) (λ m u.
      level_next {next = h} h u refl (omega arith) (omega arith) (λ u.
      level_here u (λ u.
      level_either {next = h} h u refl (omega arith) (omega arith) (λ hs n. n.1.2) (λ u.
      level_here u (λ u.
      level_either {next = h} h u refl (omega arith) (omega arith) (λ hs n. n.1.0) (λ u.
      level_within u (λ hs n. n.1.1) (f r.1 h (m + 1 + 1 + 1)) (λ m u.
      level_jump {next = h} u refl (omega arith) (omega arith) (λ hs n. n.1.1) (λ u.
      level_here u (λ u.
      level_part u (reductions_levels l clauses h (m + 1)) (λ m u.
      level_free (end_levels l nowait h m q u))))))))))))))
      (λ hs g. (g.0, g.1.0, g.1.1.1.0)) (λ hs g. tt)

  -- ---- regions

  pub parallel_levels : (l body : ℕ) (size : Option ResolvedExpressionTree) (xs : List FirstCopy)
      → Keeps (parallel_row at l body size xs)
  parallel_levels l body None xs h p q r =
      level_part r (λ m r. level_end r) (λ m r.
      level_part r (loads_levels l xs h m) (λ m r. level_next h r refl refl (omega arith) level_end))
  parallel_levels l body (Some e) xs h p q r =
      level_part r (values l e h p) (λ m r.
      level_part r (loads_levels l xs (h + 1) m) (λ m r. level_next h r refl (omega arith) (omega arith) level_end))

  pub task_levels : (l body : ℕ) (xs : List FirstCopy) → Keeps (task_row at l body xs)
  task_levels l body xs h p q r = level_part r (loads_levels l xs h p)
      (λ m r. level_next h r refl refl (omega arith) level_end)
