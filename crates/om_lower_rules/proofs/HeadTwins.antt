-- Two codes of the heads, clauses and ends of one statement, and of a construct round one part.
use Rattle.std.proofs.Common.{◌≡◌, ℕ, ◌+◌, Bool, true, false, List, [], ◌∷◌, Option, Some, None, ap}
use Rattle.om_code.specs.declared.instruction.Barrier.{Barrier}
use Rattle.om_code.specs.declared.instruction.Comparison.{Comparison}
use Rattle.om_code.specs.declared.instruction.Instr.TheVariants as i
use Rattle.om_code.specs.declared.instruction.Serial.TheVariants as serials
use Rattle.om_code.specs.declared.instruction.Sharing.TheVariants as sharings
use Rattle.om_code.specs.declared.instruction.Region.TheVariants as regionals
use Rattle.om_code.specs.declared.instruction.AtomicOperator.{AtomicOperator}
use Rattle.om_code.specs.declared.instruction.Side.{Side}
use Rattle.om_code.specs.declared.raw.Line.{Line}
use Rattle.om_scope_tree.specs.declared.resolved.CopyKind.{CopyKind}
use Rattle.om_scope_tree.specs.declared.resolved.CopyKind.TheVariants as copies
use Rattle.om_scope_tree.specs.declared.resolved.LocalVariable.{LocalVariable}
use Rattle.om_scope_tree.specs.declared.resolved.StandAlone as alone
use Rattle.om_scope_tree.specs.declared.resolved.StandAlone.TheVariants as alones
use Rattle.om_scope_tree.specs.declared.resolved.Variable as variables
use Rattle.om_scope_tree.specs.ResolvedTree.{ResolvedExpressionTree, ResolvedDeclaratorTree, ResolvedClauseTree}
use Rattle.om_scope_tree.specs.ResolvedTree.{ClauseValue, Shared, Copied, ResolvedLoopTree, ResolvedUpdateTree}
use Rattle.om_scope_tree.specs.ResolvedTree.{ResolvedStartTree, StartNothing, StartExpression, StartDeclaration}
use Rattle.om_lower_rules.specs.Expressions.{value, effect}
use Rattle.om_lower_rules.specs.Operators.{side_of, update_of}
use Rattle.om_lower_rules.specs.Rows.{Site, Row, given, perhaps, each, unless}
use Rattle.om_lower_rules.specs.Slots.{FirstCopy, slot}
use Rattle.om_lower_rules.specs.Statements.{jump, declared, declarator, start, test, returned, copy_start, clause_start}
use Rattle.om_lower_rules.specs.Statements.{starts, reduction_start, clause_reduction_start, reduction_starts, combine_copy}
use Rattle.om_lower_rules.specs.Statements.{combine_clause, reductions, clause_value, load_original, barrier, worksharing_end}
use Rattle.om_lower_rules.specs.Statements.{alone_row, filter_row, single_row, masked_row, critical_row, updated, update_row}
use Rattle.om_lower_rules.specs.Statements.{group_row, loop_rest, parallel_row, task_row}
use Rattle.om_lower_rules.proofs.Twins.{Alike, twin_end, twin_jump, twin_next, twin_within, twin_as, twin_more, twin_part}
use Rattle.om_lower_rules.proofs.Twins.{twin_here, twin_closed}
use Rattle.om_lower_rules.proofs.ExpressionTwins as expressions
use Rattle.om_lower_rules.proofs.ExpressionTwins.{with_code}

module _ (base : Site) (code code' : List Line) (picks picks' : List (List ℕ)) where
  abbrev c : Site
  c = with_code base code picks

  abbrev d : Site
  d = with_code base code' picks'

  abbrev pub Twins : Type 0 → Type 0 → Row → Row → Type 0
  Twins needs gives r t = (p p' q q' : ℕ) → r p q → t p' q' → Alike code code' picks picks' needs gives p q p' q'

  abbrev pub Twin : Row → Row → Type 0
  Twin r t = Twins (Unit {0}) (Unit {0}) r t

  abbrev value_twin : (l : ℕ) (e : ResolvedExpressionTree) → Twin (value c l e) (value d l e)
  value_twin l e = expressions.value_twin base code code' picks picks' l e

  abbrev effect_twin : (l : ℕ) (e : ResolvedExpressionTree) → Twin (effect c l e) (effect d l e)
  effect_twin l e = expressions.effect_twin base code code' picks picks' l e

  -- ---- rows of several

  pub each_twin : {A : Type 0} (row row' : A → Row) (xs : List A) → ((x : A) → Twin (row x) (row' x))
      → Twin (each row xs) (each row' xs)
  each_twin row row' [] h p p' q q' r t = twin_end r t
  each_twin row row' (x ∷ xs) h p p' q q' r t = twin_part r t (h x p p') (λ m m' r t. each_twin row row' xs h m m' q
      q' r t)

  pub perhaps_twin : {A N : Type 0} (row row' : A → Row) (x : Option A)
      → ((y : A) → Twins N (Unit {0}) (row y) (row' y)) → Twins N (Unit {0}) (perhaps row x) (perhaps row' x)
  perhaps_twin row row' None h p p' q q' r t = twin_end r t
  perhaps_twin row row' (Some x) h p p' q q' r t = h x p p' q q' r t

  pub given_twin : {A N G : Type 0} (row row' : A → Row) (x : Option A) → ((y : A) → Twins N G (row y) (row' y))
      → Twins N G (given x row) (given x row')
  given_twin row row' None h p p' q q' r t = absurd r
  given_twin row row' (Some x) h p p' q q' r t = h x p p' q q' r t

  pub unless_twin : (b : Bool) (row row' : Row) → Twin row row' → Twin (unless b row) (unless b row')
  unless_twin true row row' h p p' q q' r t = twin_end r t
  unless_twin false row row' h p p' q q' r t = h p p' q q' r t

  -- ---- heads, clauses and ends

  pub declared_twin : (l : ℕ) (x : LocalVariable) (e : Option ResolvedExpressionTree) → Twin (declared c l x e)
      (declared d l x e)
  declared_twin l x None p p' q q' r t = twin_next r t tt twin_end
  declared_twin l x (Some e) p p' q q' r t = twin_part r t (value_twin l e p p') (λ m m' r t. twin_next r t tt twin_end)

  pub declarators_twin : (l : ℕ) (ds : List ResolvedDeclaratorTree) → Twin (each (declarator c l) ds)
      (each (declarator d l) ds)
  declarators_twin l ds = each_twin (declarator c l) (declarator d l) ds (λ x. declared_twin l x.variable x.initial)

  pub start_twin : (l : ℕ) (s : ResolvedStartTree) → Twin (start c l s) (start d l s)
  start_twin l StartNothing p p' q q' r t = twin_end r t
  start_twin l (StartExpression e) p p' q q' r t = effect_twin l e p p' q q' r t
  start_twin l (StartDeclaration ds) p p' q q' r t = declarators_twin l ds p p' q q' r t

  pub test_twin : (l f f' : ℕ) (e : ResolvedExpressionTree) → Twins (f ≡ f') (Unit {0}) (test c l f e) (test d l f' e)
  test_twin l f f' e p p' q q' r t = twin_part r t (value_twin l e p p')
      (λ m m' r t. twin_jump r t tt (λ k. ap (λ x. i.Serial (serials.JumpIfZero x)) k) twin_end)

  pub returned_twin : (l : ℕ) (is_main : Bool) (e : Option ResolvedExpressionTree) → Twin (returned c l is_main e)
      (returned d l is_main e)
  returned_twin l true None p p' q q' r t = twin_next r t tt twin_end
  returned_twin l true (Some e) p p' q q' r t = twin_part r t (value_twin l e p p')
      (λ m m' r t. twin_next r t tt twin_end)
  returned_twin l false None p p' q q' r t = twin_next r t tt twin_end
  returned_twin l false (Some e) p p' q q' r t = twin_part r t (value_twin l e p p')
      (λ m m' r t. twin_next r t tt twin_end)

  pub jump_twin : (l : ℕ) (to to' : Option ℕ) → Twins (to ≡ to') (Unit {0}) (given to (jump c l)) (given to' (jump d l))
  jump_twin l None to' p p' q q' r t = absurd r
  jump_twin l (Some f) None p p' q q' r t = absurd t
  jump_twin l (Some f) (Some f') p p' q q' r t = twin_jump r t tt (λ k. ap (λ x. i.Serial (serials.Jump x)) (cc k)) twin_end

  pub copy_start_twin : (l : ℕ) (kind : CopyKind) (x : variables.Variable) (copy : LocalVariable)
      → Twin (copy_start c l kind x copy) (copy_start d l kind x copy)
  copy_start_twin l copies.Private x copy p p' q q' r t = twin_next r t tt twin_end
  copy_start_twin l copies.Firstprivate x copy p p' q q' r t = twin_next r t tt (λ r t. twin_next r t tt twin_end)
  copy_start_twin l (copies.Reduction o) x copy p p' q q' r t = twin_next r t tt (λ r t. twin_next r t tt twin_end)

  pub clause_start_twin : (l : ℕ) (clause : ResolvedClauseTree) → Twin (clause_start c l clause)
      (clause_start d l clause)
  clause_start_twin l (ClauseValue kind e) p p' q q' r t = twin_end r t
  clause_start_twin l (Shared x) p p' q q' r t = twin_end r t
  clause_start_twin l (Copied kind x copy) p p' q q' r t = copy_start_twin l kind x copy p p' q q' r t

  pub starts_twin : (l : ℕ) (clauses : List ResolvedClauseTree) → Twin (starts c l clauses) (starts d l clauses)
  starts_twin l clauses = each_twin (clause_start c l) (clause_start d l) clauses (clause_start_twin l)

  pub reduction_start_twin : (l : ℕ) (kind : CopyKind) (x : variables.Variable) (copy : LocalVariable)
      → Twin (reduction_start c l kind x copy) (reduction_start d l kind x copy)
  reduction_start_twin l copies.Private x copy p p' q q' r t = twin_end r t
  reduction_start_twin l copies.Firstprivate x copy p p' q q' r t = twin_end r t
  reduction_start_twin l (copies.Reduction o) x copy p p' q q' r t = twin_next r t tt (λ r t. twin_next r t tt twin_end)

  pub clause_reduction_start_twin : (l : ℕ) (clause : ResolvedClauseTree) → Twin (clause_reduction_start c l clause)
      (clause_reduction_start d l clause)
  clause_reduction_start_twin l (ClauseValue kind e) p p' q q' r t = twin_end r t
  clause_reduction_start_twin l (Shared x) p p' q q' r t = twin_end r t
  clause_reduction_start_twin l (Copied kind x copy) p p' q q' r t = reduction_start_twin l kind x copy p p' q q' r t

  pub reduction_starts_twin : (l : ℕ) (clauses : List ResolvedClauseTree) → Twin (reduction_starts c l clauses)
      (reduction_starts d l clauses)
  reduction_starts_twin l clauses = each_twin (clause_reduction_start c l) (clause_reduction_start d l) clauses
      (clause_reduction_start_twin l)

  pub combine_copy_twin : (l : ℕ) (kind : CopyKind) (x : variables.Variable) (copy : LocalVariable)
      → Twin (combine_copy c l kind x copy) (combine_copy d l kind x copy)
  combine_copy_twin l copies.Private x copy p p' q q' r t = twin_end r t
  combine_copy_twin l copies.Firstprivate x copy p p' q q' r t = twin_end r t
  combine_copy_twin l (copies.Reduction o) x copy p p' q q' r t = twin_next r t tt twin_end

  pub combine_clause_twin : (l : ℕ) (clause : ResolvedClauseTree) → Twin (combine_clause c l clause)
      (combine_clause d l clause)
  combine_clause_twin l (ClauseValue kind e) p p' q q' r t = twin_end r t
  combine_clause_twin l (Shared x) p p' q q' r t = twin_end r t
  combine_clause_twin l (Copied kind x copy) p p' q q' r t = combine_copy_twin l kind x copy p p' q q' r t

  pub reductions_twin : (l : ℕ) (clauses : List ResolvedClauseTree) → Twin (reductions c l clauses)
      (reductions d l clauses)
  reductions_twin l clauses = each_twin (combine_clause c l) (combine_clause d l) clauses (combine_clause_twin l)

  pub loads_twin : (l : ℕ) (xs : List FirstCopy) → Twin (each (load_original c l) xs) (each (load_original d l) xs)
  loads_twin l xs = each_twin (load_original c l) (load_original d l) xs (λ x p p' q q' r t. twin_next r t tt twin_end)

  pub barrier_twin : (l : ℕ) (kind : Barrier) → Twin (barrier c l kind) (barrier d l kind)
  barrier_twin l kind p p' q q' r t = twin_next r t tt (λ r t. twin_next r t tt twin_end)

  pub end_twin : (l : ℕ) (nowait : Bool) → Twin (worksharing_end c l nowait) (worksharing_end d l nowait)
  end_twin l true p p' q q' r t = twin_next r t tt twin_end
  end_twin l false p p' q q' r t = twin_next r t tt (λ r t. twin_next r t tt (λ r t. twin_next r t tt twin_end))

  pub alone_twin : (l : ℕ) (directive : alone.StandAlone) → Twin (alone_row c l directive) (alone_row d l directive)
  alone_twin l alones.Barrier p p' q q' r t = twin_next r t tt (λ r t. twin_next r t tt twin_end)
  alone_twin l alones.Taskwait p p' q q' r t = twin_next r t tt (λ r t. twin_next r t tt twin_end)
  alone_twin l alones.Taskyield p p' q q' r t = twin_next r t tt twin_end
  alone_twin l (alones.Flush vs) p p' q q' r t = twin_next r t tt twin_end

  pub filter_twin : (l : ℕ) (e : Option ResolvedExpressionTree) → Twin (filter_row c l e) (filter_row d l e)
  filter_twin l None p p' q q' r t = twin_next r t tt twin_end
  filter_twin l (Some e) p p' q q' r t = value_twin l e p p' q q' r t

  -- ---- constructs

  pub single_twin : {G : Type 0} (l : ℕ) (nowait : Bool) (clauses : List ResolvedClauseTree) (body body' : Row)
      → Twins (Unit {0}) G body body'
      → Twins (Unit {0}) G (single_row c l nowait clauses body) (single_row d l nowait clauses body')
  single_twin l nowait clauses body body' h p p' q q' r t =
      twin_closed {L = r.0 ≡ t.0}
      (twin_jump r.1 t.1 tt (λ k. ap (λ x. i.Sharing (sharings.Single x)) k.1) (λ r t.
      twin_part r t (starts_twin l clauses (p + 1) (p' + 1)) (λ m m' r t.
      twin_within r t (λ n. tt) (h m m') (λ m m' r t.
      twin_here r t (λ r t. twin_as (twin_more (end_twin l nowait m m' q q' r t) (λ n. tt)) (λ g. g))))))
      (λ g. g.1.0) (λ g. g.0)

  pub masked_twin : {G : Type 0} (l : ℕ) (clauses : List ResolvedClauseTree) (body body' : Row) → Twins (Unit {0}) G
      body body'
      → Twins (Unit {0}) G (masked_row c l clauses body) (masked_row d l clauses body')
  masked_twin l clauses body body' h p p' q q' r t =
      twin_closed {L = r.0 ≡ t.0}
      (twin_part r.1 t.1 (filter_twin l (clause_value clauses) p p') (λ m m' r t.
      twin_jump r t tt (λ k. ap (λ x. i.Region (regionals.Masked x)) k.1) (λ r t.
      twin_within r t (λ n. tt) (h (m + 1) (m' + 1)) (λ m m' r t.
      twin_next r t tt (λ r t. twin_here r t twin_end)))))
      (λ g. g.1.0) (λ g. g.0)

  pub critical_twin : {G : Type 0} (l : ℕ) (name : Option (List ℕ)) (body body' : Row) → Twins (Unit {0}) G body body'
      → Twins (Unit {0}) G (critical_row c l name body) (critical_row d l name body')
  critical_twin l name body body' h p p' q q' r t =
      twin_as
      (twin_next r t tt (λ r t. twin_next r t tt (λ r t.
      twin_within r t (λ n. tt) (h (p + 1 + 1) (p' + 1 + 1)) (λ m m' r t. twin_next r t tt twin_end))))
      (λ g. g.0)

  pub group_twin : {G : Type 0} (l : ℕ) (body body' : Row) → Twins (Unit {0}) G body body' → Twins (Unit {0}) G
      (group_row c l body) (group_row d l body')
  group_twin l body body' h p p' q q' r t =
      twin_as (twin_next r t tt (λ r t. twin_within r t (λ n. tt) (h (p + 1) (p' + 1))
      (λ m m' r t. twin_next r t tt twin_end))) (λ g. g.0)

  pub loop_twin : {G : Type 0} (l : ℕ) (clauses : List ResolvedClauseTree) (nowait : Bool) (loop : ResolvedLoopTree)
      (body body' : ℕ → Row) (comparison : Comparison)
      → ((next next' : ℕ) → Twins (next ≡ next') G (body next) (body' next'))
      → Twins (Unit {0}) G (loop_rest c l clauses nowait loop body comparison) (loop_rest d l clauses nowait loop
      body' comparison)
  loop_twin l clauses nowait loop body body' comparison h p p' q q' r t =
      twin_closed {L = (r.0 ≡ t.0) × (r.1 ≡ t.1) × (r.2 ≡ t.2)}
      (twin_part r.3 t.3 (value_twin loop.at.line loop.from p p') (λ m m' u v.
      twin_part u v (value_twin loop.at.line loop.to m m') (λ m m' u v.
      twin_part u v (starts_twin l clauses m m') (λ m m' u v.
      twin_next u v tt (λ u v.
      twin_here u v (λ u v.
      twin_jump u v tt (λ k. ap (λ x. i.Sharing (sharings.Grab x)) k.1.2) (λ u v.
      twin_here u v (λ u v.
      twin_jump u v tt (λ k. ap ((λ y. i.Sharing (sharings.Iterate (slot c loop.variable) y))) k.1.0) (λ u v.
      twin_within u v (λ n. n.1.1) (h r.1 t.1 (m + 1 + 1 + 1) (m' + 1 + 1 + 1)) (λ m m' u v.
      twin_jump u v tt (λ k. ap (λ x. i.Serial (serials.Jump x)) k.1.1) (λ u v.
      twin_here u v (λ u v.
      twin_part u v (reductions_twin l clauses (m + 1) (m' + 1)) (λ m m' u v.
      twin_more (end_twin l nowait m m' q q' u v) (λ n. tt))))))))))))))
      (λ g. (g.0, g.1.0, g.1.1.1.0)) (λ g. g.1.1.0)

  updated_twin : (l : ℕ) (x : variables.Variable) (j : Option ResolvedExpressionTree) (o : AtomicOperator)
      (side : Side) (e : ResolvedExpressionTree)
      → Twin (updated c l x j o side e) (updated d l x j o side e)
  updated_twin l x None o side e p p' q q' r t = twin_part r t (value_twin l e p p')
      (λ m m' r t. twin_next r t tt twin_end)
  updated_twin l x (Some j) o side e p p' q q' r t =
      twin_part r t (value_twin l j p p') (λ m m' r t. twin_part r t (value_twin l e m m')
      (λ m m' r t. twin_next r t tt twin_end))

  pub update_twin : (l : ℕ) (u : ResolvedUpdateTree) → Twin (update_row c l u) (update_row d l u)
  update_twin l u = updated_twin l u.variable u.index (update_of u.operator) (side_of u.side) u.operand

  -- ---- regions

  pub parallel_twin : (l body : ℕ) (size : Option ResolvedExpressionTree) (xs : List FirstCopy)
      → Twin (parallel_row c l body size xs) (parallel_row d l body size xs)
  parallel_twin l body size xs p p' q q' r t =
      twin_part r t (perhaps_twin (value c l) (value d l) size (value_twin l) p p') (λ m m' r t.
      twin_part r t (loads_twin l xs m m') (λ m m' r t. twin_next r t tt twin_end))

  pub task_twin : (l body : ℕ) (xs : List FirstCopy) → Twin (task_row c l body xs) (task_row d l body xs)
  task_twin l body xs p p' q q' r t = twin_part r t (loads_twin l xs p p') (λ m m' r t. twin_next r t tt twin_end)
