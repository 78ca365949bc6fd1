-- What a part of a tree mentions, and the numbers that it gives, are at most as many as its weight. This is matter
-- of proofs, for om_lower too.
use Rattle.std.proofs.Common.{◌≡◌, ◌≤◌, ◌+◌, ℕ, List, [], ◌∷◌, ◌++◌, Option, Some, None, length, map}
use Rattle.std.proofs.Common.{arith}
use Rattle.std.specs.Prelude.{sum}
use Rattle.std.specs.List.{flat_map}
use Rattle.std.proofs.lemmas.List.{length-append}
use Rattle.std.proofs.lemmas.List.Sums.{sum_by-cons}
use Rattle.om_scope_tree.specs.declared.resolved.ConstructKind.{ConstructKind}
use Rattle.om_scope_tree.specs.declared.resolved.ConstructKind.TheVariants as constructs
use Rattle.om_scope_tree.specs.ResolvedTree as trees
use Rattle.om_scope_tree.specs.ResolvedTree.{ResolvedExpressionTree, Constant, Variable, Element, Call, ThreadNumber}
use Rattle.om_scope_tree.specs.ResolvedTree.{TeamSize, Print, Unary, Binary, Conditional, Assign, AssignElement, Postfix}
use Rattle.om_scope_tree.specs.ResolvedTree.{PostfixElement, ValuesTree, NoValues, ResolvedDeclaratorTree}
use Rattle.om_scope_tree.specs.ResolvedTree.{ResolvedClauseTree, ClauseValue, Shared, Copied, ResolvedLoopTree}
use Rattle.om_scope_tree.specs.ResolvedTree.{ResolvedUpdateTree, ResolvedStartTree, StartNothing, StartExpression}
use Rattle.om_scope_tree.specs.ResolvedTree.{StartDeclaration, ResolvedStatementTree, Declaration, Block, Empty}
use Rattle.om_scope_tree.specs.ResolvedTree.{Expression, If, IfElse, While, Do, For, Return, Break, Continue, Region}
use Rattle.om_scope_tree.specs.ResolvedTree.{Loop, Sections, Construct, Update, StandAlone, ResolvedStatementsTree}
use Rattle.om_scope_tree.specs.ResolvedTree.{NoStatements, Statement, ResolvedPartsTree, NoParts, Part}
use Rattle.om_scope_tree.specs.Weights.{expression_weight, values_weight, perhaps_weight, declarator_weight, start_weight}
use Rattle.om_scope_tree.specs.Weights.{clause_weight, loop_weight, update_weight, statement_weight, statements_weight}
use Rattle.om_scope_tree.specs.Weights.{parts_weight}
use Rattle.om_lower_rules.specs.Bodies.{Numbers, behind, behind_all, behind_parts, next_body, next_pick}
use Rattle.om_lower_rules.specs.Mentions.{Mention, all_mentioned, clause_mentioned, construct_locks, declarator_mentioned}
use Rattle.om_lower_rules.specs.Mentions.{expression_formats, format_mention, lock_mention, loop_mentioned, mentioned}
use Rattle.om_lower_rules.specs.Mentions.{parts_mentioned, perhaps_mentioned, start_mentioned, update_mentioned, values_formats}

-- ---- what an expression mentions

mutual
  unfolding expression_formats values_formats expression_weight values_weight

  pub expression_few : (e : ResolvedExpressionTree) → length (expression_formats e) ≤ expression_weight e
  expression_few (Constant value) = omega arith
  expression_few (Variable v) = omega arith
  expression_few (Element v index) = expression_few index
  expression_few (Call function values) = values_few values
  expression_few ThreadNumber = omega arith
  expression_few TeamSize = omega arith
  expression_few (Print format values) = let rest = values_few values in omega (arith, rest)
  expression_few (Unary o e) = expression_few e
  expression_few (Binary a o b) =
      omega (arith, length-append (expression_formats a) (expression_formats b), expression_few a, expression_few b)
  expression_few (Conditional c a b) =
      omega (
        arith,
        length-append (expression_formats c) (expression_formats a ++ expression_formats b),
        length-append (expression_formats a) (expression_formats b),
        expression_few c,
        expression_few a,
        expression_few b,
      )
  expression_few (Assign v o e) = expression_few e
  expression_few (AssignElement v index o e) =
      omega (
        arith,
        length-append (expression_formats index) (expression_formats e),
        expression_few index,
        expression_few e,
      )
  expression_few (Postfix v o) = omega arith
  expression_few (PostfixElement v index o) = expression_few index

  pub values_few : (values : ValuesTree) → length (values_formats values) ≤ values_weight values
  values_few NoValues = omega arith
  values_few (trees.Value e rest) =
      omega (arith, length-append (expression_formats e) (values_formats rest), expression_few e, values_few rest)

-- ---- what a part mentions, formats and locks

abbrev pub texts_of : ((A : Type 0) → Mention A → List A) → ℕ
texts_of by = length (by _ format_mention) + length (by _ lock_mention)

pub perhaps_few : (e : Option ResolvedExpressionTree) → texts_of (λ A m. perhaps_mentioned m e) ≤ perhaps_weight e
perhaps_few None = omega arith
perhaps_few (Some e) = omega (arith, expression_few e)

-- two mentions, one behind the other
two : {A B : Type 0} (xs ys : List A) (zs ws : List B) → length (xs ++ ys) + length (zs ++ ws)
    ≡ (length xs + length zs) + (length ys + length ws)
two xs ys zs ws = omega (arith, length-append xs ys, length-append zs ws)

joined_few : {A B : Type 0} (xs ys : List A) (zs ws : List B) (first rest all : ℕ)
    → all ≡ first + rest → length xs + length zs ≤ first → length ys + length ws ≤ rest
    → length (xs ++ ys) + length (zs ++ ws) ≤ all
joined_few xs ys zs ws first rest all is one other = omega (arith, two xs ys zs ws, is, one, other)

pub declarators_few : (ds : List ResolvedDeclaratorTree) → texts_of (λ A m. flat_map (declarator_mentioned m) ds)
    ≤ sum (map declarator_weight ds)
declarators_few [] = omega arith
declarators_few (d ∷ ds) =
    joined_few (declarator_mentioned format_mention d) (flat_map (declarator_mentioned format_mention) ds)
    (declarator_mentioned lock_mention d) (flat_map (declarator_mentioned lock_mention) ds) (declarator_weight d)
    (sum (map declarator_weight ds)) (sum (map declarator_weight (d ∷ ds))) (sum_by-cons (λ n. n) (declarator_weight d)
    (map declarator_weight ds)) (perhaps_few d.initial) (declarators_few ds)

pub start_few : (start : ResolvedStartTree) → texts_of (λ A m. start_mentioned m start) ≤ start_weight start
start_few StartNothing = omega arith
start_few (StartExpression e) = omega (arith, expression_few e)
start_few (StartDeclaration ds) = declarators_few ds

pub head_few : (start : ResolvedStartTree) (test after : Option ResolvedExpressionTree)
    → texts_of (λ A m. start_mentioned m start ++ (perhaps_mentioned m test ++ perhaps_mentioned m after))
    ≤ start_weight start + (perhaps_weight test + perhaps_weight after)
head_few start test after =
    let f = format_mention in
    let l = lock_mention in
    let each = two (start_mentioned f start) (perhaps_mentioned f test ++ perhaps_mentioned f after)
    (start_mentioned l start) (perhaps_mentioned l test ++ perhaps_mentioned l after) in
    let tests = two (perhaps_mentioned f test) (perhaps_mentioned f after) (perhaps_mentioned l test)
    (perhaps_mentioned l after) in
    omega (arith, each, tests, start_few start, perhaps_few test, perhaps_few after)

pub clause_few : (clause : ResolvedClauseTree) → texts_of (λ A m. clause_mentioned m clause) ≤ clause_weight clause
clause_few (ClauseValue kind e) = omega (arith, expression_few e)
clause_few (Shared v) = omega arith
clause_few (Copied kind original copy) = omega arith

pub clauses_few : (clauses : List ResolvedClauseTree) → texts_of (λ A m. flat_map (clause_mentioned m) clauses)
    ≤ sum (map clause_weight clauses)
clauses_few [] = omega arith
clauses_few (c ∷ cs) =
    joined_few (clause_mentioned format_mention c) (flat_map (clause_mentioned format_mention) cs)
    (clause_mentioned lock_mention c) (flat_map (clause_mentioned lock_mention) cs) (clause_weight c)
    (sum (map clause_weight cs)) (sum (map clause_weight (c ∷ cs))) (sum_by-cons (λ n. n) (clause_weight c)
    (map clause_weight cs)) (clause_few c) (clauses_few cs)

pub loop_few : (l : ResolvedLoopTree) → texts_of (λ A m. loop_mentioned m l) ≤ loop_weight l
loop_few l =
    omega (
      arith,
      length-append (expression_formats l.from) (expression_formats l.to),
      expression_few l.from,
      expression_few l.to,
    )

pub update_few : (u : ResolvedUpdateTree) → texts_of (λ A m. update_mentioned m u) ≤ update_weight u
update_few u =
    let each = two (perhaps_mentioned format_mention u.index) (expression_formats u.operand)
    (perhaps_mentioned lock_mention u.index) [] in
    omega (arith, each, perhaps_few u.index, expression_few u.operand)

pub construct_few : (kind : ConstructKind) → length (construct_locks kind) ≤ 1
construct_few (constructs.Single nowait) = omega arith
construct_few constructs.Masked = omega arith
construct_few (constructs.Critical name) = omega arith
construct_few (constructs.Atomic access) = omega arith
construct_few constructs.Taskgroup = omega arith

-- ---- what a statement mentions, and the numbers behind it

abbrev pub given_by : Numbers → ((A : Type 0) → Mention A → List A) → ℕ
given_by n by = (n.bodies + n.picks) + texts_of by

with_clauses : (clauses : List ResolvedClauseTree) (s : ResolvedStatementTree)
    → texts_of (λ A m. flat_map (clause_mentioned m) clauses ++ mentioned m s)
    ≡ texts_of (λ A m. flat_map (clause_mentioned m) clauses) + texts_of (λ A m. mentioned m s)
with_clauses clauses s =
    two (flat_map (clause_mentioned format_mention) clauses) (mentioned format_mention s)
    (flat_map (clause_mentioned lock_mention) clauses) (mentioned lock_mention s)

mutual
  unfolding mentioned all_mentioned parts_mentioned statement_weight statements_weight parts_weight

  pub statement_few : (n : Numbers) (s : ResolvedStatementTree) → given_by (behind n s) (λ A m. mentioned m s)
      ≤ (n.bodies + n.picks) + statement_weight s
  statement_few n (Declaration at ds) = let few = declarators_few ds in omega (arith, few)
  statement_few n (Block at items) = statements_few n items
  statement_few n (Empty at) = omega arith
  statement_few n (Expression at e) = omega (arith, expression_few e)
  statement_few n (If at c s) =
      let each = two (expression_formats c) (mentioned format_mention s) [] (mentioned lock_mention s) in
      omega (arith, each, expression_few c, statement_few n s)
  statement_few n (IfElse at c s t) =
      let each = two (expression_formats c) (mentioned format_mention s ++ mentioned format_mention t) []
      (mentioned lock_mention s ++ mentioned lock_mention t) in
      let parts = two (mentioned format_mention s) (mentioned format_mention t) (mentioned lock_mention s)
      (mentioned lock_mention t) in
      omega (arith, each, parts, expression_few c, statement_few n s, statement_few (behind n s) t)
  statement_few n (While at c s) =
      let each = two (expression_formats c) (mentioned format_mention s) [] (mentioned lock_mention s) in
      omega (arith, each, expression_few c, statement_few n s)
  statement_few n (Do at s c) =
      let each = two (mentioned format_mention s) (expression_formats c) (mentioned lock_mention s) [] in
      omega (arith, each, expression_few c, statement_few n s)
  statement_few n (For at start condition step s) =
      let f = format_mention in
      let l = lock_mention in
      let last = two (perhaps_mentioned f step) (mentioned f s) (perhaps_mentioned l step) (mentioned l s) in
      let middle = two (perhaps_mentioned f condition) (perhaps_mentioned f step ++ mentioned f s)
      (perhaps_mentioned l condition) (perhaps_mentioned l step ++ mentioned l s) in
      let each = two (start_mentioned f start) (perhaps_mentioned f condition ++ (perhaps_mentioned f step ++ mentioned f
      s)) (start_mentioned l start) (perhaps_mentioned l condition ++ (perhaps_mentioned l step ++ mentioned l s)) in
      omega (
        arith,
        each,
        middle,
        last,
        start_few start,
        perhaps_few condition,
        perhaps_few step,
        statement_few n s,
      )
  statement_few n (Return at value) = let few = perhaps_few value in omega (arith, few)
  statement_few n (Break at) = omega arith
  statement_few n (Continue at) = omega arith
  statement_few n (Region at kind clauses captures s) =
      omega (arith, with_clauses clauses s, clauses_few clauses, statement_few (next_body n) s)
  statement_few n (Loop at clauses nowait l s) =
      let bounds = two (loop_mentioned format_mention l) (mentioned format_mention s) (loop_mentioned lock_mention l)
      (mentioned lock_mention s) in
      let each = two (flat_map (clause_mentioned format_mention) clauses)
      (loop_mentioned format_mention l ++ mentioned format_mention s)
      (flat_map (clause_mentioned lock_mention) clauses) (loop_mentioned lock_mention l ++ mentioned lock_mention s) in
      omega (arith, each, bounds, clauses_few clauses, loop_few l, statement_few n s)
  statement_few n (Sections at clauses nowait parts) =
      let each = two (flat_map (clause_mentioned format_mention) clauses) (parts_mentioned format_mention parts)
      (flat_map (clause_mentioned lock_mention) clauses) (parts_mentioned lock_mention parts) in
      omega (arith, each, clauses_few clauses, parts_few (next_pick n) parts)
  statement_few n (Construct at kind clauses s) =
      let each = two [] (flat_map (clause_mentioned format_mention) clauses ++ mentioned format_mention s)
      (construct_locks kind) (flat_map (clause_mentioned lock_mention) clauses ++ mentioned lock_mention s) in
      omega (arith, each, construct_few kind, with_clauses clauses s, clauses_few clauses, statement_few n s)
  statement_few n (Update at u) = let few = update_few u in omega (arith, few)
  statement_few n (StandAlone at directive) = omega arith

  pub statements_few : (n : Numbers) (items : ResolvedStatementsTree)
      → given_by (behind_all n items) (λ A m. all_mentioned m items) ≤ (n.bodies + n.picks) + statements_weight items
  statements_few n NoStatements = omega arith
  statements_few n (Statement s rest) =
      let each = two (mentioned format_mention s) (all_mentioned format_mention rest) (mentioned lock_mention s)
      (all_mentioned lock_mention rest) in
      omega (arith, each, statement_few n s, statements_few (behind n s) rest)

  pub parts_few : (n : Numbers) (parts : ResolvedPartsTree)
      → given_by (behind_parts n parts) (λ A m. parts_mentioned m parts) ≤ (n.bodies + n.picks) + parts_weight parts
  parts_few n NoParts = omega arith
  parts_few n (Part items rest) =
      let each = two (all_mentioned format_mention items) (parts_mentioned format_mention rest)
      (all_mentioned lock_mention items) (parts_mentioned lock_mention rest) in
      omega (arith, each, statements_few n items, parts_few (behind_all n items) rest)
