-- What holds of each mention in a whole expression, by each sound declarator and by each construct holds of
-- all mentions of a whole tree.
use Rattle.std.proofs.Common.{Bool, true, false, List, [], ◌∷◌, ◌++◌, Option, Some, None}
use Rattle.std.specs.Prelude.{◌≤◌, All, IfSome, fold, if◌then◌else◌}
use Rattle.std.specs.List.{flat_map, list_any}
use Rattle.std.proofs.lemmas.List.Elements.{All-nil, All-cons, All-head, All-tail, All-append}
use Rattle.om_lexer.specs.declared.token.Span.{Span}
use Rattle.om_scope_tree.specs.declared.resolved.ConstructKind.{ConstructKind}
use Rattle.om_scope_tree.specs.declared.resolved.GlobalVariable.{GlobalVariable}
use Rattle.om_scope_tree.specs.declared.resolved.Variable as variables
use Rattle.om_scope_tree.specs.ResolvedTree.{ResolvedExpressionTree, ResolvedDeclaratorTree, ResolvedClauseTree}
use Rattle.om_scope_tree.specs.ResolvedTree.{ClauseValue, Shared, Copied, ResolvedStartTree, StartNothing}
use Rattle.om_scope_tree.specs.ResolvedTree.{StartExpression, StartDeclaration, ResolvedStatementTree, Declaration, Block}
use Rattle.om_scope_tree.specs.ResolvedTree.{Empty, Expression, If, IfElse, While, Do, For, Return, Break, Continue}
use Rattle.om_scope_tree.specs.ResolvedTree.{Region, Loop, Sections, Construct, Update, StandAlone}
use Rattle.om_scope_tree.specs.ResolvedTree.{ResolvedStatementsTree, NoStatements, Statement, ResolvedPartsTree, NoParts}
use Rattle.om_scope_tree.specs.ResolvedTree.{Part, ResolvedFunctionTree}
use Rattle.om_scope_tree.specs.Whole.{Around, Admitted, IsWhole, IsWholeIfAny, AreWholeDeclarators, declared}
use Rattle.om_scope_tree.specs.Whole.{AreWholeClauses, IsWholeClause, IsWholeStart, after_start, IsWholeReturn}
use Rattle.om_scope_tree.specs.Whole.{IsWholeTarget, after_item, repeated, within, iterated, of_region}
use Rattle.om_scope_tree.specs.Whole.{of_worksharing, of_construct, IsWholeStatement, AreWholeItems, AreWholeParts}
use Rattle.om_scope_tree.specs.Whole.{IsWholeFunction, at_function}
use Rattle.om_lower_rules.specs.Mentions.{Mention, perhaps_mentioned, declarator_mentioned, start_mentioned, clause_mentioned}
use Rattle.om_lower_rules.specs.Mentions.{loop_mentioned, mentioned, all_mentioned, parts_mentioned, function_mentioned}
use Rattle.om_lower_rules.specs.Tables.{with_sight}

-- what holds of all sights holds of their table
pub table_all : {A : Type 0} (P : A → Type 0) (same : A → A → Bool) (sights found : List A) → All P found
    → All P sights → All P (fold (with_sight same) found sights)
table_all P same [] found f s = f
table_all {A} P same (x ∷ xs) found f s =
    table_all P same xs (with_sight same found x) (with_one (list_any (same x) found)) (All-tail P x xs s)
  where
    with_one : (b : Bool) → All P (if b then found else found ++ x ∷ [])
    with_one true = f
    with_one false = All-append P found (x ∷ []) f (All-cons P x [] (All-head P x xs s) (All-nil P))

module _ {A : Type 0} (m : Mention A) (P : A → Type 0)
    (expression : (e : ResolvedExpressionTree) (around : Around) (used : Bool) → IsWhole around used e
    → All P (m.in_expression e))
    (named : (d : ResolvedDeclaratorTree) → IfSome d.length (λ length. 1 ≤ length) → All P (m.by_declarator d))
    (construct : (at : Span) (kind : ConstructKind) → All P (m.by_construct at kind)) where
  perhaps_all : (e : Option ResolvedExpressionTree) (around : Around) (used : Bool) → IsWholeIfAny around used e
      → All P (perhaps_mentioned m e)
  perhaps_all None around used w = All-nil P
  perhaps_all (Some e) around used w = expression e around used w

  returned_all : (e : Option ResolvedExpressionTree) (around : Around) → IsWholeReturn around e
      → All P (perhaps_mentioned m e)
  returned_all None around w = All-nil P
  returned_all (Some e) around w = expression e around true w.1

  target_all : (x : variables.Variable) (index : Option ResolvedExpressionTree) (around : Around)
      → IsWholeTarget around x index → All P (perhaps_mentioned m index)
  target_all x None around w = All-nil P
  target_all x (Some j) around w = expression j around true w.1

  declarators_all : (ds : List ResolvedDeclaratorTree) (around : Around) → AreWholeDeclarators around ds
      → All P (flat_map (declarator_mentioned m) ds)
  declarators_all [] around w = All-nil P
  declarators_all (d ∷ ds) around w =
      All-append P (declarator_mentioned m d) (flat_map (declarator_mentioned m) ds)
      (All-append P (m.by_declarator d) (perhaps_mentioned m d.initial) (named d w.0)
      (perhaps_all d.initial (declared around d) true w.1))
      (declarators_all ds (declared around d) w.2)

  start_all : (start : ResolvedStartTree) (around : Around) → IsWholeStart around start
      → All P (start_mentioned m start)
  start_all StartNothing around w = All-nil P
  start_all (StartExpression e) around w = expression e around false w
  start_all (StartDeclaration ds) around w = declarators_all ds around w

  clause_all : (clause : ResolvedClauseTree) (around : Around) (admitted : Admitted) → IsWholeClause around admitted
      clause → All P (clause_mentioned m clause)
  clause_all (ClauseValue kind e) around admitted w = expression e around true w.1
  clause_all (Shared v) around admitted w = All-nil P
  clause_all (Copied kind x copy) around admitted w = All-nil P

  clauses_all : (clauses : List ResolvedClauseTree) (around : Around) (admitted : Admitted) → AreWholeClauses around
      admitted clauses
      → All P (flat_map (clause_mentioned m) clauses)
  clauses_all [] around admitted w = All-nil P
  clauses_all (c ∷ cs) around admitted w =
      All-append P (clause_mentioned m c) (flat_map (clause_mentioned m) cs)
      (clause_all c around admitted (All-head (IsWholeClause around admitted) c cs w))
      (clauses_all cs around admitted (All-tail (IsWholeClause around admitted) c cs w))

  -- two mentions, one behind the other
  both : (xs ys : List A) → All P xs → All P ys → All P (xs ++ ys)
  both xs ys = All-append P xs ys

  mutual
    unfolding mentioned all_mentioned parts_mentioned

    pub statement_all : (s : ResolvedStatementTree) (around : Around) → IsWholeStatement around s
        → All P (mentioned m s)
    statement_all (Declaration first ds) around w = declarators_all ds around w
    statement_all (Block first items) around w = items_all items around w
    statement_all (Empty first) around w = All-nil P
    statement_all (Expression first e) around w = expression e around false w
    statement_all (If first c s) around w = both (m.in_expression c) (mentioned m s) (expression c around true w.0)
        (statement_all s around w.1)
    statement_all (IfElse first c s t) around w =
        both (m.in_expression c) (mentioned m s ++ mentioned m t) (expression c around true w.0)
        (both (mentioned m s) (mentioned m t) (statement_all s around w.1) (statement_all t around w.2))
    statement_all (While first c s) around w =
        both (m.in_expression c) (mentioned m s) (expression c around true w.0) (statement_all s (repeated around) w.1)
    statement_all (Do first s c) around w =
        both (mentioned m s) (m.in_expression c) (statement_all s (repeated around) w.0) (expression c around true w.1)
    statement_all (For first start c step s) around w =
        both (start_mentioned m start) (perhaps_mentioned m c ++ (perhaps_mentioned m step ++ mentioned m s))
        (start_all start around w.0)
        (both (perhaps_mentioned m c) (perhaps_mentioned m step ++ mentioned m s)
        (perhaps_all c (after_start around start) true w.1)
        (both (perhaps_mentioned m step) (mentioned m s) (perhaps_all step (after_start around start) false w.2)
        (statement_all s (repeated (after_start around start)) w.3)))
    statement_all (Return first e) around w = returned_all e around w.1
    statement_all (Break first) around w = All-nil P
    statement_all (Continue first) around w = All-nil P
    statement_all (Region first kind clauses captures s) around w =
        both (flat_map (clause_mentioned m) clauses) (mentioned m s) (clauses_all clauses around (of_region kind) w.0)
        (statement_all s (within around clauses) w.2)
    statement_all (Loop first clauses nowait l s) around w =
        both (flat_map (clause_mentioned m) clauses) (loop_mentioned m l ++ mentioned m s)
        (clauses_all clauses around of_worksharing w.0)
        (both (loop_mentioned m l) (mentioned m s)
        (both (m.in_expression l.from) (m.in_expression l.to) (expression l.from _ true w.1.from)
        (expression l.to _ true w.1.to))
        (statement_all s (iterated around clauses l) w.2))
    statement_all (Sections first clauses nowait sections) around w =
        both (flat_map (clause_mentioned m) clauses) (parts_mentioned m sections)
        (clauses_all clauses around of_worksharing w.0) (parts_all sections (within around clauses) w.3)
    statement_all (Construct first kind clauses s) around w =
        both (m.by_construct first kind) (flat_map (clause_mentioned m) clauses ++ mentioned m s) (construct first kind)
        (both (flat_map (clause_mentioned m) clauses) (mentioned m s)
        (clauses_all clauses around (of_construct kind) w.0)
        (statement_all s (within around clauses) w.1))
    statement_all (Update first u) around w =
        both (perhaps_mentioned m u.index) (m.in_expression u.operand) (target_all u.variable u.index _ w.target)
        (expression u.operand _ true w.operand)
    statement_all (StandAlone first directive) around w = All-nil P

    pub items_all : (items : ResolvedStatementsTree) (around : Around) → AreWholeItems around items
        → All P (all_mentioned m items)
    items_all NoStatements around w = All-nil P
    items_all (Statement s rest) around w =
        both (mentioned m s) (all_mentioned m rest) (statement_all s around w.0)
        (items_all rest (after_item around s) w.1)

    pub parts_all : (parts : ResolvedPartsTree) (around : Around) → AreWholeParts around parts
        → All P (parts_mentioned m parts)
    parts_all NoParts around w = All-nil P
    parts_all (Part items rest) around w =
        both (all_mentioned m items) (parts_mentioned m rest) (items_all items around w.1) (parts_all rest around w.2)

  pub functions_all : (globals : List GlobalVariable) (functions fs : List ResolvedFunctionTree)
      → All (IsWholeFunction globals functions) fs
      → All P (flat_map (function_mentioned m) fs)
  functions_all globals functions [] w = All-nil P
  functions_all globals functions (f ∷ fs) w =
      both (function_mentioned m f) (flat_map (function_mentioned m) fs)
      (items_all f.body (at_function globals functions f) (All-head (IsWholeFunction globals functions) f fs w).body)
      (functions_all globals functions fs (All-tail (IsWholeFunction globals functions) f fs w))
