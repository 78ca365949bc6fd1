-- The resolution of declarations, directives and statements.
use Rattle.std.specs.Prelude.{ℕ, List, [], ◌∷◌, Option, None, Some, Bool, true, option_map, not, if◌then◌else◌}
use Rattle.om_lexer.specs.declared.token.Span.{Span}
use Rattle.om_parser_tree.specs.declared.tree.ArrayLength.{ArrayLength}
use Rattle.om_parser_tree.specs.Tree.{ExpressionTree, InitializerTree, DeclaratorTree, ForStartTree, Nothing, StartExpression}
use Rattle.om_parser_tree.specs.Tree.{StartDeclaration, ForHeadTree, StatementTree, LocalDeclaration, Block, Empty, Expression}
use Rattle.om_parser_tree.specs.Tree.{If, IfElse, While, Do, For, Return, Break, Continue, Construct, StandAlone, Sections}
use Rattle.om_parser_tree.specs.Tree.{StatementsTree, NoStatements, Statement, PartsTree, NoParts, Part}
use Rattle.om_pragma.specs.declared.clause.Clause.{Clause}
use Rattle.om_pragma.specs.declared.clause.Clause.TheVariants as clauses
use Rattle.om_pragma.specs.declared.clause.ClauseItem.{ClauseItem}
use Rattle.om_pragma.specs.declared.clause.ClauseKind.TheVariants as kinds
use Rattle.om_pragma.specs.declared.clause.DataSharing.{DataSharing}
use Rattle.om_pragma.specs.declared.clause.DataSharing.TheVariants as lists
use Rattle.om_pragma.specs.declared.clause.Schedule as schedules
use Rattle.om_pragma.specs.declared.clause.ScheduleKind.TheVariants as ways
use Rattle.om_pragma.specs.declared.clause.Name as names
use Rattle.om_pragma.specs.declared.clause.NameList.{NameList}
use Rattle.om_pragma.specs.declared.tree.AtomicKind.{AtomicKind}
use Rattle.om_pragma.specs.declared.tree.AtomicKind.TheVariants as atomics
use Rattle.om_pragma.specs.declared.tree.Directive.{Directive}
use Rattle.om_pragma.specs.declared.tree.DirectiveName.{DirectiveName}
use Rattle.om_pragma.specs.declared.tree.DirectiveName.TheVariants as directives
use Rattle.om_pragma.specs.Questions.{atomic_kind, has_clause}
use Rattle.om_scope_tree.specs.declared.resolved.AtomicAccess.TheVariants as accesses
use Rattle.om_scope_tree.specs.declared.resolved.ConstructKind.TheVariants as constructs
use Rattle.om_scope_tree.specs.declared.resolved.CopyKind.{CopyKind}
use Rattle.om_scope_tree.specs.declared.resolved.CopyKind.TheVariants as copies
use Rattle.om_scope_tree.specs.declared.resolved.LocalVariable.{LocalVariable}
use Rattle.om_scope_tree.specs.declared.resolved.RegionKind.TheVariants as regions
use Rattle.om_scope_tree.specs.declared.resolved.ResolvedSchedule.{ResolvedSchedule}
use Rattle.om_scope_tree.specs.declared.resolved.Side.{Side}
use Rattle.om_scope_tree.specs.declared.resolved.StandAlone.TheVariants as alones
use Rattle.om_scope_tree.specs.declared.resolved.Variable.{Variable}
use Rattle.om_scope_tree.specs.Captures.{captures_of, listed_variables, taken_by_parallel, taken_by_task}
use Rattle.om_scope_rules.specs.DirectiveRules.{in_construct, names_in, parallel_in, traits_of}
use Rattle.om_scope_rules.specs.Loops.{Loop, loop_in}
use Rattle.om_scope_rules.specs.Perhaps.{◌>>=◌, perhaps, each, each_along, all_of}
use Rattle.om_scope_rules.specs.Places.{expression_first}
use Rattle.om_scope_rules.specs.Resolution.{resolved_expression, variable_named}
use Rattle.om_scope_tree.specs.ResolvedTree as resolved
use Rattle.om_scope_tree.specs.ResolvedTree.{ResolvedDeclaratorTree, ResolvedClauseTree, ResolvedLoopTree}
use Rattle.om_scope_tree.specs.ResolvedTree.{ResolvedStartTree, ResolvedUpdateTree, ResolvedStatementTree}
use Rattle.om_scope_tree.specs.ResolvedTree.{ResolvedStatementsTree, ResolvedPartsTree}
use Rattle.om_scope_rules.specs.Scopes.{Scopes, inside, declarators_of, after_local}
use Rattle.om_scope_rules.specs.Sharing.{is_parallel}
use Rattle.om_scope_rules.specs.Updates.{statement_side, update_of}
use Rattle.om_scope_rules.specs.StatementRules.{after_for_start, after_statement, in_loop}
use Rattle.om_scope_rules.specs.StatementRules.{round_bounds, with_iteration}

-- ---- declarations

-- a variable of a function is known by where it is declared or listed
abbrev pub local_of : names.Name → LocalVariable
local_of name = record { name = name.text; at = name.span.start }

abbrev pub length_of : Option ArrayLength → Option ℕ
length_of array = option_map (λ length. length.size.value) array

abbrev pub resolved_initial : Scopes → Option (InitializerTree ExpressionTree)
    → Option (Option resolved.ResolvedExpressionTree)
resolved_initial scopes initializer = perhaps (λ i. resolved_expression scopes i.value) initializer

-- an initializer reads the name itself
unfoldable pub resolved_declarator : Scopes → DeclaratorTree ExpressionTree → Option ResolvedDeclaratorTree
resolved_declarator scopes d = resolved_initial (after_local scopes d) d.initializer >>= λ initial. Some (record {
  variable = local_of d.name;
  length = length_of d.array;
  initial = initial;
})

abbrev pub resolved_declarators : Scopes → List (DeclaratorTree ExpressionTree) → Option (List ResolvedDeclaratorTree)
resolved_declarators = each_along resolved_declarator after_local

-- ---- clauses

-- what a clause says of a variable that it lists by a name: the construct has such a copy, or shares it
abbrev pub clause_of : Option CopyKind → Variable → names.Name → ResolvedClauseTree
clause_of None variable name = resolved.Shared variable
clause_of (Some kind) variable name = resolved.Copied kind variable (local_of name)

abbrev pub resolved_listed : Option CopyKind → Scopes → names.Name → Option ResolvedClauseTree
resolved_listed kind scopes name = variable_named scopes name >>= λ v. Some (clause_of kind v name)

abbrev pub kind_of : DataSharing → Option CopyKind
kind_of lists.Shared = None
kind_of lists.Private = Some copies.Private
kind_of lists.Firstprivate = Some copies.Firstprivate

unfoldable pub resolved_clause : Scopes → Clause ExpressionTree → Option (List ResolvedClauseTree)
resolved_clause scopes (clauses.Value kind s v) = resolved_expression scopes v.expression >>= λ e. Some
    (resolved.ClauseValue kind e ∷ [])
resolved_clause scopes (clauses.Default s argument) = Some []
resolved_clause scopes (clauses.Data sharing s list) = each (resolved_listed (kind_of sharing) scopes)
    (names_in list.first list.rest)
resolved_clause scopes (clauses.Reduction s r) = each (resolved_listed (Some (copies.Reduction r.operator)) scopes)
    (names_in r.first r.rest)
resolved_clause scopes (clauses.Schedule s argument) = Some []
resolved_clause scopes (clauses.Plain kind s) = Some []

abbrev pub resolved_item : Scopes → ClauseItem ExpressionTree → Option (List ResolvedClauseTree)
resolved_item scopes item = resolved_clause scopes item.clause

abbrev pub resolved_clauses : Scopes → List (ClauseItem ExpressionTree) → Option (List ResolvedClauseTree)
resolved_clauses scopes items = all_of (resolved_item scopes) items

-- without a clause the schedule is static (an own choice, as OpenMP API 5.2, section 11.5.1 leaves it)
abbrev pub plain_schedule : ResolvedSchedule
plain_schedule = record { kind = ways.Static; chunk = None }

abbrev pub schedule_in : schedules.Schedule → ResolvedSchedule
schedule_in s = record { kind = s.kind; chunk = option_map (λ chunk. chunk.1.value) s.chunk }

abbrev pub clause_schedule : ResolvedSchedule → Clause ExpressionTree → ResolvedSchedule
clause_schedule otherwise (clauses.Schedule s argument) = schedule_in argument
clause_schedule otherwise (clauses.Value kind s v) = otherwise
clause_schedule otherwise (clauses.Default s argument) = otherwise
clause_schedule otherwise (clauses.Data sharing s list) = otherwise
clause_schedule otherwise (clauses.Reduction s r) = otherwise
clause_schedule otherwise (clauses.Plain kind s) = otherwise

abbrev pub schedule_of : List (ClauseItem ExpressionTree) → ResolvedSchedule
schedule_of [] = plain_schedule
schedule_of (item ∷ items) = clause_schedule (schedule_of items) item.clause

abbrev pub has_nowait : Directive ExpressionTree → Bool
has_nowait d = has_clause kinds.Nowait d

-- ---- constructs

abbrev pub has_default : Directive ExpressionTree → Bool
has_default d = has_clause kinds.Default d

abbrev pub parallel_of : Directive ExpressionTree → List ResolvedClauseTree → ResolvedStatementTree
    → ResolvedStatementTree
parallel_of d cs body = resolved.Region d.hash regions.Parallel cs (captures_of taken_by_parallel d.hash.start cs body) body

-- in the innermost `parallel` that begins there
abbrev pub task_of : Option ℕ → Directive ExpressionTree → List ResolvedClauseTree → ResolvedStatementTree
    → ResolvedStatementTree
task_of parallel d cs body =
    let taking = taken_by_task (has_default d) parallel (listed_variables d.hash.start cs) in
    resolved.Region d.hash regions.Task cs (captures_of taking d.hash.start cs body) body

abbrev pub critical_name : Option (Span × names.Name × Span) → Option (List ℕ)
critical_name name = option_map (λ n. n.1.text) name

-- of an update alone, which the statement is where the `atomic` has one of its forms
abbrev pub with_update : Span → Option ResolvedUpdateTree → Option ResolvedStatementTree
with_update at None = None
with_update at (Some update) = Some (resolved.Update at update)

abbrev pub atomic_of : AtomicKind → Side → Span → List ResolvedClauseTree → ResolvedStatementTree
    → Option ResolvedStatementTree
atomic_of atomics.Update side at cs body = with_update at (update_of side body)
atomic_of atomics.Read side at cs body = Some (resolved.Construct at (constructs.Atomic accesses.Read) cs body)
atomic_of atomics.Write side at cs body = Some (resolved.Construct at (constructs.Atomic accesses.Write) cs body)

-- of a directive for one statement, which every construct of a well-formed tree has; those for a loop stand below
unfoldable pub construct_of : Option ℕ → Side → Directive ExpressionTree → DirectiveName → List ResolvedClauseTree
    → ResolvedStatementTree → Option ResolvedStatementTree
construct_of parallel side d (directives.Parallel s) cs body = Some (parallel_of d cs body)
construct_of parallel side d (directives.Task s) cs body = Some (task_of parallel d cs body)
construct_of parallel side d (directives.Taskgroup s) cs body = Some
    (resolved.Construct d.hash constructs.Taskgroup cs body)
construct_of parallel side d (directives.Single s) cs body = Some
    (resolved.Construct d.hash (constructs.Single (has_nowait d)) cs body)
construct_of parallel side d (directives.Masked s) cs body = Some (resolved.Construct d.hash constructs.Masked cs body)
construct_of parallel side d (directives.Master s) cs body = Some (resolved.Construct d.hash constructs.Masked cs body)
construct_of parallel side d (directives.Critical s name) cs body = Some
    (resolved.Construct d.hash (constructs.Critical (critical_name name)) cs body)
construct_of parallel side d (directives.Atomic s) cs body = atomic_of (atomic_kind d) side d.hash cs body
construct_of parallel side d _ cs body = None

-- the clauses of a `parallel for` belong to its `parallel`, at whose end its loop's threads wait for each other
abbrev pub loop_construct_of : Directive ExpressionTree → List ResolvedClauseTree → ResolvedLoopTree
    → ResolvedStatementTree → ResolvedStatementTree
loop_construct_of d cs l body =
    if is_parallel (traits_of d.name).region
    then parallel_of d cs (resolved.Loop d.hash [] true l body)
    else resolved.Loop d.hash cs (has_nowait d) l body

-- the same of a `parallel sections`
abbrev pub sections_construct_of : Directive ExpressionTree → List ResolvedClauseTree → ResolvedPartsTree
    → ResolvedStatementTree
sections_construct_of d cs parts =
    if is_parallel (traits_of d.name).region
    then parallel_of d cs (resolved.Sections d.hash [] true parts)
    else resolved.Sections d.hash cs (has_nowait d) parts

-- ---- canonical loops

-- the scopes of a loop's bounds
abbrev pub bounds_scopes : Scopes → Loop → Scopes
bounds_scopes scopes found = if found.start.is_declared then with_iteration scopes found else scopes

unfoldable pub resolved_loop : Scopes → ResolvedSchedule → Loop → Option ResolvedLoopTree
resolved_loop scopes schedule found = do
  from ← resolved_expression (bounds_scopes scopes found) found.start.from
  to ← resolved_expression (bounds_scopes scopes found) found.to
  Some (record {
    at = found.at;
    variable = local_of found.start.variable;
    from = from;
    comparison = found.comparison;
    to = to;
    step = found.step;
    schedule = schedule;
  })

-- ---- statements

unfoldable pub resolved_start : Scopes → ForStartTree → Option ResolvedStartTree
resolved_start scopes (Nothing semicolon) = Some resolved.StartNothing
resolved_start scopes (StartExpression e semicolon) = resolved_expression scopes e >>= λ x. Some
    (resolved.StartExpression x)
resolved_start scopes (StartDeclaration d) = resolved_declarators scopes (declarators_of d) >>= λ ds. Some
    (resolved.StartDeclaration ds)

abbrev pub resolved_perhaps : Scopes → Option ExpressionTree → Option (Option resolved.ResolvedExpressionTree)
resolved_perhaps scopes e = perhaps (resolved_expression scopes) e

-- the variables that a `flush` lists
abbrev pub flushed : Scopes → Option NameList → Option (List Variable)
flushed scopes None = Some []
flushed scopes (Some list) = each (variable_named scopes) (names_in list.first list.rest)

-- of a directive that stands alone; a well-formed tree has no other one there
abbrev pub resolved_alone : Scopes → Directive ExpressionTree → DirectiveName → Option ResolvedStatementTree
resolved_alone scopes d (directives.Barrier s) = Some (resolved.StandAlone d.hash alones.Barrier)
resolved_alone scopes d (directives.Taskwait s) = Some (resolved.StandAlone d.hash alones.Taskwait)
resolved_alone scopes d (directives.Taskyield s) = Some (resolved.StandAlone d.hash alones.Taskyield)
resolved_alone scopes d (directives.Flush s list) = flushed scopes list >>= λ vs. Some
    (resolved.StandAlone d.hash (alones.Flush vs))
resolved_alone scopes d _ = None

-- in the innermost `parallel` that begins there
unfoldable mutual
  pub resolved_statement : Scopes → Option ℕ → StatementTree → Option ResolvedStatementTree
  resolved_statement scopes parallel (LocalDeclaration d) = resolved_declarators scopes (declarators_of d) >>= λ ds.
      Some (resolved.Declaration d.int ds)
  resolved_statement scopes parallel (Block left items right) = resolved_statements (inside scopes) parallel items
      >>= λ ss. Some (resolved.Block left ss)
  resolved_statement scopes parallel (Empty semicolon) = Some (resolved.Empty semicolon)
  resolved_statement scopes parallel (Expression e semicolon) = resolved_expression scopes e >>= λ x. Some
      (resolved.Expression (expression_first e) x)
  resolved_statement scopes parallel (If at c s) = do
    x ← resolved_expression scopes c.value
    branch ← resolved_statement (inside scopes) parallel s
    Some (resolved.If at x branch)
  resolved_statement scopes parallel (IfElse at c s other t) = do
    x ← resolved_expression scopes c.value
    branch ← resolved_statement (inside scopes) parallel s
    otherwise ← resolved_statement (inside scopes) parallel t
    Some (resolved.IfElse at x branch otherwise)
  resolved_statement scopes parallel (While at c s) = do
    x ← resolved_expression scopes c.value
    body ← resolved_statement (inside scopes) parallel s
    Some (resolved.While at x body)
  resolved_statement scopes parallel (Do at s again c semicolon) = do
    body ← resolved_statement (inside scopes) parallel s
    x ← resolved_expression scopes c.value
    Some (resolved.Do at body x)
  resolved_statement scopes parallel (For h s) = do
    start ← resolved_start (inside scopes) h.start
    condition ← resolved_perhaps (after_for_start (inside scopes) h.start) h.condition
    step ← resolved_perhaps (after_for_start (inside scopes) h.start) h.step
    body ← resolved_statement (inside (after_for_start (inside scopes) h.start)) parallel s
    Some (resolved.For h.word start condition step body)
  resolved_statement scopes parallel (Return at value semicolon) = resolved_perhaps scopes value >>= λ x. Some
      (resolved.Return at x)
  resolved_statement scopes parallel (Break at semicolon) = Some (resolved.Break at)
  resolved_statement scopes parallel (Continue at semicolon) = Some (resolved.Continue at)
  resolved_statement scopes parallel (Construct d s) =
      if not (traits_of d.name).takes_loop
      then (resolved_clauses scopes d.clauses >>= λ cs.
      resolved_statement (in_construct d scopes) (parallel_in d parallel) s >>= λ body.
      construct_of parallel (statement_side s) d d.name cs body)
      else (resolved_clauses scopes d.clauses >>= λ cs.
      loop_in s >>= λ found. resolved_loop (round_bounds d scopes) (schedule_of d.clauses) found >>= λ l.
      resolved_repeated (in_construct d scopes) (parallel_in d parallel) found s >>= λ body. Some
      (loop_construct_of d cs l body))
  resolved_statement scopes parallel (StandAlone d) = resolved_alone scopes d d.name
  resolved_statement scopes parallel (Sections d left parts right) = do
    cs ← resolved_clauses scopes d.clauses
    ps ← resolved_parts (in_construct d scopes) (parallel_in d parallel) parts
    Some (sections_construct_of d cs ps)

  -- of the items of a block, in their order
  pub resolved_statements : Scopes → Option ℕ → StatementsTree → Option ResolvedStatementsTree
  resolved_statements scopes parallel NoStatements = Some resolved.NoStatements
  resolved_statements scopes parallel (Statement s rest) = do
    t ← resolved_statement scopes parallel s
    ts ← resolved_statements (after_statement scopes s) parallel rest
    Some (resolved.Statement t ts)

  -- of what a canonical loop repeats: the loop is a `for`
  pub resolved_repeated : Scopes → Option ℕ → Loop → StatementTree → Option ResolvedStatementTree
  resolved_repeated scopes parallel found (For h s) = resolved_statement (in_loop scopes (Some found)) parallel s
  resolved_repeated scopes parallel found _ = None

  -- of the parts of `sections`, each of which is a block of its own
  pub resolved_parts : Scopes → Option ℕ → PartsTree → Option ResolvedPartsTree
  resolved_parts scopes parallel NoParts = Some resolved.NoParts
  resolved_parts scopes parallel (Part section items rest) = do
    ss ← resolved_statements (inside scopes) parallel items
    ps ← resolved_parts scopes parallel rest
    Some (resolved.Part ss ps)

-- of a construct that is for any statement
abbrev pub resolved_plain_construct : Scopes → Option ℕ → Directive ExpressionTree → StatementTree
    → Option ResolvedStatementTree
resolved_plain_construct scopes parallel d s =
    resolved_clauses scopes d.clauses >>= λ cs.
    resolved_statement (in_construct d scopes) (parallel_in d parallel) s >>= λ body.
    construct_of parallel (statement_side s) d d.name cs body

-- of one that is for a loop, which is this one
abbrev pub resolved_loop_construct : Scopes → Option ℕ → Directive ExpressionTree → Option Loop → StatementTree
    → Option ResolvedStatementTree
resolved_loop_construct scopes parallel d perhaps_found s =
    resolved_clauses scopes d.clauses >>= λ cs.
    perhaps_found >>= λ found. resolved_loop (round_bounds d scopes) (schedule_of d.clauses) found >>= λ l.
    resolved_repeated (in_construct d scopes) (parallel_in d parallel) found s >>= λ body. Some
    (loop_construct_of d cs l body)

-- of a construct
abbrev pub resolved_construct : Scopes → Option ℕ → Directive ExpressionTree → StatementTree
    → Option ResolvedStatementTree
resolved_construct scopes parallel d s =
    if not (traits_of d.name).takes_loop then resolved_plain_construct scopes parallel d s else
    resolved_loop_construct scopes parallel d (loop_in s) s

abbrev pub resolved_sections : Scopes → Option ℕ → Directive ExpressionTree → PartsTree → Option ResolvedStatementTree
resolved_sections scopes parallel d parts = do
  cs ← resolved_clauses scopes d.clauses
  ps ← resolved_parts (in_construct d scopes) (parallel_in d parallel) parts
  Some (sections_construct_of d cs ps)

-- of a `for`
abbrev pub resolved_for : Scopes → Option ℕ → ForHeadTree → StatementTree → Option ResolvedStatementTree
resolved_for scopes parallel h s = do
  start ← resolved_start (inside scopes) h.start
  condition ← resolved_perhaps (after_for_start (inside scopes) h.start) h.condition
  step ← resolved_perhaps (after_for_start (inside scopes) h.start) h.step
  body ← resolved_statement (inside (after_for_start (inside scopes) h.start)) parallel s
  Some (resolved.For h.word start condition step body)
