-- The code of statements and directives, row by row as docs/LANGUAGE has it (*The code of each form*). An
-- instruction has the line of the first token of its statement, or of its `if`, `while`, `do` or `for`. Those of
-- a directive have the directive's, but for a loop's bounds; so have all those of an `atomic`.
use Rattle.std.specs.Prelude.{◌≡◌, ℕ, pos, List, [], ◌∷◌, Option, None, Some, Bool, true, false, length, is_some}
use Rattle.std.specs.Prelude.{slice_get}
use Rattle.std.specs.Str.{bytes_eq}
use Rattle.om_code.specs.declared.instruction.AtomicOperator.{AtomicOperator}
use Rattle.om_code.specs.declared.instruction.Barrier.{Barrier}
use Rattle.om_code.specs.declared.instruction.Barrier.TheVariants as barriers
use Rattle.om_code.specs.declared.instruction.Comparison.{Comparison}
use Rattle.om_code.specs.declared.instruction.Instr.{Instr}
use Rattle.om_code.specs.declared.instruction.Instr.TheVariants as i
use Rattle.om_code.specs.declared.instruction.Serial.TheVariants as serials
use Rattle.om_code.specs.declared.instruction.Function.TheVariants as calls
use Rattle.om_code.specs.declared.instruction.Team.TheVariants as teams
use Rattle.om_code.specs.declared.instruction.Sharing.TheVariants as sharings
use Rattle.om_code.specs.declared.instruction.Region.TheVariants as regionals
use Rattle.om_code.specs.declared.instruction.Task.TheVariants as taskings
use Rattle.om_code.specs.declared.instruction.Side.{Side}
use Rattle.om_scope_tree.specs.declared.resolved.Capture.{Capture}
use Rattle.om_scope_tree.specs.declared.resolved.ConstructKind.{ConstructKind}
use Rattle.om_scope_tree.specs.declared.resolved.ConstructKind.TheVariants as constructs
use Rattle.om_scope_tree.specs.declared.resolved.CopyKind.{CopyKind}
use Rattle.om_scope_tree.specs.declared.resolved.CopyKind.TheVariants as copies
use Rattle.om_scope_tree.specs.declared.resolved.LocalVariable.{LocalVariable}
use Rattle.om_scope_tree.specs.declared.resolved.RegionKind.TheVariants as kinds
use Rattle.om_scope_tree.specs.declared.resolved.StandAlone as alone
use Rattle.om_scope_tree.specs.declared.resolved.StandAlone.TheVariants as alones
use Rattle.om_scope_tree.specs.declared.resolved.Variable as variables
use Rattle.om_scope_tree.specs.declared.resolved.Variable.TheVariants as named
use Rattle.om_scope_tree.specs.ResolvedTree.{ResolvedExpressionTree, ResolvedDeclaratorTree, ResolvedClauseTree}
use Rattle.om_scope_tree.specs.ResolvedTree.{ClauseValue, Shared, Copied, ResolvedLoopTree, ResolvedUpdateTree}
use Rattle.om_scope_tree.specs.ResolvedTree.{ResolvedStartTree, StartNothing, StartExpression, StartDeclaration}
use Rattle.om_scope_tree.specs.ResolvedTree.{ResolvedStatementTree, Declaration, Block, Empty, Expression, If, IfElse}
use Rattle.om_scope_tree.specs.ResolvedTree.{While, Do, For, Return, Break, Continue, Region, Loop, Sections}
use Rattle.om_scope_tree.specs.ResolvedTree.{Construct, Update, StandAlone, ResolvedStatementsTree, NoStatements}
use Rattle.om_scope_tree.specs.ResolvedTree.{Statement, ResolvedPartsTree, NoParts, Part}
use Rattle.om_lower_rules.specs.Bodies.{Numbers, next_pick, behind, behind_all, region_variables}
use Rattle.om_lower_rules.specs.Expressions.{constant, value, effect}
use Rattle.om_lower_rules.specs.Mentions.{lock_name}
use Rattle.om_lower_rules.specs.Operators.{comparison_of, form_with, identity_of, reduction_of, side_of, update_of}
use Rattle.om_lower_rules.specs.Rows.{Site, Row, end, never, ins, part, here, fresh, fresh_two, fresh_three, ◌▸◌, given, perhaps, each, unless}
use Rattle.om_lower_rules.specs.Slots.{FirstCopy, first_copies, by_slots, place, slot}
use Rattle.om_lower_rules.specs.Tables.{number_in}

-- where `break` and `continue` go; outside of a loop nowhere
pub record Jumps : Type 0 where
  pub over : Option ℕ
  pub next : Option ℕ

abbrev pub nowhere : Jumps
nowhere = record { over = None; next = None }

abbrev pub in_loop : ℕ → ℕ → Jumps
in_loop over next = record { over = Some over; next = Some next }

-- the body of the directive `for`, which no `break` leaves
abbrev pub in_iteration : ℕ → Jumps
in_iteration next = record { over = None; next = Some next }

abbrev pub jump : Site → ℕ → ℕ → Row
jump at l target = ins at l (i.Serial (serials.Jump target)) ▸ end

-- ---- declarations, and the heads of loops

-- `int x;` and `int x = e;`
abbrev pub declared : Site → ℕ → LocalVariable → Option ResolvedExpressionTree → Row
declared at l x None = ins at l (i.Serial (serials.Clear (slot at x))) ▸ end
declared at l x (Some e) = part (value at l e) ▸ ins at l (i.Serial (serials.Store (place at (named.Local x.at)) false)) ▸ end

abbrev pub declarator : Site → ℕ → ResolvedDeclaratorTree → Row
declarator at l d = declared at l d.variable d.initial

abbrev pub start : Site → ℕ → ResolvedStartTree → Row
start at l StartNothing = end
start at l (StartExpression e) = effect at l e
start at l (StartDeclaration ds) = each (declarator at l) ds

-- c, JZ F
abbrev pub test : Site → ℕ → ℕ → ResolvedExpressionTree → Row
test at l f c = part (value at l c) ▸ ins at l (i.Serial (serials.JumpIfZero f)) ▸ end

-- what ends the frame of a function, with a value or without: RET and RETN, in `main` FIN with a value and FIN
abbrev pub last_instruction : (is_main has_value : Bool) → Instr
last_instruction true has_value = i.Function (calls.Finish has_value)
last_instruction false true = (i.Function calls.Return)
last_instruction false false = (i.Function calls.ReturnNothing)

-- `return e;` and `return;`
abbrev pub returned : Site → ℕ → (is_main : Bool) → Option ResolvedExpressionTree → Row
returned at l is_main None = ins at l (last_instruction is_main false) ▸ end
returned at l is_main (Some e) = part (value at l e) ▸ ins at l (last_instruction is_main true) ▸ end

-- ---- clauses

-- what the copies of a worksharing construct begin with, in clause order
abbrev pub copy_start : Site → ℕ → CopyKind → variables.Variable → LocalVariable → Row
copy_start at l copies.Private x copy = ins at l (i.Serial (serials.Clear (slot at copy))) ▸ end
copy_start at l copies.Firstprivate x copy =
    ins at l (i.Serial (serials.Load (place at x))) ▸ ins at l (i.Serial (serials.Store (place at (named.Local copy.at)) false)) ▸ end
copy_start at l (copies.Reduction o) x copy =
    ins at l (i.Serial (serials.Constant (identity_of o))) ▸ ins at l (i.Serial (serials.Store (place at (named.Local copy.at)) false)) ▸ end

abbrev pub clause_start : Site → ℕ → ResolvedClauseTree → Row
clause_start at l (ClauseValue kind e) = end
clause_start at l (Shared x) = end
clause_start at l (Copied kind x copy) = copy_start at l kind x copy

abbrev pub starts : Site → ℕ → List ResolvedClauseTree → Row
starts at l clauses = each (clause_start at l) clauses

-- those of the copies of a `parallel` that are combined: its frame is new, and FORK gives the firstprivate
-- ones their values
abbrev pub reduction_start : Site → ℕ → CopyKind → variables.Variable → LocalVariable → Row
reduction_start at l copies.Private x copy = end
reduction_start at l copies.Firstprivate x copy = end
reduction_start at l (copies.Reduction o) x copy = copy_start at l (copies.Reduction o) x copy

abbrev pub clause_reduction_start : Site → ℕ → ResolvedClauseTree → Row
clause_reduction_start at l (ClauseValue kind e) = end
clause_reduction_start at l (Shared x) = end
clause_reduction_start at l (Copied kind x copy) = reduction_start at l kind x copy

abbrev pub reduction_starts : Site → ℕ → List ResolvedClauseTree → Row
reduction_starts at l clauses = each (clause_reduction_start at l) clauses

-- RED each, in clause order
abbrev pub combine_copy : Site → ℕ → CopyKind → variables.Variable → LocalVariable → Row
combine_copy at l copies.Private x copy = end
combine_copy at l copies.Firstprivate x copy = end
combine_copy at l (copies.Reduction o) x copy = ins at l (i.Sharing (sharings.Reduce (reduction_of o) (slot at copy) (place at x))) ▸ end

abbrev pub combine_clause : Site → ℕ → ResolvedClauseTree → Row
combine_clause at l (ClauseValue kind e) = end
combine_clause at l (Shared x) = end
combine_clause at l (Copied kind x copy) = combine_copy at l kind x copy

abbrev pub reductions : Site → ℕ → List ResolvedClauseTree → Row
reductions at l clauses = each (combine_clause at l) clauses

-- the value of `num_threads` or `filter`
abbrev pub clause_value : List ResolvedClauseTree → Option ResolvedExpressionTree
clause_value [] = None
clause_value (ClauseValue kind e ∷ rest) = Some e
clause_value (_ ∷ rest) = clause_value rest

-- the firstprivate copies of a `parallel` or a `task`, by their slots in its body, whose values are loaded in
-- this order
abbrev pub given_copies : List ResolvedClauseTree → List Capture → ResolvedStatementTree → List FirstCopy
given_copies clauses captures s = by_slots (region_variables clauses s) (first_copies clauses captures)

abbrev pub load_original : Site → ℕ → FirstCopy → Row
load_original at l copy = ins at l (i.Serial (serials.Load (place at copy.original))) ▸ end

-- ---- the ends of constructs

-- ARRIVE, DEPART
abbrev pub barrier : Site → ℕ → Barrier → Row
barrier at l kind = ins at l (i.Team (teams.Arrive kind)) ▸ ins at l (i.Team (teams.Depart kind)) ▸ end

-- the end of a worksharing construct: all wait for each other, unless it is `nowait`
abbrev pub worksharing_end : Site → ℕ → (nowait : Bool) → Row
worksharing_end at l nowait = ins at l (i.Sharing sharings.EndWorksharing) ▸ unless nowait (barrier at l barriers.Worksharing)

-- what stands behind a worksharing loop, or behind the parts of `sections`: RED each, ENDW, and without `nowait`
-- ARRIVE and DEPART of the barrier of worksharing
abbrev pub closes : Site → ℕ → List ResolvedClauseTree → (nowait : Bool) → Row
closes at l clauses nowait = part (reductions at l clauses) ▸ worksharing_end at l nowait

-- ---- directives that stand alone

abbrev pub alone_row : Site → ℕ → alone.StandAlone → Row
alone_row at l alones.Barrier = barrier at l barriers.Explicit
alone_row at l alones.Taskwait = ins at l (i.Task taskings.WaitBegin) ▸ ins at l (i.Task taskings.WaitEnd) ▸ end
alone_row at l alones.Taskyield = ins at l (i.Task taskings.Yield) ▸ end
alone_row at l (alones.Flush vs) = ins at l (i.Serial serials.Nop) ▸ end

-- ---- constructs round a part

abbrev pub filter_row : Site → ℕ → Option ResolvedExpressionTree → Row
filter_row at l None = constant at l (pos 0)
filter_row at l (Some e) = value at l e

abbrev pub single_row : Site → ℕ → (nowait : Bool) → List ResolvedClauseTree → Row → Row
single_row at l nowait clauses body = fresh (λ e.
    ins at l (i.Sharing (sharings.Single e)) ▸ part (starts at l clauses) ▸ part body ▸ here e ▸ worksharing_end at l nowait)

abbrev pub masked_row : Site → ℕ → List ResolvedClauseTree → Row → Row
masked_row at l clauses body = fresh (λ e.
    part (filter_row at l (clause_value clauses)) ▸ ins at l (i.Region (regionals.Masked e)) ▸ part body ▸ ins at l (i.Region regionals.EndMasked)
    ▸ here e ▸ end)

abbrev pub lock_number : Site → Option (List ℕ) → ℕ
lock_number at name = number_in (bytes_eq (lock_name name)) at.locks

abbrev pub critical_row : Site → ℕ → Option (List ℕ) → Row → Row
critical_row at l name body =
    ins at l (i.Region (regionals.AskCritical (lock_number at name))) ▸ ins at l (i.Region (regionals.EnterCritical (lock_number at name)))
    ▸ part body ▸ ins at l (i.Region (regionals.LeaveCritical (lock_number at name))) ▸ end

-- (index,) e, ATOM or ATOMX
abbrev pub updated : Site → ℕ → variables.Variable → Option ResolvedExpressionTree → AtomicOperator → Side
    → ResolvedExpressionTree → Row
updated at l x None operator side e = part (value at l e) ▸ ins at l (i.Serial (serials.Atomic operator side (place at x))) ▸ end
updated at l x (Some j) operator side e =
    part (value at l j) ▸ part (value at l e) ▸ ins at l (i.Serial (serials.AtomicElement operator side (place at x))) ▸ end

abbrev pub update_row : Site → ℕ → ResolvedUpdateTree → Row
update_row at l u = updated at l u.variable u.index (update_of u.operator) (side_of u.side) u.operand

-- a read and a write are their assignments, at the directive's line
abbrev pub assignment_row : Site → ℕ → ResolvedStatementTree → Row
assignment_row at l (Expression first e) = effect at l e
assignment_row at l _ = never

-- TGB, body, TGE
abbrev pub group_row : Site → ℕ → Row → Row
group_row at l body = ins at l (i.Task taskings.GroupBegin) ▸ part body ▸ ins at l (i.Task taskings.GroupEnd) ▸ end

-- round a statement, whose code is this
abbrev pub construct_row : Site → ℕ → ConstructKind → List ResolvedClauseTree → ResolvedStatementTree → Row → Row
construct_row at l (constructs.Single nowait) clauses s body = single_row at l nowait clauses body
construct_row at l constructs.Masked clauses s body = masked_row at l clauses body
construct_row at l (constructs.Critical name) clauses s body = critical_row at l name body
construct_row at l (constructs.Atomic access) clauses s body = assignment_row at l s
construct_row at l constructs.Taskgroup clauses s body = group_row at l body

-- lb, ub, starts, LOOP, G: GRAB E, I: ITER i G, body, JMP I, E: RED each, ENDW, ARRIVE, DEPART
abbrev pub loop_rest : Site → ℕ → List ResolvedClauseTree → (nowait : Bool) → ResolvedLoopTree → (ℕ → Row)
    → Comparison → Row
loop_rest at l clauses nowait loop body comparison = fresh_three (λ chunk next over.
    part (value at loop.at.line loop.from) ▸ part (value at loop.at.line loop.to) ▸ part (starts at l clauses)
    ▸ ins at l (i.Sharing (sharings.Loop (form_with loop comparison)))
    ▸ here chunk ▸ ins at l (i.Sharing (sharings.Grab over))
    ▸ here next ▸ ins at l (i.Sharing (sharings.Iterate (slot at loop.variable) chunk)) ▸ part (body next) ▸ ins at l (i.Serial (serials.Jump next))
    ▸ here over ▸ closes at l clauses nowait)

-- a canonical loop compares by `<`, `<=`, `>` or `>=`
abbrev pub loop_row : Site → ℕ → List ResolvedClauseTree → (nowait : Bool) → ResolvedLoopTree → (ℕ → Row) → Row
loop_row at l clauses nowait loop body = given (comparison_of loop.comparison) (loop_rest at l clauses nowait loop body)

-- starts, SECT n, G: GRAB E, PICK, each section and JMP G, E: RED each, ENDW, ARRIVE, DEPART
abbrev pub sections_row : Site → ℕ → ℕ → List ResolvedClauseTree → (nowait : Bool) → (List ℕ → ℕ → Row) → Row
sections_row at l pick clauses nowait parts = λ p q. (places : List ℕ) × (grab over : ℕ) ×
    (slice_get at.picks pick ≡ Some places) ×
    (part (starts at l clauses) ▸ ins at l (i.Sharing (sharings.Sections (length places)))
    ▸ here grab ▸ ins at l (i.Sharing (sharings.Grab over)) ▸ ins at l (i.Sharing (sharings.Pick pick)) ▸ part (parts places grab)
    ▸ here over ▸ closes at l clauses nowait) p q

-- ---- regions, whose bodies stand by themselves

-- num_threads value, firstprivate loads, FORK b
abbrev pub parallel_row : Site → ℕ → ℕ → Option ResolvedExpressionTree → List FirstCopy → Row
parallel_row at l body size copies =
    part (perhaps (value at l) size) ▸ part (each (load_original at l) copies)
    ▸ ins at l (i.Team (teams.Fork body (is_some size) (length copies))) ▸ end

-- firstprivate loads, SPAWN b
abbrev pub task_row : Site → ℕ → ℕ → List FirstCopy → Row
task_row at l body copies = part (each (load_original at l) copies) ▸ ins at l (i.Task (taskings.Spawn body (length copies))) ▸ end

-- ---- the parts of `sections`

-- the next place is that of a part
abbrev pub with_place : List ℕ → (ℕ → List ℕ → Row) → Row
with_place [] row = never
with_place (place ∷ places) row = row place places

-- there is no further part
abbrev pub no_place : List ℕ → Row
no_place [] = end
no_place (place ∷ places) = never

-- ---- statements; the numbers are those of the next body and the next list of PICK in it

abbrev mutual
  pub statement : Site → Numbers → ResolvedStatementTree → Jumps → Row
  statement at n (Declaration first ds) jumps = each (declarator at first.line) ds
  statement at n (Block first items) jumps = statements at n items jumps
  statement at n (Empty first) jumps = end
  statement at n (Expression first e) jumps = effect at first.line e
  statement at n (If first c s) jumps = fresh (λ e.
      part (value at first.line c) ▸ ins at first.line (i.Serial (serials.JumpIfZero e)) ▸ part (statement at n s jumps)
      ▸ here e ▸ end)
  statement at n (IfElse first c s t) jumps = fresh_two (λ other e.
      part (value at first.line c) ▸ ins at first.line (i.Serial (serials.JumpIfZero other))
      ▸ part (statement at n s jumps) ▸ ins at first.line (i.Serial (serials.Jump e))
      ▸ here other ▸ part (statement at (behind n s) t jumps) ▸ here e ▸ end)
  statement at n (While first c s) jumps = fresh_two (λ again e.
      here again ▸ part (value at first.line c) ▸ ins at first.line (i.Serial (serials.JumpIfZero e))
      ▸ part (statement at n s (in_loop e again)) ▸ ins at first.line (i.Serial (serials.Jump again)) ▸ here e ▸ end)
  statement at n (Do first s c) jumps = fresh_three (λ again next e.
      here again ▸ part (statement at n s (in_loop e next))
      ▸ here next ▸ part (value at first.line c) ▸ ins at first.line (i.Serial (serials.JumpIfZero e))
      ▸ ins at first.line (i.Serial (serials.Jump again)) ▸ here e ▸ end)
  statement at n (For first begin c step s) jumps = fresh_three (λ again next e.
      part (start at first.line begin) ▸ here again ▸ part (perhaps (test at first.line e) c)
      ▸ part (statement at n s (in_loop e next))
      ▸ here next ▸ part (perhaps (effect at first.line) step) ▸ ins at first.line (i.Serial (serials.Jump again)) ▸ here e ▸ end)
  statement at n (Return first e) jumps = returned at first.line at.is_main e
  statement at n (Break first) jumps = given jumps.over (jump at first.line)
  statement at n (Continue first) jumps = given jumps.next (jump at first.line)
  statement at n (Region first kinds.Parallel clauses captures s) jumps =
      parallel_row at first.line n.bodies (clause_value clauses) (given_copies clauses captures s)
  statement at n (Region first kinds.Task clauses captures s) jumps = task_row at first.line n.bodies
      (given_copies clauses captures s)
  statement at n (Loop first clauses nowait loop s) jumps =
      loop_row at first.line clauses nowait loop (λ next. statement at n s (in_iteration next))
  statement at n (Sections first clauses nowait sections) jumps =
      sections_row at first.line n.picks clauses nowait (λ places grab. parts at (next_pick n) first.line grab
      sections places)
  statement at n (Construct first kind clauses s) jumps = construct_row at first.line kind clauses s
      (statement at n s nowhere)
  statement at n (Update first u) jumps = update_row at first.line u
  statement at n (StandAlone first directive) jumps = alone_row at first.line directive

  -- one behind the other
  pub statements : Site → Numbers → ResolvedStatementsTree → Jumps → Row
  statements at n NoStatements jumps = end
  statements at n (Statement s rest) jumps = part (statement at n s jumps) ▸ statements at (behind n s) rest jumps

  -- the parts of `sections`, which begin at these places; behind each a JMP leads to the next section
  pub parts : Site → Numbers → ℕ → ℕ → ResolvedPartsTree → List ℕ → Row
  parts at n l grab NoParts places = no_place places
  parts at n l grab (Part items rest) places =
      with_place places (λ place places.
      here place ▸ part (statements at n items nowhere) ▸ ins at l (i.Serial (serials.Jump grab)) ▸ parts at (behind_all n items) l
      grab rest places)
