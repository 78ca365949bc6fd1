-- Stretches of rows: what stands before the statement of a form, and what stands behind it.
use Rattle.std.specs.Prelude.{◌≡◌, ◌≤◌, ◌<◌, ℕ, List, Option, Some, None, Bool, false, IfOk, IfSome, length}
use Rattle.std.specs.Prelude.{OnOk, Result, map, option_map, slice_get}
use Rattle.om_code.specs.declared.instruction.Instr.TheVariants as i
use Rattle.om_code.specs.declared.instruction.Serial.TheVariants as serials
use Rattle.om_code.specs.declared.instruction.Team.TheVariants as teams
use Rattle.om_code.specs.declared.instruction.Sharing.TheVariants as sharings
use Rattle.om_code.specs.declared.instruction.Region.TheVariants as regionals
use Rattle.om_code.specs.declared.instruction.Task.TheVariants as taskings
use Rattle.om_code.specs.declared.instruction.Comparison.{Comparison}
use Rattle.om_lower_emit.specs.declared.spot.LoopLabels.{LoopLabels}
use Rattle.om_lower_emit.specs.declared.spot.TurnLabels.{TurnLabels}
use Rattle.om_lower_emit.specs.declared.writing.Writing.{Writing}
use Rattle.om_lower_emit.specs.Drafts.{Written, Fresh}
use Rattle.om_lower_emit.specs.declared.spot.Here.{Here}
use Rattle.om_lower_emit.specs.Emits.{Appends, Part, names_at, site, Goes, Emits, EmitsRow}
use Rattle.om_pragma.specs.declared.clause.ReductionOperator.{ReductionOperator}
use Rattle.om_scope_tree.specs.declared.resolved.ConstructKind.{ConstructKind}
use Rattle.om_scope_tree.specs.declared.resolved.ConstructKind.TheVariants as constructs
use Rattle.om_scope_tree.specs.declared.resolved.LocalVariable.{LocalVariable}
use Rattle.om_scope_tree.specs.declared.resolved.ResolvedClause.{ResolvedClause}
use Rattle.om_scope_tree.specs.declared.resolved.ResolvedExpression.{ResolvedExpression}
use Rattle.om_scope_tree.specs.declared.resolved.ResolvedStatement.{ResolvedStatement}
use Rattle.om_scope_tree.specs.declared.resolved.Variable as variables
use Rattle.om_scope_tree.specs.declared.resolved.Variable.TheVariants as named
use Rattle.om_scope_tree.specs.ResolvedTree.{ResolvedExpressionTree, ResolvedClauseTree, ResolvedLoopTree}
use Rattle.om_scope_tree.specs.ResolvedTree.{ResolvedStartTree, ResolvedStatementTree}
use Rattle.om_scope_tree.specs.ResolvedView as view
use Rattle.om_lower_rules.specs.Coded.{ValueHasCode}
use Rattle.om_lower_rules.specs.Expressions.{value, effect}
use Rattle.om_lower_rules.specs.Operators.{comparison_of, form_with, identity_of}
use Rattle.om_lower_rules.specs.Rows.{Site, Row, end, never, ins, part, here, fresh, ◌▸◌, given, perhaps}
use Rattle.om_lower_rules.specs.Slots.{place, slot}
use Rattle.om_lower_rules.specs.Statements.{test, start, starts, filter_row, lock_number, worksharing_end}
use Rattle.om_lower_rules.specs.Statements.{clause_reduction_start, clause_value, jump, reduction_starts}
use Rattle.om_lower_rules.specs.Numbered.{Numbered}

-- ---- rows that name no label

-- a row is written that is the same in every body
abbrev pub EmitsAnywhere : (Site → Row) → Written → Written → Type 0
EmitsAnywhere row old new = (names : Numbered) → EmitsRow names row old new

-- a function writes it, unless memory runs out
abbrev pub AppendsAnywhere : {T E : Type 0} → Result T E → (Site → Row) → Written → Written → Type 0
AppendsAnywhere result row old new = OnOk result (EmitsAnywhere row old new)

-- a function writes the row of a clause there, and those of clauses, unless memory runs out
abbrev pub AppendsClause : {T E : Type 0} → Result T E → Here → (row : Site → ℕ → ResolvedClauseTree → Row)
    → ResolvedClause → Writing → Writing → Type 0
AppendsClause result here row clause old new = Appends result here row (view.clause clause) old.draft new.draft

abbrev pub AppendsClauses : {T E : Type 0} → Result T E → Here → (row : Site → ℕ → List ResolvedClauseTree → Row)
    → List ResolvedClause → Writing → Writing → Type 0
AppendsClauses result here row clauses old new =
    Appends result here row (map view.clause clauses) old.draft new.draft

-- a function writes there what the copy of a reduction begins with in the body of a `parallel`, unless memory runs
-- out; of another clause it writes nothing
abbrev pub BeginsReduction : {T E : Type 0} → Result T E → Here → ResolvedClause → Written → Written → Type 0
BeginsReduction result here clause old new = Appends result here clause_reduction_start (view.clause clause) old new

-- a function writes there what the copies of all reductions begin with, unless memory runs out
abbrev pub BeginsReductions : {T E : Type 0} → Result T E → Here → List ResolvedClause → Writing → Writing → Type 0
BeginsReductions result here clauses old new =
    Appends result here reduction_starts (map view.clause clauses) old.draft new.draft

-- a function writes the row of a statement there, unless memory runs out
abbrev pub AppendsStatement : {T E : Type 0} → Result T E → Here → (row : Site → ℕ → ResolvedStatementTree → Row)
    → ResolvedStatement → Written → Written → Type 0
AppendsStatement result here row statement old new = Appends result here row (view.statement statement) old new

-- the value of `num_threads` or `filter`, where one of these clauses has one
abbrev pub value_in : List ResolvedClause → Option ResolvedExpressionTree
value_in clauses = clause_value (map view.clause clauses)

-- a copy of a reduction begins with the operator's identity, and a firstprivate one with its original's value
abbrev pub identity_start : Site → ℕ → ReductionOperator → LocalVariable → Row
identity_start at l operator copy =
    ins at l (i.Serial (serials.Constant (identity_of operator))) ▸ ins at l (i.Serial (serials.Store (place at (named.Local copy.at)) false)) ▸ end

abbrev pub original_start : Site → ℕ → variables.Variable → LocalVariable → Row
original_start at l original copy =
    ins at l (i.Serial (serials.Load (place at original))) ▸ ins at l (i.Serial (serials.Store (place at (named.Local copy.at)) false)) ▸ end

-- the bounds of a worksharing loop, and what its copies begin with
abbrev pub bounds_row : ℕ → List ResolvedClauseTree → ResolvedLoopTree → Site → Row
bounds_row l clauses loop at = part (value at loop.at.line loop.from) ▸ part (value at loop.at.line loop.to) ▸
    starts at l clauses

-- FORK and SPAWN
abbrev pub fork_row : ℕ → ℕ → Bool → ℕ → Site → Row
fork_row l body sized values at = ins at l (i.Team (teams.Fork body sized values)) ▸ end

abbrev pub spawn_row : ℕ → ℕ → ℕ → Site → Row
spawn_row l body values at = ins at l (i.Task (taskings.Spawn body values)) ▸ end

-- ---- stretches whose labels are placed later

-- a stretch is written, and this label, which is none of those below n, is still to be placed
pub record Opens (n label : ℕ) (r : Part) (old new : Written) : Type 0 where
  pub goes : Goes n r old new
  pub above : n ≤ label
  pub free : slice_get new.places label ≡ Some None

-- the same, where the label is none of those from before
abbrev pub Begins : (label : ℕ) → Part → Written → Written → Type 0
Begins label r old new = Opens (length old.places) label r old new

-- the same, with two labels that are still to be placed
pub record BeginsTurn (labels : TurnLabels) (r : Part) (old new : Written) : Type 0 where
  pub next : Begins labels.next r old new
  pub over : Begins labels.over r old new
  pub apart : labels.next < labels.over

-- a stretch is written, which places this label and perhaps some above it
abbrev pub Ends : ℕ → Part → Written → Written → Type 0
Ends label r old new = Goes label r old new

-- a function writes the head of a loop there, unless memory runs out, and then the label behind the loop is still
-- to be placed
abbrev pub AppendsHead : {E X : Type 0} → Result LoopLabels E → Here → (Numbered → ℕ → X → LoopLabels → Part)
    → X → Written → Written → Type 0
AppendsHead result here head x old new =
    IfOk result (λ labels. Begins labels.over (head (names_at here) here.at.line x labels) old new)

-- a function writes what ends a form there, unless memory runs out, and places this label and perhaps some above it
abbrev pub AppendsEnd : {T E X : Type 0} → Result T E → Here → (label : ℕ) → (Numbered → ℕ → X → Part) → X
    → Written → Written → Type 0
AppendsEnd result here label row x old new = OnOk result (Ends label (row (names_at here) here.at.line x) old new)

-- three labels are new
pub record FreshTurn (labels : TurnLabels) (old new : Written) : Type 0 where
  pub second : Written
  pub third : Written
  pub again : Fresh labels.again old second
  pub next : Fresh labels.next second third
  pub over : Fresh labels.over third new

-- c, JZ E
abbrev pub test_at : Numbered → ℕ → (otherwise : ℕ) → ResolvedExpressionTree → Part
test_at names l otherwise c done at = test (site names done) l (at otherwise) c

abbrev pub EmitsTest : Numbered → ℕ → (otherwise : ℕ) → ResolvedExpressionTree → Written → Written → Type 0
EmitsTest names l otherwise c = Emits (test_at names l otherwise c)

abbrev pub EmitsPerhapsTest : Numbered → ℕ → (otherwise : ℕ) → Option ResolvedExpressionTree → Written → Written
    → Type 0
EmitsPerhapsTest names l otherwise c = Emits (λ done at. perhaps (test (site names done) l (at otherwise)) c)

-- a function writes a test there, and one that may be left out, unless memory runs out
abbrev pub AppendsTest : {T E : Type 0} → Result T E → Here → (otherwise : ℕ) → ResolvedExpression → Written → Written
    → Type 0
AppendsTest result here otherwise c old new =
    OnOk result (EmitsTest (names_at here) here.at.line otherwise (view.expression c) old new)

abbrev pub AppendsPerhapsTest : {T E : Type 0} → Result T E → Here → (otherwise : ℕ) → Option ResolvedExpression
    → Written → Written → Type 0
AppendsPerhapsTest result here otherwise c old new =
    OnOk result (EmitsPerhapsTest (names_at here) here.at.line otherwise (option_map view.expression c) old new)

-- `break` and `continue`: JMP to a label that is there
abbrev pub EmitsJump : ℕ → Option ℕ → Written → Written → Type 0
EmitsJump l label old new = (names : Numbered)
    → Emits (λ done at. given (option_map at label) (jump (site names done) l)) old new

-- JMP E, L:
abbrev pub else_begin : Numbered → ℕ → (head behind : ℕ) → Part
else_begin names l head behind done at = ins (site names done) l (i.Serial (serials.Jump (at behind))) ▸ here (at head) ▸ end

-- L: c, JZ E
abbrev pub while_begin : Numbered → ℕ → ResolvedExpressionTree → LoopLabels → Part
while_begin names l c labels done at = here (at labels.again) ▸ test (site names done) l (at labels.over) c

-- JMP L, E:
abbrev pub loop_end : Numbered → ℕ → LoopLabels → Part
loop_end names l labels done at = ins (site names done) l (i.Serial (serials.Jump (at labels.again))) ▸ here (at labels.over) ▸ end

abbrev pub loop_labels : TurnLabels → LoopLabels
loop_labels labels = record { again = labels.again; over = labels.over }

-- L:
abbrev pub do_begin : TurnLabels → Part
do_begin labels done at = here (at labels.again) ▸ end

-- C: c, JZ E, JMP L, E:
abbrev pub do_end : Numbered → ℕ → TurnLabels → ResolvedExpressionTree → Part
do_end names l labels c done at =
    here (at labels.next) ▸ part (test (site names done) l (at labels.over) c) ▸ loop_end names l
    (loop_labels labels) done at

-- i, L: c, JZ E
abbrev pub for_begin : Numbered → ℕ → ResolvedStartTree → Option ResolvedExpressionTree → TurnLabels → Part
for_begin names l begin c labels done at =
    part (start (site names done) l begin) ▸ here (at labels.again) ▸ perhaps
    (test (site names done) l (at labels.over)) c

-- C: p, JMP L, E:
abbrev pub for_end : Numbered → ℕ → TurnLabels → Option ResolvedExpressionTree → Part
for_end names l labels step done at =
    here (at labels.next) ▸ part (perhaps (effect (site names done) l) step) ▸ loop_end names l (loop_labels labels)
    done at

-- bounds and starts, LOOP, G: GRAB E, I: ITER i G
abbrev pub worksharing_rest : Numbered → ℕ → List ResolvedClauseTree → ResolvedLoopTree → LoopLabels → (chunk : ℕ)
    → Comparison → Part
worksharing_rest names l clauses loop labels chunk comparison done at =
    part (bounds_row l clauses loop (site names done)) ▸ ins (site names done) l (i.Sharing (sharings.Loop (form_with loop comparison)))
    ▸ here (at chunk) ▸ ins (site names done) l (i.Sharing (sharings.Grab (at labels.over)))
    ▸ here (at labels.again) ▸ ins (site names done) l (i.Sharing (sharings.Iterate (slot (site names done) loop.variable) (at chunk)))
    ▸ end

abbrev pub worksharing_begin : Numbered → ℕ → List ResolvedClauseTree → ResolvedLoopTree → LoopLabels → Part
worksharing_begin names l clauses loop labels done at = fresh (λ chunk.
    given (comparison_of loop.comparison) (λ comparison. worksharing_rest names l clauses loop labels chunk
    comparison done at))

-- the list of a PICK by its number in the program, and how many parts it has
pub record Parts : Type 0 where
  pub number : ℕ
  pub count : ℕ

-- starts, SECT n, G: GRAB E, PICK
abbrev pub sections_begin : Numbered → ℕ → List ResolvedClauseTree → Parts → LoopLabels → Part
sections_begin names l clauses sections labels done at =
    part (starts (site names done) l clauses) ▸ ins (site names done) l (i.Sharing (sharings.Sections sections.count))
    ▸ here (at labels.again) ▸ ins (site names done) l (i.Sharing (sharings.Grab (at labels.over))) ▸ ins (site names done) l
    (i.Sharing (sharings.Pick sections.number)) ▸ end

-- what stands before the statement of a construct that is no `atomic`
abbrev pub construct_begin : Numbered → ℕ → ConstructKind → List ResolvedClauseTree → (label : ℕ) → Part
construct_begin names l (constructs.Single nowait) clauses label done at =
    ins (site names done) l (i.Sharing (sharings.Single (at label))) ▸ starts (site names done) l clauses
construct_begin names l constructs.Masked clauses label done at =
    part (filter_row (site names done) l (clause_value clauses)) ▸ ins (site names done) l (i.Region (regionals.Masked (at label))) ▸ end
construct_begin names l (constructs.Critical name) clauses label done at =
    ins (site names done) l (i.Region (regionals.AskCritical (lock_number (site names done) name)))
    ▸ ins (site names done) l (i.Region (regionals.EnterCritical (lock_number (site names done) name))) ▸ end
construct_begin names l (constructs.Atomic access) clauses label done at = never
construct_begin names l constructs.Taskgroup clauses label done at = ins (site names done) l (i.Task taskings.GroupBegin) ▸ end

-- a function writes it there, unless memory runs out, and gives the label that is still to be placed
abbrev pub BeginsConstruct : {E : Type 0} → Result ℕ E → Here → ConstructKind → List ResolvedClause → Writing → Writing
    → Type 0
BeginsConstruct result here kind clauses old new =
    let begin = construct_begin (names_at here) here.at.line kind (map view.clause clauses) in
    IfOk result (λ label. Begins label (begin label) old.draft new.draft)

-- what stands behind it
abbrev pub construct_end : Numbered → ℕ → ConstructKind → (label : ℕ) → Part
construct_end names l (constructs.Single nowait) label done at = here (at label) ▸ worksharing_end (site names done)
    l nowait
construct_end names l constructs.Masked label done at = ins (site names done) l (i.Region regionals.EndMasked) ▸ here (at label) ▸ end
construct_end names l (constructs.Critical name) label done at =
    ins (site names done) l (i.Region (regionals.LeaveCritical (lock_number (site names done) name))) ▸ end
construct_end names l (constructs.Atomic access) label done at = never
construct_end names l constructs.Taskgroup label done at = ins (site names done) l (i.Task taskings.GroupEnd) ▸ end

-- a function writes it there, unless memory runs out, and places the label, unless the construct has no use for one
abbrev pub EndsConstruct : {T E : Type 0} → Result T E → Here → ConstructKind → (label : ℕ) → Written → Written → Type 0
EndsConstruct result here kind label old new =
    AppendsEnd result here label (λ names l. construct_end names l kind) label old new

abbrev pub IsNoAtomic : ConstructKind → Type 0
IsNoAtomic (constructs.Atomic access) = ⊥
IsNoAtomic _ = Unit {0}

-- a construct that is no `atomic`, with a filter that has code
abbrev pub BeginHasCode : ConstructKind → List ResolvedClauseTree → Type 0
BeginHasCode (constructs.Atomic access) clauses = ⊥
BeginHasCode constructs.Masked clauses = IfSome (clause_value clauses) ValueHasCode
BeginHasCode _ clauses = Unit {0}
