-- All that stands in a body, one thing behind the other.
use Rattle.std.proofs.Common.{◌≡◌, ℕ, List, Bool, true, false, None, ◌≤◌, length, sym, subst, arith}
use Rattle.om_lower.specs.Emitted.{EmitsBody, EmitsRegion}
use Rattle.om_code.specs.declared.instruction.Barrier.TheVariants as barriers
use Rattle.om_code.specs.declared.instruction.Instr.{Instr}
use Rattle.om_code.specs.declared.instruction.Instr.TheVariants as i
use Rattle.om_code.specs.declared.instruction.Function.TheVariants as calls
use Rattle.om_code.specs.declared.instruction.Team.TheVariants as teams
use Rattle.om_code.specs.declared.instruction.Task.TheVariants as taskings
use Rattle.om_lower_emit.specs.Drafts.{Labels, Puts, Written}
use Rattle.om_lower_emit.specs.Emits.{Emits, EmitsRow, Finished, Goes, Part, site}
use Rattle.om_lower_emit.specs.Writing.{goes_end, goes_put}
use Rattle.om_lexer.specs.declared.token.Span.{Span}
use Rattle.om_scope_tree.specs.declared.resolved.Capture.{Capture}
use Rattle.om_scope_tree.specs.ResolvedTree.{ResolvedClauseTree, ResolvedFunctionTree, ResolvedStatementTree}
use Rattle.om_scope_tree.specs.ResolvedTree.{ResolvedStatementsTree}
use Rattle.om_lower_rules.specs.Bodies.{FunctionBody, RegionBody}
use Rattle.om_lower_rules.specs.Rows.{end, ins, part}
use Rattle.om_lower_rules.specs.Statements.{last_instruction, nowhere, reduction_starts, reductions, statement, statements}
use Rattle.om_lower_emit.specs.declared.spot.JumpLabels.{JumpLabels}
use Rattle.om_lower_emit.specs.declared.spot.Spot.{Spot}
use Rattle.om_lower_emit.specs.Statements.{EmitsStatement, EmitsStatements, EmitsWith}
use Rattle.om_scope_tree.specs.declared.resolved.LocalVariable.{LocalVariable}
use Rattle.om_scope_tree.specs.declared.resolved.RegionKind.TheVariants as kinds
use Rattle.om_lower_rules.specs.Scopes.{after, all_scopes, before, block, body_scopes, both, each_scope, instructions}
use Rattle.om_lower_rules.specs.Scopes.{parameter_scope, scopes, task_scope, team_scope}
use Rattle.om_lower_emit.specs.declared.writing.ScopeStack.{ScopeStack}
use Rattle.om_lower_emit.specs.Going.{before_with, goes_then, with_as, with_behind, writes_then}
use Rattle.om_lower_emit.specs.Scoped.{EndsScopes, ScopesStand}
use Rattle.om_lower_emit.specs.Scoping.{stand_after, stand_before, stand_block, stand_both, writes_as, writes_put}
use Rattle.om_lower_rules.specs.declared.tables.Numbers as tables
use Rattle.om_lower_rules.specs.Numbered.{Numbered}
use Rattle.om_lower_rules.specs.Numbering.{numbers_of}

-- outside of loops
abbrev no_jumps : JumpLabels
no_jumps = record { over = None; next = None }

abbrev IsOutside : tables.Numbers → Spot → Type 0
IsOutside numbers spot = spot ≡ record { numbers = numbers; jumps = no_jumps }

-- ---- one thing, and what stands behind it

part_then : (xs : List ℕ) (r s : Part) (a b c : Written) → EmitsWith xs r a b → Emits s b c
    → EmitsWith xs (λ done at. part (r done at) (s done at)) a c
part_then xs r s a b c e g = with_behind _ _ _ xs r s a b c (omega arith) e.more e g

last_two : (names : Numbered) (l : ℕ) (a b c : Written) → Puts l (i.Team (teams.Arrive barriers.Parallel)) a b
    → Puts l (i.Team teams.Leave) b c
    → EmitsRow names (λ at. ins at l (i.Team (teams.Arrive barriers.Parallel)) (ins at l (i.Team teams.Leave) end)) a c
last_two names l a b c arrive leave =
    goes_put names _ l (i.Team (teams.Arrive barriers.Parallel)) (λ done at. ins (site names done) l (i.Team teams.Leave) end) a b c arrive
    (goes_put names _ l (i.Team teams.Leave) (λ done at. end) b c c leave (goes_end _ c))

last_one : (names : Numbered) (l : ℕ) (main : Bool) (a b : Written) → Puts l (last_instruction main false) a b
    → EmitsRow names (λ at. ins at l (last_instruction main false) end) a b
last_one names l true a b put = goes_put names _ l (i.Function (calls.Finish false)) (λ done at. end) a b b put (goes_end _ b)
last_one names l false a b put = goes_put names _ l (i.Function calls.ReturnNothing) (λ done at. end) a b b put (goes_end _ b)

-- ---- bodies

pub function_emits : (names : Numbered) (f : ResolvedFunctionTree) (numbers : tables.Numbers) (spot : Spot)
    (items : ResolvedStatementsTree) (last : Instr) (a b c : Written)
    → IsOutside numbers spot → items ≡ f.body → last ≡ last_instruction names.is_main false
    → EmitsStatements names (numbers_of spot.numbers) items spot.jumps a b → Puts f.closing_line last b c
    → EmitsBody names (numbers_of numbers) f FunctionBody a c
function_emits names f numbers spot items last a b c outside all ends emitted put =
    let here = subst (λ s. EmitsStatements names (numbers_of s.numbers) items s.jumps a b) outside emitted in
    let whole = subst (λ xs. EmitsStatements names (numbers_of numbers) xs no_jumps a b) all here in
    let closed = subst (λ x. Puts f.closing_line x b c) ends put in
    part_then _ (λ done at. statements (site names done) (numbers_of numbers) f.body nowhere)
    (λ done at. ins (site names done) f.closing_line (last_instruction names.is_main false) end) a b c whole
    (last_one names f.closing_line names.is_main b c closed)

pub task_emits : (names : Numbered) (numbers : tables.Numbers) (spot : Spot) (first : Span)
    (clauses : List ResolvedClauseTree) (captures : List Capture) (s : ResolvedStatementTree)
    (a b c : Written) → IsOutside numbers spot
    → EmitsStatement names (numbers_of spot.numbers) s spot.jumps a b → Puts first.line (i.Task taskings.TaskEnd) b c
    → EmitsRegion names (numbers_of numbers) (RegionBody first kinds.Task clauses captures s) a c
task_emits names numbers spot first clauses captures s a b c outside emitted put f =
    part_then _ (λ done at. statement (site names done) (numbers_of numbers) s nowhere)
    (λ done at. ins (site names done) first.line (i.Task taskings.TaskEnd) end) a b c
    (subst (λ x. EmitsStatement names (numbers_of x.numbers) s x.jumps a b) outside emitted)
    (goes_put names _ first.line (i.Task taskings.TaskEnd) (λ done at. end) b c c put (goes_end _ c))

pub parallel_emits : (names : Numbered) (numbers : tables.Numbers) (spot : Spot) (first : Span)
    (clauses : List ResolvedClauseTree) (captures : List Capture) (s : ResolvedStatementTree)
    (a b c d e g h : Written) → IsOutside numbers spot → Puts first.line (i.Team teams.Begin) a b
    → EmitsRow names (λ at. reduction_starts at first.line clauses) b c
    → EmitsStatement names (numbers_of spot.numbers) s spot.jumps c d
    → EmitsRow names (λ at. reductions at first.line clauses) d e
    → Puts first.line (i.Team (teams.Arrive barriers.Parallel)) e g → Puts first.line (i.Team teams.Leave) g h
    → EmitsRegion names (numbers_of numbers) (RegionBody first kinds.Parallel clauses captures s) a h
parallel_emits names numbers spot first clauses captures s a b c d e g h outside begin starts emitted combined
    arrive leave f =
    with_as k _ (λ done at. part (ins (site names done) first.line (i.Team teams.Begin) end) (begun done at)) _ a h
    (λ done at p q r. (r.1.0, subst (λ m. begun done at m q) (sym r.1.1) r.2))
    (before_with k k k _ _ begun a b h (omega arith) (omega arith) first_put
    (before_with k _ k _ (λ done at. reduction_starts (site names done) first.line clauses) _ b c h
    first_put.keeps.more (omega arith) starts
    (with_behind k _ _ _ (λ done at. statement (site names done) (numbers_of numbers) s nowhere) _ c d h
    (omega (arith, first_put.keeps.more, starts.keeps.more))
    (omega (arith, first_put.keeps.more, starts.keeps.more, inside.more)) inside
    (goes_then _ _ _ (λ done at. reductions (site names done) first.line clauses) _ d e h (omega arith)
    combined.keeps.more combined (last_two names first.line e g h arrive leave)))))
  where
    k : ℕ
    k = length a.places

    begun : Finished → Labels → ℕ → ℕ → Type 0
    begun done at =
        part (reduction_starts (site names done) first.line clauses)
        (part (statement (site names done) (numbers_of numbers) s nowhere)
        (part (reductions (site names done) first.line clauses)
        (ins (site names done) first.line (i.Team (teams.Arrive barriers.Parallel))
        (ins (site names done) first.line (i.Team teams.Leave) end))))

    first_put : Goes k (λ done at. ins (site names done) first.line (i.Team teams.Begin) end) a b
    first_put = goes_put names k first.line (i.Team teams.Begin) (λ done at. end) a b b begin (goes_end k b)

    inside : EmitsStatement names (numbers_of numbers) s no_jumps c d
    inside = subst (λ x. EmitsStatement names (numbers_of x.numbers) s x.jumps c d) outside emitted

-- ---- scopes

pub function_scopes : (names : Numbered) (f : ResolvedFunctionTree) (items : ResolvedStatementsTree) (last : Instr)
    (xs : List LocalVariable) (height to : ℕ) (a b c : Written) (x y z w : ScopeStack) → items ≡ f.body
    → xs ≡ f.parameters → height ≡ length x.opened.items → to ≡ length c.code
    → ScopesStand names (λ at. each_scope parameter_scope xs) a x a y
    → ScopesStand names (λ at. all_scopes at items) a y b z → Puts f.closing_line last b c
    → (height ≤ length z.opened.items → EndsScopes height to z w)
    → ScopesStand names (λ at. body_scopes at f FunctionBody) a x c w
function_scopes names f items last xs height to a b c x y z w all parameters high here head inside put ends =
    stand_block names (λ at. both (each_scope parameter_scope f.parameters)
    (before (all_scopes at f.body) (instructions 1))) a x c z w height to high here
    (stand_both names (λ at. each_scope parameter_scope f.parameters)
    (λ at. before (all_scopes at f.body) (instructions 1)) a x a y c z
    (subst (λ vs. ScopesStand names (λ at. each_scope parameter_scope vs) a x a y) parameters head)
    (stand_before names (λ at. all_scopes at f.body) (λ at. instructions 1) a y b z c
    (subst (λ k. ScopesStand names (λ at. all_scopes at k) a y b z) all inside)
    (writes_put names f.closing_line last b c put))) ends

pub task_scopes : (names : Numbered) (first : Span) (clauses : List ResolvedClauseTree) (captures : List Capture)
    (s : ResolvedStatementTree) (height to : ℕ) (last : Instr) (a b c : Written) (x y z w : ScopeStack)
    → height ≡ length x.opened.items → to ≡ length c.code
    → ScopesStand names (λ at. each_scope task_scope clauses) a x a y
    → ScopesStand names (λ at. block (scopes at s)) a y b z → Puts first.line last b c
    → (height ≤ length z.opened.items → EndsScopes height to z w)
    → (f : ResolvedFunctionTree)
    → ScopesStand names (λ at. body_scopes at f (RegionBody first kinds.Task clauses captures s)) a x c w
task_scopes names first clauses captures s height to last a b c x y z w high here head inside put ends f =
    stand_block names (λ at. both (each_scope task_scope clauses) (before (block (scopes at s)) (instructions 1))) a x c z
    w height to high here
    (stand_both names (λ at. each_scope task_scope clauses) (λ at. before (block (scopes at s)) (instructions 1)) a x a y
    c z head
    (stand_before names (λ at. block (scopes at s)) (λ at. instructions 1) a y b z c inside
    (writes_put names first.line last b c put))) ends

pub parallel_scopes : (names : Numbered) (first : Span) (clauses : List ResolvedClauseTree) (captures : List Capture)
    (s : ResolvedStatementTree) (height to : ℕ) (u v t : Instr) (a b c d e g h : Written) (x y z w : ScopeStack)
    → height ≡ length x.opened.items → to ≡ length h.code → Puts first.line u a b
    → ScopesStand names (λ at. each_scope (team_scope at first.line) clauses) b x c y
    → ScopesStand names (λ at. block (scopes at s)) c y d z
    → EmitsRow names (λ at. reductions at first.line clauses) d e → Puts first.line v e g → Puts first.line t g h
    → (height ≤ length z.opened.items → EndsScopes height to z w)
    → (f : ResolvedFunctionTree)
    → ScopesStand names (λ at. body_scopes at f (RegionBody first kinds.Parallel clauses captures s)) a x h w
parallel_scopes names first clauses captures s height to u v t a b c d e g h x y z w high here begin starts inside
    combined arrive leave ends f =
    stand_block names (λ at. both (after (instructions 1) (each_scope (team_scope at first.line) clauses))
    (before (block (scopes at s)) (part (reductions at first.line clauses) (instructions 2)))) a x h z w height to high
    here
    (stand_both names (λ at. after (instructions 1) (each_scope (team_scope at first.line) clauses))
    (λ at. before (block (scopes at s)) (part (reductions at first.line clauses) (instructions 2))) a x c y h z
    (stand_after names (λ at. instructions 1) (λ at. each_scope (team_scope at first.line) clauses) a b x c y
    (writes_put names first.line u a b begin) starts)
    (stand_before names (λ at. block (scopes at s)) (λ at. part (reductions at first.line clauses) (instructions 2)) c y d
    z h inside
    (writes_then (λ done at. reductions (site names done) first.line clauses) (λ done at. instructions 2) d e h
    combined.writes
    (writes_as (λ done at. part (instructions 1) (instructions 1)) (λ done at. instructions 2) e h
    (λ done at p q r. let k = r.1 in let l = r.2 in omega (arith, k, l))
    (writes_then (λ done at. instructions 1) (λ done at. instructions 1) e g h
    (writes_put names first.line v e g arrive) (writes_put names first.line t g h leave)))))) ends
