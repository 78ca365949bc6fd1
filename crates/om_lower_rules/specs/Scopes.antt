-- In which instructions of a body a variable of the function is in scope (C17 6.2.1p4, p7; OpenMP API 5.2,
-- section 5.3), by where the code of its parts stands.
--
-- A declared variable is in scope from the first instruction of its declarator to the last of its block, or
-- of its `for`; what stands at a closing brace belongs to the block that it closes. A parameter is in scope in
-- the whole of its function. A copy is in scope from the first instruction of its start to the last of its
-- construct, and the variable that a loop's iterations have from LOOP. Private and firstprivate copies of a
-- `parallel` or a `task` are in scope in the whole of its body. A region is a body of its own, so nothing of it
-- is in scope round it.
--
-- A row of scopes says which scopes begin and end between two places of a body, as a row of code says what
-- stands there. `after r s` is s behind the code r, `before s r` is s in front of it, and `both s t` has t
-- behind s; `opens` begins a scope, and `block s` ends all that s begins. So
--
--     after (tested at l c) (before (block (scopes at s)) (instructions 1))
--
-- is `while (c) s`: the code of s, which is a block of its own, stands between c, JZ and a JMP.
use Rattle.std.specs.Prelude.{◌≡◌, ℕ, ◌+◌, List, [], ◌∷◌, ◌++◌, Option, None, map, nat_eq, position, reverse}
use Rattle.om_code.specs.declared.raw.Names.{Names}
use Rattle.om_code.specs.declared.raw.Scope.{Scope}
use Rattle.om_scope_tree.specs.declared.resolved.ConstructKind.{ConstructKind}
use Rattle.om_scope_tree.specs.declared.resolved.ConstructKind.TheVariants as constructs
use Rattle.om_scope_tree.specs.declared.resolved.CopyKind.{CopyKind}
use Rattle.om_scope_tree.specs.declared.resolved.CopyKind.TheVariants as copies
use Rattle.om_scope_tree.specs.declared.resolved.LocalVariable.{LocalVariable}
use Rattle.om_scope_tree.specs.declared.resolved.RegionKind.TheVariants as kinds
use Rattle.om_scope_tree.specs.declared.resolved.Variable as variables
use Rattle.om_scope_tree.specs.ResolvedTree.{ResolvedExpressionTree, ResolvedDeclaratorTree, ResolvedClauseTree}
use Rattle.om_scope_tree.specs.ResolvedTree.{ClauseValue, Shared, Copied, ResolvedLoopTree, ResolvedStartTree}
use Rattle.om_scope_tree.specs.ResolvedTree.{StartNothing, StartExpression, StartDeclaration, ResolvedStatementTree}
use Rattle.om_scope_tree.specs.ResolvedTree.{Declaration, Block, If, IfElse, While, Do, For, Loop, Sections, Construct}
use Rattle.om_scope_tree.specs.ResolvedTree.{ResolvedStatementsTree, NoStatements, Statement, ResolvedPartsTree}
use Rattle.om_scope_tree.specs.ResolvedTree.{NoParts, Part, ResolvedFunctionTree}
use Rattle.om_lower_rules.specs.declared.variables.VariableScope.{VariableScope}
use Rattle.om_lower_rules.specs.Bodies.{Numbers, BodyTree, FunctionBody, RegionBody}
use Rattle.om_lower_rules.specs.Expressions.{value, effect}
use Rattle.om_lower_rules.specs.Rows.{Site, Row, end, never, part, ◌▸◌, perhaps}
use Rattle.om_lower_rules.specs.Statements.{Jumps, declarator, test, copy_start, reductions, clause_value}
use Rattle.om_lower_rules.specs.Statements.{worksharing_end, closes, filter_row, assignment_row, statement}

-- what a part of the tree gives: variables whose scopes go on behind it, and those whose scopes end in it, the
-- innermost first
pub record Found : Type 0 where
  pub opened : List VariableScope
  pub closed : List VariableScope

abbrev pub nothing : Found
nothing = record { opened = []; closed = [] }

abbrev pub opening : List VariableScope → Found
opening opened = record { opened = opened; closed = [] }

-- one part behind another
infixr 4 ◌then◌
abbrev pub ◌then◌ : Found → Found → Found
first then second = record { opened = first.opened ++ second.opened; closed = first.closed ++ second.closed }

-- a scope that ends here
abbrev pub closed_at : (to : ℕ) → VariableScope → VariableScope
closed_at to v = record v { to = to }

-- the end of a block, a loop or a construct: all that it opened is closed, the last one first
abbrev pub ending : (to : ℕ) → Found → Found
ending to found = record { opened = []; closed = found.closed ++ map (closed_at to) (reverse found.opened) }

-- a scope that begins here; while it is open it holds nothing
abbrev pub opened_with : Option ℕ → ℕ → LocalVariable → VariableScope
opened_with length p variable = record {
  name = variable.name;
  variable = variable.at;
  length = length;
  from = p;
  to = p;
}

-- ---- rows of scopes

-- between two places stands code in which these scopes begin and end
abbrev pub Scoping : Type 1
Scoping = ℕ → ℕ → Found → Type 0

-- code in which none does
abbrev pub plain : Row → Scoping
plain row p q found = row p q × (found ≡ nothing)

abbrev pub after : Row → Scoping → Scoping
after row rest p q found = (m : ℕ) × row p m × rest m q found

abbrev pub before : Scoping → Row → Scoping
before first row p q found = (m : ℕ) × first p m found × row m q

abbrev pub both : Scoping → Scoping → Scoping
both one other p q found = (m : ℕ) × (first second : Found) ×
    one p m first × other m q second × (found ≡ (first then second))

abbrev pub each_scope : {A : Type 0} → (A → Scoping) → List A → Scoping
each_scope row [] = plain end
each_scope row (x ∷ xs) = both (row x) (each_scope row xs)

-- a scope that begins at this place, with this code
abbrev pub opens_at : (from : ℕ) → Option ℕ → LocalVariable → Row → Scoping
opens_at from length variable row p q found =
    row p q × (found ≡ opening (opened_with length from variable ∷ []))

-- a scope that begins with the first instruction of this code
abbrev pub opens : Option ℕ → LocalVariable → Row → Scoping
opens length variable row p q found = opens_at p length variable row p q found

-- a block, a loop or a construct, which ends all that begins in it
abbrev pub block : Scoping → Scoping
block row p q found = (inside : Found) × row p q inside × (found ≡ ending q inside)

-- ---- code in which no scope begins or ends

-- so many instructions
abbrev pub instructions : ℕ → Row
instructions count p q = q ≡ p + count

-- c, JZ
abbrev pub tested : Site → ℕ → ResolvedExpressionTree → Row
tested at l c p q = (f : ℕ) × test at l f c p q

-- the code of a statement, wherever it stands
abbrev pub stands : Site → ResolvedStatementTree → Row
stands at s p q = (n : Numbers) × (jumps : Jumps) × statement at n s jumps p q

-- ---- variables

abbrev pub declarator_scope : Site → ℕ → ResolvedDeclaratorTree → Scoping
declarator_scope at l d = opens d.length d.variable (declarator at l d)

abbrev pub start_scopes : Site → ℕ → ResolvedStartTree → Scoping
start_scopes at l StartNothing = plain end
start_scopes at l (StartExpression e) = plain (effect at l e)
start_scopes at l (StartDeclaration ds) = each_scope (declarator_scope at l) ds

-- the copy that a clause of a construct makes in the body round it
abbrev pub clause_scope : Site → ℕ → ResolvedClauseTree → Scoping
clause_scope at l (ClauseValue kind e) = plain end
clause_scope at l (Shared x) = plain end
clause_scope at l (Copied kind x copy) = opens None copy (copy_start at l kind x copy)

-- the copy that a clause of a `parallel` makes in its body: those that are combined begin there
abbrev pub team_copy : Site → ℕ → CopyKind → variables.Variable → LocalVariable → Scoping
team_copy at l copies.Private x copy = opens_at 0 None copy end
team_copy at l copies.Firstprivate x copy = opens_at 0 None copy end
team_copy at l (copies.Reduction o) x copy = opens None copy (copy_start at l (copies.Reduction o) x copy)

abbrev pub team_scope : Site → ℕ → ResolvedClauseTree → Scoping
team_scope at l (ClauseValue kind e) = plain end
team_scope at l (Shared x) = plain end
team_scope at l (Copied kind x copy) = team_copy at l kind x copy

-- a `task` has no reductions
abbrev pub task_scope : ResolvedClauseTree → Scoping
task_scope (ClauseValue kind e) = plain end
task_scope (Shared x) = plain end
task_scope (Copied kind x copy) = opens_at 0 None copy end

abbrev pub parameter_scope : LocalVariable → Scoping
parameter_scope parameter = opens_at 0 None parameter end

-- ---- statements; one of another statement is a block of its own (C17 6.8.4p3, 6.8.5p5)

-- a construct is a block too: in front of its statement only `single` makes copies. The statement of an `atomic`
-- is an assignment, which declares nothing
abbrev pub construct_head : Site → ℕ → ConstructKind → List ResolvedClauseTree → Scoping
construct_head at l (constructs.Single nowait) clauses =
    after (instructions 1) (each_scope (clause_scope at l) clauses)
construct_head at l constructs.Masked clauses =
    plain (part (filter_row at l (clause_value clauses)) ▸ instructions 1)
construct_head at l (constructs.Critical name) clauses = plain (instructions 2)
construct_head at l (constructs.Atomic access) clauses = plain never
construct_head at l constructs.Taskgroup clauses = plain (instructions 1)

abbrev pub construct_end : Site → ℕ → ConstructKind → Row
construct_end at l (constructs.Single nowait) = worksharing_end at l nowait
construct_end at l constructs.Masked = instructions 1
construct_end at l (constructs.Critical name) = instructions 1
construct_end at l (constructs.Atomic access) = never
construct_end at l constructs.Taskgroup = instructions 1

abbrev pub construct_scopes : Site → ℕ → ConstructKind → List ResolvedClauseTree → ResolvedStatementTree → Scoping
    → Scoping
construct_scopes at l (constructs.Atomic access) clauses s inner = plain (assignment_row at l s)
construct_scopes at l kind clauses s inner =
    block (both (construct_head at l kind clauses) (before (block inner) (construct_end at l kind)))

-- both bounds, and the starts of copies
abbrev pub bounds_scopes : Site → ℕ → List ResolvedClauseTree → ResolvedLoopTree → Scoping
bounds_scopes at l clauses loop =
    after (value at loop.at.line loop.from) (after (value at loop.at.line loop.to)
    (each_scope (clause_scope at l) clauses))

-- the same, and LOOP, GRAB and ITER
abbrev pub loop_head : Site → ℕ → List ResolvedClauseTree → ResolvedLoopTree → Scoping
loop_head at l clauses loop = both (bounds_scopes at l clauses loop) (opens None loop.variable (instructions 3))

-- the starts of copies, SECT, GRAB and PICK
abbrev pub sections_head : Site → ℕ → List ResolvedClauseTree → Scoping
sections_head at l clauses = before (each_scope (clause_scope at l) clauses) (instructions 3)

-- what a `for` begins with, and its test
abbrev pub for_head : Site → ℕ → ResolvedStartTree → Option ResolvedExpressionTree → Scoping
for_head at l begin c = before (start_scopes at l begin) (perhaps (tested at l) c)

abbrev mutual
  pub scopes : Site → ResolvedStatementTree → Scoping
  scopes at (Declaration first ds) = each_scope (declarator_scope at first.line) ds
  scopes at (Block first items) = block (all_scopes at items)
  scopes at (If first c s) = after (tested at first.line c) (block (scopes at s))
  scopes at (IfElse first c s t) =
      after (tested at first.line c) (both (block (scopes at s)) (after (instructions 1) (block (scopes at t))))
  scopes at (While first c s) = after (tested at first.line c) (before (block (scopes at s)) (instructions 1))
  scopes at (Do first s c) = before (block (scopes at s)) (part (tested at first.line c) ▸ instructions 1)
  scopes at (For first begin c step s) =
      block (both (for_head at first.line begin c)
      (before (block (scopes at s)) (part (perhaps (effect at first.line) step) ▸ instructions 1)))
  scopes at (Loop first clauses nowait loop s) =
      block (both (loop_head at first.line clauses loop)
      (before (block (scopes at s)) (part (instructions 1) ▸ closes at first.line clauses nowait)))
  scopes at (Sections first clauses nowait sections) =
      block (both (sections_head at first.line clauses)
      (before (part_scopes at sections) (closes at first.line clauses nowait)))
  scopes at (Construct first kind clauses s) = construct_scopes at first.line kind clauses s (scopes at s)
  scopes at s = plain (stands at s)

  pub all_scopes : Site → ResolvedStatementsTree → Scoping
  all_scopes at NoStatements = plain end
  all_scopes at (Statement s rest) = both (scopes at s) (all_scopes at rest)

  -- the parts of `sections`, which are blocks, with a JMP behind each
  pub part_scopes : Site → ResolvedPartsTree → Scoping
  part_scopes at NoParts = plain end
  part_scopes at (Part items rest) =
      both (before (block (all_scopes at items)) (instructions 1)) (part_scopes at rest)

-- ---- whole bodies

-- the statements of a function, and its last instruction; of a `parallel` BEGIN, the starts of reductions, the
-- statement, what combines them, ARRIVE, LEAVE; of a `task` the statement, TEND
abbrev pub body_scopes : Site → ResolvedFunctionTree → BodyTree → Scoping
body_scopes at f FunctionBody =
    block (both (each_scope parameter_scope f.parameters) (before (all_scopes at f.body) (instructions 1)))
body_scopes at f (RegionBody first kinds.Parallel clauses captures s) =
    block (both (after (instructions 1) (each_scope (team_scope at first.line) clauses))
    (before (block (scopes at s)) (part (reductions at first.line clauses) ▸ instructions 2)))
body_scopes at f (RegionBody first kinds.Task clauses captures s) =
    block (both (each_scope task_scope clauses) (before (block (scopes at s)) (instructions 1)))

-- ---- by the slots of a body

-- the slot of a variable, where these have it
abbrev pub slot_among : List ℕ → ℕ → Option ℕ
slot_among variables variable = position (nat_eq variable) variables

abbrev pub scope_in : List ℕ → VariableScope → Scope
scope_in variables v = record {
  name = v.name;
  slot = slot_among variables v.variable;
  length = v.length;
  from = v.from;
  to = v.to;
}

-- what names mean in a body of a function of this name, with these variables, in a body with those, where it has
-- these scopes
abbrev pub names_with : (function : List ℕ) → (variables outer : List ℕ) → List VariableScope → Names
names_with function variables outer found = record {
  function = function;
  scopes = map (scope_in variables) found;
  outer = map (slot_among outer) variables;
}
