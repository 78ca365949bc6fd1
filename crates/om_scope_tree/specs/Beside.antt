-- Two facts of a resolved tree beside that it is whole: what the statement of an `atomic` is, and where the
-- copies of regions stand.
use Rattle.std.specs.Prelude.{◌≤◌, ℕ, List, All}
use Rattle.om_scope_tree.specs.declared.resolved.ConstructKind.{ConstructKind}
use Rattle.om_scope_tree.specs.declared.resolved.ConstructKind.TheVariants as constructs
use Rattle.om_scope_tree.specs.ResolvedTree.{ResolvedExpressionTree, Assign, AssignElement, ResolvedClauseTree, Copied}
use Rattle.om_scope_tree.specs.ResolvedTree.{ResolvedStatementTree, Block, Expression, If, IfElse, While, Do, For}
use Rattle.om_scope_tree.specs.ResolvedTree.{Region, Loop, Sections, Construct, ResolvedStatementsTree}
use Rattle.om_scope_tree.specs.ResolvedTree.{NoStatements, Statement, ResolvedPartsTree, NoParts, Part}
use Rattle.om_scope_tree.specs.ResolvedTree.{ResolvedFunctionTree, ResolvedTree}

-- P of a statement, and of each one in it
abbrev mutual
  pub Everywhere : (P : ResolvedStatementTree → Type 0) → ResolvedStatementTree → Type 0
  Everywhere P (Block at items) = P (Block at items) × EverywhereIn P items
  Everywhere P (If at c s) = P (If at c s) × Everywhere P s
  Everywhere P (IfElse at c s t) = P (IfElse at c s t) × Everywhere P s × Everywhere P t
  Everywhere P (While at c s) = P (While at c s) × Everywhere P s
  Everywhere P (Do at s c) = P (Do at s c) × Everywhere P s
  Everywhere P (For at start condition step s) = P (For at start condition step s) × Everywhere P s
  Everywhere P (Region at kind clauses captures s) = P (Region at kind clauses captures s) × Everywhere P s
  Everywhere P (Loop at clauses nowait l s) = P (Loop at clauses nowait l s) × Everywhere P s
  Everywhere P (Sections at clauses nowait parts) = P (Sections at clauses nowait parts) × EverywhereInParts P parts
  Everywhere P (Construct at kind clauses s) = P (Construct at kind clauses s) × Everywhere P s
  Everywhere P s = P s

  -- P of each of these, and of each one in them
  pub EverywhereIn : (P : ResolvedStatementTree → Type 0) → ResolvedStatementsTree → Type 0
  EverywhereIn P NoStatements = Unit {0}
  EverywhereIn P (Statement s rest) = Everywhere P s × EverywhereIn P rest

  pub EverywhereInParts : (P : ResolvedStatementTree → Type 0) → ResolvedPartsTree → Type 0
  EverywhereInParts P NoParts = Unit {0}
  EverywhereInParts P (Part items rest) = EverywhereIn P items × EverywhereInParts P rest

-- P of each statement of a program
abbrev pub EverywhereInTree : (P : ResolvedStatementTree → Type 0) → ResolvedTree → Type 0
EverywhereInTree P tree = All (λ function. EverywhereIn P function.body) tree.functions

-- ---- atomic reads and writes (OpenMP API 5.2, section 15.8.4)

abbrev pub IsAssignment : ResolvedExpressionTree → Type 0
IsAssignment (Assign v o e) = Unit {0}
IsAssignment (AssignElement v index o e) = Unit {0}
IsAssignment _ = ⊥

-- an expression statement that assigns
abbrev pub Assigns : ResolvedStatementTree → Type 0
Assigns (Expression at e) = IsAssignment e
Assigns _ = ⊥

abbrev pub ConstructAssigns : ConstructKind → ResolvedStatementTree → Type 0
ConstructAssigns (constructs.Atomic access) s = Assigns s
ConstructAssigns _ s = Unit {0}

-- an `atomic` that reads or writes is about an assignment
abbrev pub AtomicAssigns : ResolvedStatementTree → Type 0
AtomicAssigns (Construct at kind clauses s) = ConstructAssigns kind s
AtomicAssigns _ = Unit {0}

abbrev pub TreeAtomicsAssign : ResolvedTree → Type 0
TreeAtomicsAssign tree = EverywhereInTree AtomicAssigns tree

-- ---- copies of regions

-- a copy is known by the byte where its clause names it, and that stands behind where its region begins
abbrev pub IsCopyBehind : (start : ℕ) → ResolvedClauseTree → Type 0
IsCopyBehind start (Copied kind original copy) = start ≤ copy.at
IsCopyBehind start _ = Unit {0}

-- the copies that the clauses of a `parallel` or a `task` make stand behind its beginning
abbrev pub CopiesBehind : ResolvedStatementTree → Type 0
CopiesBehind (Region at kind clauses captures s) = All (IsCopyBehind at.start) clauses
CopiesBehind _ = Unit {0}

abbrev pub TreeCopiesBehind : ResolvedTree → Type 0
TreeCopiesBehind tree = EverywhereInTree CopiesBehind tree
