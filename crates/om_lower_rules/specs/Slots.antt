-- The slots of a body. They are numbered as its text is read: parameters, then, at first sight, each declared
-- name, and each copy that a clause, a worksharing loop or a task makes. In the body of a `parallel` or a
-- `task` each variable of the function from outside that it uses, combines or lists as `shared` has one too, at its
-- first sight. The data clauses of a `parallel` or a `task` belong to its body.
use Rattle.std.specs.Prelude.{ℕ, List, [], ◌∷◌, ◌++◌, Option, None, Some, Bool, true, false, map, nat_eq, length}
use Rattle.std.specs.Prelude.{◌≡◌, IfOk, Result, if◌then◌else◌}
use Rattle.std.specs.List.{flat_map, list_any}
use Rattle.om_code.specs.declared.instruction.Place.{Place}
use Rattle.om_code.specs.declared.instruction.Place.TheVariants as places
use Rattle.om_code.specs.declared.raw.Slot.{Slot}
use Rattle.om_code.specs.declared.raw.Source.{Source}
use Rattle.om_code.specs.declared.raw.Source.TheVariants.{Own, Outer}
use Rattle.om_scope_tree.specs.declared.resolved.Capture.{Capture}
use Rattle.om_scope_tree.specs.declared.resolved.CopyKind.{CopyKind}
use Rattle.om_scope_tree.specs.declared.resolved.CopyKind.TheVariants as copies
use Rattle.om_scope_tree.specs.declared.resolved.LocalVariable.{LocalVariable}
use Rattle.om_scope_tree.specs.declared.resolved.Taking.{Taking}
use Rattle.om_scope_tree.specs.declared.resolved.Taking.TheVariants as takings
use Rattle.om_scope_tree.specs.declared.resolved.Variable as variables
use Rattle.om_scope_tree.specs.declared.resolved.Variable.TheVariants as named
use Rattle.om_scope_tree.specs.Captures.{variable_uses, expression_uses, perhaps_uses, clause_uses, captured_variable}
use Rattle.om_scope_tree.specs.Captures.{stand_alone_uses, update_uses}
use Rattle.om_scope_tree.specs.ResolvedTree.{ResolvedDeclaratorTree, ResolvedClauseTree, ClauseValue, Shared, Copied}
use Rattle.om_scope_tree.specs.ResolvedTree.{ResolvedLoopTree, ResolvedStartTree, StartNothing, StartExpression}
use Rattle.om_scope_tree.specs.ResolvedTree.{StartDeclaration, ResolvedStatementTree, Declaration, Block, Empty}
use Rattle.om_scope_tree.specs.ResolvedTree.{Expression, If, IfElse, While, Do, For, Return, Break, Continue, Region}
use Rattle.om_scope_tree.specs.ResolvedTree.{Loop, Sections, Construct, Update, StandAlone, ResolvedStatementsTree}
use Rattle.om_scope_tree.specs.ResolvedTree.{NoStatements, Statement, ResolvedPartsTree, NoParts, Part}
use Rattle.om_lower_rules.specs.Rows.{Site}
use Rattle.om_lower_rules.specs.Tables.{number_in}

-- ---- the sights of variables of the function in a body, in the order of the text

abbrev pub declarator_sights : ResolvedDeclaratorTree → List ℕ
declarator_sights d = d.variable.at ∷ perhaps_uses d.initial

abbrev pub start_sights : ResolvedStartTree → List ℕ
start_sights StartNothing = []
start_sights (StartExpression e) = expression_uses e
start_sights (StartDeclaration ds) = flat_map declarator_sights ds

-- the original of a copy comes before it, where the copy begins with its value or is combined into it
abbrev pub original_sights : CopyKind → variables.Variable → List ℕ
original_sights copies.Private original = []
original_sights copies.Firstprivate original = variable_uses original
original_sights (copies.Reduction o) original = variable_uses original

-- a clause of a construct in whose body it stands
abbrev pub clause_sights : ResolvedClauseTree → List ℕ
clause_sights (ClauseValue kind e) = expression_uses e
clause_sights (Shared v) = variable_uses v
clause_sights (Copied kind original copy) = original_sights kind original ++ copy.at ∷ []

-- what a copy's original is in the body of its own `parallel` or `task`: the value of a firstprivate copy
-- comes with the body
abbrev pub combined_sights : CopyKind → variables.Variable → List ℕ
combined_sights copies.Private original = []
combined_sights copies.Firstprivate original = []
combined_sights (copies.Reduction o) original = variable_uses original

-- a clause of a `parallel` or a `task`, in its body
abbrev pub region_clause_sights : ResolvedClauseTree → List ℕ
region_clause_sights (ClauseValue kind e) = []
region_clause_sights (Shared v) = variable_uses v
region_clause_sights (Copied kind original copy) = combined_sights kind original ++ copy.at ∷ []

-- an iteration variable stands before the bounds, and uses no original
abbrev pub loop_sights : ResolvedLoopTree → List ℕ
loop_sights l = l.variable.at ∷ (expression_uses l.from ++ expression_uses l.to)

-- of a `parallel` or a `task` in the body that meets it: what its body uses from outside, or copies as firstprivate
abbrev pub region_uses : List ResolvedClauseTree → List Capture → List ℕ
region_uses clauses captures = flat_map clause_uses clauses ++ map captured_variable captures

unfoldable mutual
  pub statement_sights : ResolvedStatementTree → List ℕ
  statement_sights (Declaration at ds) = flat_map declarator_sights ds
  statement_sights (Block at items) = statements_sights items
  statement_sights (Empty at) = []
  statement_sights (Expression at e) = expression_uses e
  statement_sights (If at c s) = expression_uses c ++ statement_sights s
  statement_sights (IfElse at c s t) = expression_uses c ++ (statement_sights s ++ statement_sights t)
  statement_sights (While at c s) = expression_uses c ++ statement_sights s
  statement_sights (Do at s c) = statement_sights s ++ expression_uses c
  statement_sights (For at start condition step s) = start_sights start
      ++ (perhaps_uses condition ++ (perhaps_uses step ++ statement_sights s))
  statement_sights (Return at value) = perhaps_uses value
  statement_sights (Break at) = []
  statement_sights (Continue at) = []
  statement_sights (Region at kind clauses captures s) = region_uses clauses captures
  statement_sights (Loop at clauses nowait l s) = flat_map clause_sights clauses
      ++ (loop_sights l ++ statement_sights s)
  statement_sights (Sections at clauses nowait parts) = flat_map clause_sights clauses ++ parts_sights parts
  statement_sights (Construct at kind clauses s) = flat_map clause_sights clauses ++ statement_sights s
  statement_sights (Update at u) = update_uses u
  statement_sights (StandAlone at directive) = stand_alone_uses directive

  pub statements_sights : ResolvedStatementsTree → List ℕ
  statements_sights NoStatements = []
  statements_sights (Statement s rest) = statement_sights s ++ statements_sights rest

  pub parts_sights : ResolvedPartsTree → List ℕ
  parts_sights NoParts = []
  parts_sights (Part items rest) = statements_sights items ++ parts_sights rest

abbrev pub parameter_sight : LocalVariable → ℕ
parameter_sight parameter = parameter.at

-- ---- numbers of slots

-- the slot of a variable, by the variables that a body has
abbrev pub slot_of : List ℕ → ℕ → ℕ
slot_of slots variable = number_in (nat_eq variable) slots

-- a variable, as instructions name it
abbrev pub place_of : List ℕ → variables.Variable → Place
place_of slots (named.Global number) = places.Global number
place_of slots (named.Local at) = places.Slot (slot_of slots at)

abbrev pub place : Site → variables.Variable → Place
place at v = place_of at.slots v

abbrev pub slot : Site → LocalVariable → ℕ
slot at variable = slot_of at.slots variable.at

-- ---- how many cells a variable has

-- a declared variable and how many cells it has; a scalar has one
pub record Extent : Type 0 where
  pub variable : ℕ
  pub cells : ℕ

abbrev pub cells_of_length : Option ℕ → ℕ
cells_of_length None = 1
cells_of_length (Some length) = length

abbrev pub extent_of : ResolvedDeclaratorTree → Extent
extent_of d = record { variable = d.variable.at; cells = cells_of_length d.length }

-- parameters and copies are no arrays
abbrev pub cells_in : List Extent → ℕ → ℕ
cells_in [] variable = 1
cells_in (extent ∷ rest) variable = if nat_eq extent.variable variable then extent.cells else cells_in rest variable

-- ---- where a slot has its cells

abbrev pub is_shared : Taking → Bool
is_shared takings.Shared = true
is_shared takings.Firstprivate = false

-- a region takes the variable from outside, and shares it
abbrev pub shares : ℕ → Capture → Bool
shares variable capture = if nat_eq capture.variable variable then is_shared capture.taking else false

-- by the variables of the body round it, and what it takes from there
abbrev pub source_of : List ℕ → List Capture → ℕ → Source
source_of outer captures variable = if list_any (shares variable) captures then Outer (slot_of outer variable) else Own

abbrev pub slot_with : List Extent → List ℕ → List Capture → ℕ → Slot
slot_with extents outer captures variable = record {
  cells = cells_in extents variable;
  source = source_of outer
      captures variable;
}

-- a function makes the slots of these variables, unless memory runs out
abbrev pub MakesSlots : {E : Type 0} → Result (List Slot) E → List Extent → (outer : List ℕ) → List Capture
    → (variables : List ℕ) → Type 0
MakesSlots result extents outer captures variables =
    IfOk result (λ slots. slots ≡ map (slot_with extents outer captures) variables)

-- ---- firstprivate copies of a `parallel` or a `task`

-- a copy's variable, and what it begins with
pub record FirstCopy : Type 0 where
  pub variable : ℕ
  pub original : variables.Variable

abbrev pub copied_first : CopyKind → variables.Variable → LocalVariable → List FirstCopy
copied_first copies.Private original copy = []
copied_first copies.Firstprivate original copy = record { variable = copy.at; original = original } ∷ []
copied_first (copies.Reduction o) original copy = []

abbrev pub clause_first : ResolvedClauseTree → List FirstCopy
clause_first (ClauseValue kind e) = []
clause_first (Shared v) = []
clause_first (Copied kind original copy) = copied_first kind original copy

abbrev pub taken_first : Taking → ℕ → List FirstCopy
taken_first takings.Shared variable = []
taken_first takings.Firstprivate variable = record { variable = variable; original = named.Local variable } ∷ []

abbrev pub capture_first : Capture → List FirstCopy
capture_first capture = taken_first capture.taking capture.variable

-- those of a region, by its clauses and by what it takes
abbrev pub first_copies : List ResolvedClauseTree → List Capture → List FirstCopy
first_copies clauses captures = flat_map clause_first clauses ++ flat_map capture_first captures

-- the copy whose variable this is
abbrev pub first_copy_at : List FirstCopy → ℕ → List FirstCopy
first_copy_at [] variable = []
first_copy_at (copy ∷ rest) variable = if nat_eq copy.variable variable then copy ∷ [] else first_copy_at rest variable

-- by the slots of the copies
abbrev pub by_slots : List ℕ → List FirstCopy → List FirstCopy
by_slots slots copies = flat_map (first_copy_at copies) slots
