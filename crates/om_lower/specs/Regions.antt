-- What is promised of what stands in the place of a `parallel` or a `task`.
use Rattle.std.specs.Prelude.{◌≡◌, ℕ, List, true, IfOk, OnOk, Result, map}
use Rattle.om_scope_tree.specs.declared.resolved.RegionKind.{RegionKind}
use Rattle.om_scope_tree.specs.declared.resolved.RegionKind.TheVariants as kinds
use Rattle.om_scope_tree.specs.declared.resolved.ResolvedClause.{ResolvedClause}
use Rattle.om_scope_tree.specs.ResolvedTree.{ResolvedClauseTree, ResolvedStatementTree}
use Rattle.om_scope_tree.specs.ResolvedTree as trees
use Rattle.om_scope_tree.specs.ResolvedView as view
use Rattle.om_lower_rules.specs.Bodies as rows
use Rattle.om_lower_rules.specs.BodyTables.{numbered_by}
use Rattle.om_lower_rules.specs.Coded.{RegionIsCoded}
use Rattle.om_lower_rules.specs.Copies.{first_copies_of}
use Rattle.om_lower_rules.specs.Ends.{IsKnown}
use Rattle.om_lower_rules.specs.Expressions.{value}
use Rattle.om_lower_rules.specs.Numbering.{numbers_of}
use Rattle.om_lower_rules.specs.ProgramTables.{known_in}
use Rattle.om_lower_rules.specs.Slots.{FirstCopy}
use Rattle.om_lower_rules.specs.Rows.{each, perhaps}
use Rattle.om_lower_rules.specs.Statements.{given_copies, load_original}
use Rattle.om_lower_rules.specs.declared.body.BodyTables.{BodyTables}
use Rattle.om_lower_rules.specs.declared.tables.Numbers.{Numbers}
use Rattle.om_lower_rules.specs.declared.copies.FirstCopy as copies
use Rattle.om_lower_rules.specs.declared.copies.Region.{Region}
use Rattle.om_lower_emit.specs.Drafts.{Written}
use Rattle.om_lower_emit.specs.declared.spot.Here.{Here}
use Rattle.om_lower_emit.specs.Emits.{Appends, EmitsRow}
use Rattle.om_lower_emit.specs.Statements.{EmitsStatement}
use Rattle.om_lower_emit.specs.Stretches.{value_in}
use Rattle.om_lower_emit.specs.declared.spot.JumpLabels.{JumpLabels}

abbrev pub clauses_of : Region → List ResolvedClauseTree
clauses_of region = map view.clause region.clauses.now

-- the statement that has these parts, as a region of this kind
abbrev pub statement_as : RegionKind → Region → ResolvedStatementTree
statement_as kind region =
    trees.Region region.at kind (clauses_of region) region.captures.now (view.statement region.statement.now)

abbrev pub region_statement : Region → ResolvedStatementTree
region_statement region = statement_as region.kind region

abbrev pub parallel_of : Region → ResolvedStatementTree
parallel_of region = statement_as kinds.Parallel region

abbrev pub task_of : Region → ResolvedStatementTree
task_of region = statement_as kinds.Task region

-- what stands in its place has code
abbrev pub RegionHasCode : Region → Type 0
RegionHasCode region = RegionIsCoded true region.kind (clauses_of region)

-- the slots of its body, by the variables that they hold
abbrev pub slots_of : Region → List ℕ
slots_of region = rows.region_variables (clauses_of region) (view.statement region.statement.now)

-- its firstprivate copies, which get their values where it is met
abbrev pub given_to : Region → List FirstCopy
given_to region =
    given_copies (clauses_of region) region.captures.now (view.statement region.statement.now)

-- its body is the next one, and the tables have it
abbrev pub IsKnownThere : BodyTables → Numbers → Region → Type 0
IsKnownThere tables numbers region =
    IsKnown (known_in tables) numbers.bodies
    (rows.behind (rows.next_body (numbers_of numbers)) (view.statement region.statement.now))
    (slots_of region)

-- a function gives the numbers behind it, unless memory runs out
abbrev pub GivesBehind : {E : Type 0} → Result Numbers E → Numbers → ResolvedStatementTree → Type 0
GivesBehind result numbers s = IfOk result (λ after. numbers_of after ≡ rows.behind (numbers_of numbers) s)

-- and writes what stands in its place, unless memory runs out
abbrev pub EmitsRegion : {T E : Type 0} → Result T E → BodyTables → Numbers → ResolvedStatementTree → Written
    → Written → Type 0
EmitsRegion result tables numbers tree old new = OnOk result ((jumps : JumpLabels)
    → EmitsStatement (numbered_by tables) (numbers_of numbers) tree jumps old new)

-- the originals of its firstprivate copies are loaded
abbrev pub LoadsGiven : BodyTables → Region → Written → Written → Type 0
LoadsGiven tables region old new =
    EmitsRow (numbered_by tables) (λ at. each (load_original at region.at.line) (given_to region)) old new

-- a function loads the originals of these copies there, unless memory runs out
abbrev pub LoadsOriginals : {T E : Type 0} → Result T E → Here → List copies.FirstCopy → Written → Written → Type 0
LoadsOriginals result here copied old new =
    Appends result here (λ at l. each (load_original at l)) (first_copies_of copied) old new

-- a function writes the size that the clauses of a `parallel` ask for there, if one of them does, unless memory runs
-- out
abbrev pub AppendsTeamSize : {T E : Type 0} → Result T E → Here → List ResolvedClause → Written → Written → Type 0
AppendsTeamSize result here clauses old new =
    Appends result here (λ at l. perhaps (value at l)) (value_in clauses) old new
