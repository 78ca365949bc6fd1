-- What contracts of the functions say that write the code of statements (`src/statement.rt`).
--
-- The code of a body is written statement by statement. A spot has what a statement must know of the code round it:
-- the numbers that the next `parallel`, `task` and `sections` in it get, and the labels to which `break` and `continue`
-- jump. A name that ends in `There` depends on the spot, and so do `GivesAllBehind` and `GivesPartsBehind`. First
-- comes what is asked of a statement before it is written, and then what is promised once it is, unless memory runs
-- out: of its code, and of the scopes of the names in it. The same is said of statements one behind the other, and of
-- the parts of a `sections`.
use Rattle.std.specs.Prelude.{◌≡◌, List, IfOk, OnOk, Result, is_some}
use Rattle.om_lower.specs.Parts.{EmitsParts}
use Rattle.om_lower.specs.declared.worksharing.PartsSpot.{PartsSpot}
use Rattle.om_scope_tree.specs.declared.resolved.ResolvedPart.{ResolvedPart}
use Rattle.om_scope_tree.specs.declared.resolved.ResolvedStatement.{ResolvedStatement}
use Rattle.om_scope_tree.specs.ResolvedView as view
use Rattle.om_lower_rules.specs.Bodies as rows
use Rattle.om_lower_rules.specs.BodyTables.{numbered_by}
use Rattle.om_lower_rules.specs.Coded.{StatementHasCode, StatementsHaveCode}
use Rattle.om_lower_rules.specs.Ends.{HasAllEnds, HasEnds, HasPartsEnds}
use Rattle.om_lower_rules.specs.Numbering.{numbers_of}
use Rattle.om_lower_rules.specs.ProgramTables.{known_in}
use Rattle.om_lower_rules.specs.Rows.{Site}
use Rattle.om_lower_rules.specs.Scopes.{Scoping, all_scopes, block, part_scopes, scopes}
use Rattle.om_lower_rules.specs.declared.body.BodyTables.{BodyTables}
use Rattle.om_lower_rules.specs.declared.tables.Numbers.{Numbers}
use Rattle.om_lower_tables.specs.Trees.{part_trees, statement_trees}
use Rattle.om_lower_emit.specs.Statements.{EmitsStatement, EmitsStatements}
use Rattle.om_lower_emit.specs.Scoped.{EmitsScopes}
use Rattle.om_lower_emit.specs.declared.spot.Spot.{Spot}
use Rattle.om_lower_emit.specs.declared.writing.Writing.{Writing}

-- ---- a statement

-- it has code there
abbrev pub HasCodeThere : Spot → ResolvedStatement → Type 0
HasCodeThere spot tree =
    StatementHasCode (is_some spot.jumps.over) (is_some spot.jumps.next) (view.statement tree)

-- the tables have the regions in it
abbrev pub HasEndsThere : BodyTables → Spot → ResolvedStatement → Type 0
HasEndsThere tables spot tree = HasEnds (known_in tables) (numbers_of spot.numbers) (view.statement tree)

-- its code is written
abbrev pub EmitsThere : {T E : Type 0} → Result T E → BodyTables → Spot → ResolvedStatement → Writing → Writing
    → Type 0
EmitsThere result tables spot tree old new = OnOk result (EmitsStatement (numbered_by tables)
    (numbers_of spot.numbers) (view.statement tree) spot.jumps old.draft new.draft)

-- the scopes in what is written are those of this row
abbrev pub ScopesAre : {T E : Type 0} → Result T E → BodyTables → (Site → Scoping) → Writing → Writing → Type 0
ScopesAre result tables row old new = OnOk result (EmitsScopes (numbered_by tables) row old new)

-- they are those of the statement, or of the block that it is where it stands in another one
abbrev pub ScopesOf : {T E : Type 0} → Result T E → BodyTables → ResolvedStatement → Writing → Writing → Type 0
ScopesOf result tables tree old new = ScopesAre result tables (λ at. scopes at (view.statement tree)) old new

abbrev pub ScopesOfBlock : {T E : Type 0} → Result T E → BodyTables → ResolvedStatement → Writing → Writing → Type 0
ScopesOfBlock result tables tree old new =
    ScopesAre result tables (λ at. block (scopes at (view.statement tree))) old new

-- ---- statements

abbrev pub HaveCodeThere : Spot → List ResolvedStatement → Type 0
HaveCodeThere spot items =
    StatementsHaveCode (is_some spot.jumps.over) (is_some spot.jumps.next) (statement_trees items)

abbrev pub HaveEndsThere : BodyTables → Spot → List ResolvedStatement → Type 0
HaveEndsThere tables spot items = HasAllEnds (known_in tables) (numbers_of spot.numbers) (statement_trees items)

-- the numbers behind them are given
abbrev pub GivesAllBehind : {E : Type 0} → Result Numbers E → Spot → List ResolvedStatement → Type 0
GivesAllBehind result spot items =
    IfOk result (λ after. numbers_of after ≡ rows.behind_all (numbers_of spot.numbers) (statement_trees items))

abbrev pub EmitsAllThere : {T E : Type 0} → Result T E → BodyTables → Spot → List ResolvedStatement → Writing
    → Writing → Type 0
EmitsAllThere result tables spot items old new = OnOk result (EmitsStatements (numbered_by tables)
    (numbers_of spot.numbers) (statement_trees items) spot.jumps old.draft new.draft)

abbrev pub ScopesOfAll : {T E : Type 0} → Result T E → BodyTables → List ResolvedStatement → Writing → Writing → Type 0
ScopesOfAll result tables items old new = ScopesAre result tables (λ at. all_scopes at (statement_trees items)) old new

-- ---- the parts of a `sections`

-- the tables have the regions in them
abbrev pub HavePartsEndsThere : BodyTables → PartsSpot → List ResolvedPart → Type 0
HavePartsEndsThere tables spot parts = HasPartsEnds (known_in tables) (numbers_of spot.numbers) (part_trees parts)

-- the numbers behind them are given
abbrev pub GivesPartsBehind : {E : Type 0} → Result Numbers E → PartsSpot → List ResolvedPart → Type 0
GivesPartsBehind result spot parts =
    IfOk result (λ after. numbers_of after ≡ rows.behind_parts (numbers_of spot.numbers) (part_trees parts))

-- their code is written
abbrev pub EmitsPartsThere : {T E : Type 0} → Result T E → BodyTables → PartsSpot → List ResolvedPart → Writing
    → Writing → Type 0
EmitsPartsThere result tables spot parts old new = OnOk result (EmitsParts (numbered_by tables)
    (numbers_of spot.numbers) (part_trees parts) spot old.draft new.draft)

abbrev pub ScopesOfParts : {T E : Type 0} → Result T E → BodyTables → List ResolvedPart → Writing → Writing → Type 0
ScopesOfParts result tables parts old new = ScopesAre result tables (λ at. part_scopes at (part_trees parts)) old new
