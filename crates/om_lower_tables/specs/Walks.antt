-- What is promised of a walk over a tree: what it notes, and the numbers that it comes to.
use Rattle.std.specs.Prelude.{◌≡◌, ◌+◌, ◌++◌, ℕ, List, Option, map, sum}
use Rattle.std.specs.List.{flat_map}
use Rattle.om_lexer.specs.declared.token.Span.{Span}
use Rattle.om_scope_tree.specs.declared.resolved.ConstructKind.{ConstructKind}
use Rattle.om_scope_tree.specs.declared.resolved.ResolvedClause.{ResolvedClause}
use Rattle.om_scope_tree.specs.declared.resolved.ResolvedDeclarator.{ResolvedDeclarator}
use Rattle.om_scope_tree.specs.declared.resolved.ResolvedExpression.{ResolvedExpression}
use Rattle.om_scope_tree.specs.declared.resolved.ResolvedFunction.{ResolvedFunction}
use Rattle.om_scope_tree.specs.declared.resolved.ResolvedHead.{ResolvedHead}
use Rattle.om_scope_tree.specs.declared.resolved.ResolvedLoop.{ResolvedLoop}
use Rattle.om_scope_tree.specs.declared.resolved.ResolvedPart.{ResolvedPart}
use Rattle.om_scope_tree.specs.declared.resolved.ResolvedStart.{ResolvedStart}
use Rattle.om_scope_tree.specs.declared.resolved.ResolvedStatement.{ResolvedStatement}
use Rattle.om_scope_tree.specs.declared.resolved.ResolvedUpdate.{ResolvedUpdate}
use Rattle.om_scope_tree.specs.ResolvedTree.{ResolvedStatementTree}
use Rattle.om_scope_tree.specs.ResolvedView as view
use Rattle.om_scope_tree.specs.Weights.{declarator_weight, function_weight, perhaps_weight, start_weight}
use Rattle.om_lower_rules.specs.Bodies.{Numbers, behind, behind_function, behind_functions, first_numbers, next_body}
use Rattle.om_lower_rules.specs.Ends.{all_region_ends, ends_from, function_ends, parts_region_ends, region_ends}
use Rattle.om_lower_rules.specs.Mentions.{Mention, all_mentioned, clause_mentioned, declarator_mentioned, expression_formats}
use Rattle.om_lower_rules.specs.Mentions.{access_mention, format_mention}
use Rattle.om_lower_rules.specs.Mentions.{function_mentioned, lock_mention, loop_mentioned, mentioned, parts_mentioned}
use Rattle.om_lower_rules.specs.Mentions.{perhaps_mentioned, start_mentioned, update_mentioned}
use Rattle.om_lower_rules.specs.Numbering.{numbers_of}
use Rattle.om_lower_tables.specs.declared.mentions.Walk.{Walk}
use Rattle.om_lower_tables.specs.Noted.{AreNoted, accessed, noted}
use Rattle.om_lower_tables.specs.Trees.{part_trees, perhaps_tree, statement_trees}

-- ---- what a part mentions, of each kind

abbrev pub by_value : ResolvedExpression → (A : Type 0) → Mention A → List A
by_value value A m = m.in_expression (view.expression value)

abbrev pub by_perhaps : Option ResolvedExpression → (A : Type 0) → Mention A → List A
by_perhaps value A m = perhaps_mentioned m (perhaps_tree value)

abbrev pub by_declarators : List ResolvedDeclarator → (A : Type 0) → Mention A → List A
by_declarators declarators A m = flat_map (declarator_mentioned m) (map view.declarator declarators)

abbrev pub by_start : ResolvedStart → (A : Type 0) → Mention A → List A
by_start start A m = start_mentioned m (view.start start)

abbrev pub by_head : ResolvedHead → (A : Type 0) → Mention A → List A
by_head head A m = start_mentioned m (view.start head.start)
    ++ (perhaps_mentioned m (perhaps_tree head.condition) ++ perhaps_mentioned m (perhaps_tree head.step))

abbrev pub by_clause : ResolvedClause → (A : Type 0) → Mention A → List A
by_clause clause A m = clause_mentioned m (view.clause clause)

abbrev pub by_clauses : List ResolvedClause → (A : Type 0) → Mention A → List A
by_clauses clauses A m = flat_map (clause_mentioned m) (map view.clause clauses)

abbrev pub by_loop : ResolvedLoop → (A : Type 0) → Mention A → List A
by_loop repeated A m = loop_mentioned m (view.loop repeated)

abbrev pub by_construct : Span → ConstructKind → (A : Type 0) → Mention A → List A
by_construct at kind A m = m.by_construct at kind

abbrev pub by_update : ResolvedUpdate → (A : Type 0) → Mention A → List A
by_update update A m = update_mentioned m (view.update update)

abbrev pub by_statement : ResolvedStatement → (A : Type 0) → Mention A → List A
by_statement statement A m = mentioned m (view.statement statement)

abbrev pub by_statements : List ResolvedStatement → (A : Type 0) → Mention A → List A
by_statements items A m = all_mentioned m (statement_trees items)

abbrev pub by_parts : List ResolvedPart → (A : Type 0) → Mention A → List A
by_parts parts A m = parts_mentioned m (part_trees parts)

abbrev pub by_function : ResolvedFunction → (A : Type 0) → Mention A → List A
by_function function A m = function_mentioned m (view.function function)

-- the formats of an expression
abbrev pub formats_in : ResolvedExpression → List (List ℕ)
formats_in expression = expression_formats (view.expression expression)

-- ---- weights

-- the weight of declarations
abbrev pub declarators_weight : List ResolvedDeclarator → ℕ
declarators_weight declarators = sum (map declarator_weight (map view.declarator declarators))

-- the weight of the head of a `for`
abbrev pub head_weight : ResolvedHead → ℕ
head_weight head = start_weight (view.start head.start)
    + (perhaps_weight (perhaps_tree head.condition) + perhaps_weight (perhaps_tree head.step))

-- the weight of functions
abbrev pub functions_weight : List ResolvedFunction → ℕ
functions_weight functions = sum (map function_weight (map view.function functions))

-- ---- a walk over a part with regions

-- it notes what the part mentions
abbrev pub Finds : ((A : Type 0) → Mention A → List A) → Walk → Walk → Type 0
Finds by old new = AreNoted by old.found new.found

-- it comes to the numbers behind x
abbrev pub Passes : {X : Type 0} → (behind : Numbers → X → Numbers) → (x : X) → Walk → Walk → Type 0
Passes behind x old new = numbers_of new.numbers ≡ behind (numbers_of old.numbers) x

-- it adds the numbers behind each body in x
abbrev pub AddsEnds : {X : Type 0} → (ends : Numbers → X → List Numbers) → (x : X) → Walk → Walk → Type 0
AddsEnds ends x old new =
    map numbers_of new.ends.items ≡ map numbers_of old.ends.items ++ ends (numbers_of old.numbers) x

-- those behind each body in a statement, in statements, and in the parts of a `sections`
abbrev pub AddsRegionEnds : ResolvedStatement → Walk → Walk → Type 0
AddsRegionEnds statement old new = AddsEnds region_ends (view.statement statement) old new

abbrev pub AddsAllRegionEnds : List ResolvedStatement → Walk → Walk → Type 0
AddsAllRegionEnds items old new = AddsEnds all_region_ends (statement_trees items) old new

abbrev pub AddsPartsRegionEnds : List ResolvedPart → Walk → Walk → Type 0
AddsPartsRegionEnds parts old new = AddsEnds parts_region_ends (part_trees parts) old new

-- the numbers behind the body of a region, which is the next one
abbrev pub behind_body : Numbers → ResolvedStatementTree → Numbers
behind_body n s = behind (next_body n) s

-- ---- a walk over functions

-- the formats of a function are noted, its names of critical regions, and its lines of atomic reads and writes
abbrev pub HasFormats : ResolvedFunction → Walk → Walk → Type 0
HasFormats function old new =
    new.found.formats ≡ noted old.found.formats (function_mentioned format_mention (view.function function))

abbrev pub HasLocks : ResolvedFunction → Walk → Walk → Type 0
HasLocks function old new =
    new.found.locks ≡ noted old.found.locks (function_mentioned lock_mention (view.function function))

abbrev pub HasAccesses : ResolvedFunction → Walk → Walk → Type 0
HasAccesses function old new =
    new.found.atomics.entries
    ≡ accessed old.found.atomics.entries (function_mentioned access_mention (view.function function))

-- it comes to the numbers behind a function
abbrev pub PassesFunction : ResolvedFunction → Walk → Walk → Type 0
PassesFunction function old new = Passes behind_function (view.function function) old new

-- it adds the numbers behind each body of a function
abbrev pub AddsFunctionEnds : ResolvedFunction → Walk → Walk → Type 0
AddsFunctionEnds function old new = AddsEnds function_ends (view.function function) old new

-- the formats of all functions of a program are noted, their names of critical regions, and their lines of atomic
-- reads and writes
abbrev pub HaveFormats : List ResolvedFunction → Walk → Walk → Type 0
HaveFormats functions old new =
    let sights = flat_map (function_mentioned format_mention) (map view.function functions) in
    new.found.formats ≡ noted old.found.formats sights

abbrev pub HaveLocks : List ResolvedFunction → Walk → Walk → Type 0
HaveLocks functions old new =
    let sights = flat_map (function_mentioned lock_mention) (map view.function functions) in
    new.found.locks ≡ noted old.found.locks sights

abbrev pub HaveAccesses : List ResolvedFunction → Walk → Walk → Type 0
HaveAccesses functions old new =
    let sights = flat_map (function_mentioned access_mention) (map view.function functions) in
    new.found.atomics.entries ≡ accessed old.found.atomics.entries sights

-- the numbers behind them are added, body by body
abbrev pub HaveEnds : List ResolvedFunction → Walk → Walk → Type 0
HaveEnds functions old new =
    let ends = ends_from first_numbers (map view.function functions) in
    map numbers_of new.ends.items ≡ map numbers_of old.ends.items ++ ends

-- the numbers behind the last one
abbrev pub last_numbers : List ResolvedFunction → Numbers
last_numbers functions = behind_functions first_numbers (map view.function functions)
