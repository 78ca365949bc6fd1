-- A declaration, a directive or a loop without a breach has a resolution.
use Rattle.std.proofs.Common.{◌≡◌, ℕ, Bool, true, false, cond, not, ◌||◌, List, [], ◌++◌, Option, None, Some, refl}
use Rattle.std.specs.Prelude.{IsSome, ◌&&◌}
use Rattle.om_lexer.specs.declared.fault.FaultCode.TheVariants as faults
use Rattle.om_pragma.specs.declared.clause.Clause.{Clause}
use Rattle.om_pragma.specs.declared.clause.Clause.TheVariants as clauses
use Rattle.om_pragma.specs.declared.clause.DataSharing.{DataSharing}
use Rattle.om_pragma.specs.declared.clause.DataSharing.TheVariants as lists
use Rattle.om_pragma.specs.declared.clause.Name as names
use Rattle.om_pragma.specs.declared.clause.NameList.{NameList}
use Rattle.om_pragma.specs.declared.tree.Directive.{Directive}
use Rattle.om_pragma.specs.declared.tree.DirectiveName.{DirectiveName}
use Rattle.om_pragma.specs.declared.tree.DirectiveName.TheVariants as directives
use Rattle.om_pragma.specs.Questions.{is_stand_alone}
use Rattle.om_parser_tree.specs.Tree.{ExpressionTree, InitializerTree, DeclaratorTree, ForStartTree, Nothing, StartExpression}
use Rattle.om_parser_tree.specs.Tree.{StartDeclaration}
use Rattle.om_scope_rules.specs.declared.region.Flow.{Flow}
use Rattle.om_scope_tree.specs.declared.resolved.CopyKind.{CopyKind}
use Rattle.om_scope_tree.specs.declared.resolved.CopyKind.TheVariants as copies
use Rattle.om_scope_tree.specs.declared.resolved.ResolvedSchedule.{ResolvedSchedule}
use Rattle.om_scope_rules.specs.declared.names.Meaning.{Meaning}
use Rattle.om_scope_rules.specs.declared.names.Meaning.TheVariants as meanings
use Rattle.om_scope_rules.specs.DirectiveRules.{Listed, nothing_listed, is_listed, after_name, is_variable, is_mislisted}
use Rattle.om_scope_rules.specs.DirectiveRules.{uses_original, listed_breaches, names_in, names_breaches, clause_breaches}
use Rattle.om_scope_rules.specs.DirectiveRules.{item_breaches, after_item, directive_breaches, nesting_breaches}
use Rattle.om_scope_rules.specs.DirectiveRules.{flushed_breaches, list_breaches, flush_breaches}
use Rattle.om_scope_rules.specs.ExpressionRules.{undeclared_breaches, expression_breaches, is_scalar, is_copied_array}
use Rattle.om_scope_rules.specs.ExpressionRules.{misplaced_breaches}
use Rattle.om_scope_rules.specs.Faults.{breach_if, breaches_along}
use Rattle.om_scope_rules.specs.Loops.{Loop}
use Rattle.om_scope_rules.specs.Perhaps.{each}
use Rattle.om_scope_rules.specs.Resolution.{variable_of, variable_named, resolved_expression}
use Rattle.om_scope_rules.specs.Scopes.{Scopes, meaning_of, after_local, declarators_of}
use Rattle.om_scope_rules.specs.Sharing.{is_unlisted}
use Rattle.om_scope_rules.specs.StatementResolution.{resolved_initial, resolved_declarator, resolved_declarators}
use Rattle.om_scope_rules.specs.StatementResolution.{resolved_listed, kind_of, resolved_clause, resolved_clauses}
use Rattle.om_scope_rules.specs.StatementResolution.{resolved_item, bounds_scopes, resolved_loop, resolved_start}
use Rattle.om_scope_rules.specs.StatementResolution.{resolved_perhaps, flushed, resolved_alone}
use Rattle.om_scope_rules.specs.StatementRules.{redeclared_breaches, array_size_breaches, initializer_breaches}
use Rattle.om_scope_rules.specs.StatementRules.{local_breaches, locals_breaches, return_breaches, perhaps_breaches}
use Rattle.om_scope_rules.specs.StatementRules.{for_start_breaches, variable_breaches, values_breaches, found_breaches}
use Rattle.om_scope_rules.specs.StatementRules.{with_iteration}
use Rattle.om_scope_rules.proofs.ExpressionsResolve.{has_expression, never_misplaced, scalar_is_variable}
use Rattle.om_scope_rules.proofs.SomeSteps.{some_then, some_each, some_all_of, some_each_along, some_each_flat}
use Rattle.om_scope_rules.proofs.Unbroken.{front, back, not_broken, not_false, left_false}

-- ---- declarations

has_initial : (scopes : Scopes) (initializer : Option (InitializerTree ExpressionTree))
    → initializer_breaches scopes initializer
    ≡ [] → IsSome (resolved_initial scopes initializer)
has_initial scopes None whole = refl
has_initial scopes (Some i) whole = some_then (resolved_expression scopes i.value) _
    (has_expression scopes true i.value whole) (λ x. refl)

has_declarator : (scopes : Scopes) (d : DeclaratorTree ExpressionTree) → local_breaches scopes d ≡ []
    → IsSome (resolved_declarator scopes d)
unfolding local_breaches resolved_declarator
has_declarator scopes d whole =
    some_then (resolved_initial (after_local scopes d) d.initializer) _
    (has_initial (after_local scopes d) d.initializer
    (back (redeclared_breaches scopes d.name ++ array_size_breaches d)
    (initializer_breaches (after_local scopes d) d.initializer) whole)) (λ x. refl)

pub has_declarators : (scopes : Scopes) (ds : List (DeclaratorTree ExpressionTree)) → locals_breaches scopes ds ≡ []
    → IsSome (resolved_declarators scopes ds)
has_declarators scopes ds whole = some_each_along local_breaches after_local resolved_declarator has_declarator ds
    scopes whole

pub has_start : (scopes : Scopes) (start : ForStartTree) → for_start_breaches scopes start ≡ []
    → IsSome (resolved_start scopes start)
unfolding resolved_start
has_start scopes (Nothing semicolon) whole = refl
has_start scopes (StartExpression e semicolon) whole = some_then (resolved_expression scopes e) _
    (has_expression scopes false e whole) (λ x. refl)
has_start scopes (StartDeclaration d) whole = some_then (resolved_declarators scopes (declarators_of d)) _
    (has_declarators scopes (declarators_of d) whole) (λ ds. refl)

pub has_perhaps : (scopes : Scopes) (for_value : Bool) (e : Option ExpressionTree) → perhaps_breaches scopes
    for_value e ≡ [] → IsSome (resolved_perhaps scopes e)
has_perhaps scopes for_value None whole = refl
has_perhaps scopes for_value (Some e) whole = some_then (resolved_expression scopes e) _
    (has_expression scopes for_value e whole) (λ x. refl)

pub has_returned : (scopes : Scopes) (flow : Flow) (value : Option ExpressionTree) → return_breaches scopes flow
    value ≡ [] → IsSome (resolved_perhaps scopes value)
has_returned scopes flow None whole = refl
has_returned scopes flow (Some e) whole = by flow.returns whole
  where
    by : (returns : Bool) → cond returns (expression_breaches scopes true e) (misplaced_breaches scopes e) ≡ []
        → IsSome (resolved_perhaps scopes (Some e))
    by true w = some_then (resolved_expression scopes e) _ (has_expression scopes true e w) (λ x. refl)
    by false w = absurd (never_misplaced scopes e w)

-- ---- clauses

variable_there : (meaning : Option Meaning) → is_variable meaning ≡ true → IsSome (variable_of meaning)
variable_there (Some (meanings.Variable v shape)) e = refl
variable_there (Some (meanings.Function signature)) e = cc
variable_there (Some meanings.Printf) e = cc
variable_there None e = cc

well_listed : (sharing : DataSharing) (scopes : Scopes) (name : List ℕ) → is_mislisted sharing scopes name ≡ false
    → IsSome (variable_of (meaning_of scopes name))
well_listed lists.Shared scopes name e = variable_there (meaning_of scopes name)
    (not_false (is_variable (meaning_of scopes name)) (left_false (not (is_variable (meaning_of scopes name)))
    (is_copied_array scopes name) e))
well_listed lists.Private scopes name e = scalar_is_variable (meaning_of scopes name)
    (not_false (is_scalar (meaning_of scopes name)) e)
well_listed lists.Firstprivate scopes name e = scalar_is_variable (meaning_of scopes name)
    (not_false (is_scalar (meaning_of scopes name)) e)

has_variable : (scopes : Scopes) (sharing : DataSharing) (listed : Listed) (name : names.Name) → listed_breaches
    scopes sharing listed name ≡ [] → IsSome (variable_named scopes name)
has_variable scopes sharing listed name whole =
    let wrong = is_mislisted sharing scopes name.text in
    let twice = is_listed listed name.text in
    let unlisted = breach_if (uses_original sharing && is_unlisted scopes name.text) faults.Unlisted name.span.start in
    let right = not_broken (wrong || twice) faults.Misuse name.span.start (back (undeclared_breaches scopes name)
    (breach_if (wrong || twice) faults.Misuse name.span.start) (front _ unlisted whole)) in
    well_listed sharing scopes name.text (left_false wrong twice right)

has_names : (scopes : Scopes) (sharing : DataSharing) (kind : Option CopyKind) (listed : Listed)
    (ns : List names.Name) → names_breaches scopes sharing listed ns ≡ []
    → IsSome (each (resolved_listed kind scopes) ns)
has_names scopes sharing kind listed ns whole =
    some_each (listed_breaches scopes sharing) (after_name sharing) (resolved_listed kind scopes)
    (λ state name w. some_then (variable_named scopes name) _ (has_variable scopes sharing state name w)
    (λ v. refl)) ns listed whole

has_clause : (scopes : Scopes) (listed : Listed) (clause : Clause ExpressionTree) → clause_breaches scopes listed
    clause ≡ [] → IsSome (resolved_clause scopes clause)
unfolding clause_breaches resolved_clause
has_clause scopes listed (clauses.Value kind s v) whole = some_then (resolved_expression scopes v.expression) _
    (has_expression scopes true v.expression whole) (λ e. refl)
has_clause scopes listed (clauses.Default s argument) whole = refl
has_clause scopes listed (clauses.Data sharing s list) whole = has_names scopes sharing (kind_of sharing) listed
    (names_in list.first list.rest) whole
has_clause scopes listed (clauses.Reduction s r) whole = has_names scopes lists.Firstprivate
    (Some (copies.Reduction r.operator)) listed (names_in r.first r.rest) whole
has_clause scopes listed (clauses.Schedule s argument) whole = refl
has_clause scopes listed (clauses.Plain kind s) whole = refl

pub has_clauses : (scopes : Scopes) (flow : Flow) (d : Directive ExpressionTree) → directive_breaches scopes flow d
    ≡ [] → IsSome (resolved_clauses scopes d.clauses)
has_clauses scopes flow d whole =
    some_all_of (item_breaches scopes) after_item (resolved_item scopes) (λ state item w. has_clause scopes state
    item.clause w) d.clauses nothing_listed
    (back (nesting_breaches flow d.name) (breaches_along (item_breaches scopes) after_item nothing_listed d.clauses)
    whole)

-- ---- canonical loops

has_bounds : (scopes : Scopes) (found : Loop) → found_breaches scopes found ≡ [] → values_breaches
    (bounds_scopes scopes found) found ≡ []
has_bounds scopes found whole = by found.start.is_declared whole
  where
    by : (declared : Bool) → cond declared (values_breaches (with_iteration scopes found) found)
        (variable_breaches scopes found.start.variable ++ values_breaches scopes found) ≡ []
        → values_breaches (cond declared (with_iteration scopes found) scopes) found ≡ []
    by true w = w
    by false w = back (variable_breaches scopes found.start.variable) (values_breaches scopes found) w

pub has_loop : (scopes : Scopes) (schedule : ResolvedSchedule) (found : Loop) → found_breaches scopes found ≡ []
    → IsSome (resolved_loop scopes schedule found)
unfolding resolved_loop
has_loop scopes schedule found whole =
    let inner = bounds_scopes scopes found in
    let values = has_bounds scopes found whole in
    let to = has_expression inner true found.to (back (expression_breaches inner true found.start.from)
    (expression_breaches inner true found.to) values) in
    some_then (resolved_expression inner found.start.from) _ (has_expression inner true found.start.from
    (front (expression_breaches inner true found.start.from) (expression_breaches inner true found.to) values))
    (λ x. some_then (resolved_expression inner found.to) _ to (λ y. refl))

-- ---- directives that stand alone

has_flushed : (scopes : Scopes) (list : Option NameList) → list_breaches scopes list ≡ [] → IsSome (flushed scopes list)
has_flushed scopes None whole = refl
has_flushed scopes (Some list) whole = some_each_flat (flushed_breaches scopes) (variable_named scopes)
    (λ name w. has_variable scopes lists.Shared nothing_listed name w) (names_in list.first list.rest) whole

pub has_alone : (scopes : Scopes) (d : Directive ExpressionTree) (name : DirectiveName) → is_stand_alone name ≡ true
    → flush_breaches scopes name ≡ [] → IsSome (resolved_alone scopes d name)
has_alone scopes d (directives.Flush s list) alone whole = some_then (flushed scopes list) _
    (has_flushed scopes list whole) (λ vs. refl)
has_alone scopes d (directives.Barrier s) alone whole = refl
has_alone scopes d (directives.Taskwait s) alone whole = refl
has_alone scopes d (directives.Taskyield s) alone whole = refl
has_alone scopes d _ alone whole = cc
