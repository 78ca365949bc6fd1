-- What a block declares is forgotten behind it.
use Rattle.std.proofs.Common.{◌≡◌, ℕ, ◌+◌, List, [], ◌∷◌, ◌++◌, Option, None, Some, refl, ap, ◌∙◌}
use Rattle.om_lexer.specs.declared.fault.SourceFault.{SourceFault}
use Rattle.om_parser_tree.specs.Tree.{ForStartTree, Nothing, StartExpression, StartDeclaration, StatementTree}
use Rattle.om_parser_tree.specs.Tree.{StatementsTree, NoStatements}
use Rattle.om_parser_tree.specs.Tree.{Statement, PartsTree, Part, PartTree}
use Rattle.om_scope_rules.specs.declared.region.Flow.{Flow}
use Rattle.om_scope_rules.specs.declared.region.Region.{Region}
use Rattle.om_scope_rules.specs.Faults.{first_of}
use Rattle.om_scope_rules.specs.Outcomes.{Refuses}
use Rattle.om_scope_rules.specs.Scopes.{Scope, Scopes, inside, outside, plain, within, declarators_of}
use Rattle.om_scope_rules.specs.Perhaps.{◌>>=◌}
use Rattle.om_scope_tree.specs.ResolvedTree as resolved
use Rattle.om_scope_tree.specs.ResolvedTree.{ResolvedStatementTree, ResolvedStatementsTree}
use Rattle.om_scope_rules.specs.StatementResolution.{resolved_statement, resolved_statements}
use Rattle.om_scope_rules.specs.StatementRules.{after_for_start, after_statement, after_statements, part_breaches}
use Rattle.om_scope_rules.specs.StatementRules.{parts_breaches, statement_breaches, statements_breaches}
use Rattle.om_scope_rules.specs.InRow.{first_of_left}
use Rattle.om_scope.specs.Within.{locals_within, statement_within, statements_within}
use Rattle.om_scope.proofs.Statements.{Made, made_step, made_whole}

pub body_outside : (scopes : Scopes) (s : StatementTree) → outside (after_statement (inside scopes) s) ≡ scopes
body_outside scopes s = ap outside (statement_within [] plain scopes s).1

pub construct_outside : (copies : Scope) (region : Region) (scopes : Scopes) (s : StatementTree)
    → outside (after_statement (within copies region scopes) s) ≡ scopes
construct_outside copies region scopes s = ap outside (statement_within copies region scopes s).1

pub block_outside : (scopes : Scopes) (ss : List StatementTree) → outside (after_statements (inside scopes) ss) ≡ scopes
block_outside scopes ss = ap outside (statements_within [] plain scopes ss).1

pub for_outside : (scopes : Scopes) (start : ForStartTree) → outside (after_for_start (inside scopes) start) ≡ scopes
for_outside scopes (Nothing semicolon) = refl
for_outside scopes (StartExpression e semicolon) = refl
for_outside scopes (StartDeclaration d) = ap outside (locals_within [] plain scopes (declarators_of d)).1

pub statements_refuse : (scopes state : Scopes) (flow : Flow) (all : StatementsTree) (s : StatementTree)
    (rest : StatementsTree) (fault : SourceFault)
    → statements_breaches scopes flow all ≡ statements_breaches state flow (Statement s rest)
    → Refuses (statement_breaches state flow s) fault
    → Refuses (statements_breaches scopes flow all) fault
unfolding statements_breaches
statements_refuse scopes state flow all s rest fault left refused other = ap first_of left ∙ first_of_left _ _ fault
    (refused other)

pub statements_step : (scopes state : Scopes) (flow : Flow) (all : StatementsTree) (s : StatementTree)
    (rest : StatementsTree)
    → statements_breaches scopes flow all ≡ statements_breaches state flow (Statement s rest) → statement_breaches
    state flow s ≡ []
    → statements_breaches scopes flow all ≡ statements_breaches (after_statement state s) flow rest
unfolding statements_breaches
statements_step scopes state flow all s rest left whole = left
    ∙ ap (λ here. here ++ statements_breaches (after_statement state s) flow rest) whole

pub parts_refuse : (scopes : Scopes) (flow : Flow) (before : ℕ) (all : PartsTree) (part : PartTree)
    (rest : PartsTree) (fault : SourceFault)
    → parts_breaches scopes flow 0 all ≡ parts_breaches scopes flow before (Part part.section part.items rest)
    → Refuses (part_breaches scopes flow before part) fault
    → Refuses (parts_breaches scopes flow 0 all) fault
unfolding parts_breaches
parts_refuse scopes flow before all part rest fault left refused other =
    ap first_of left ∙ first_of_left (part_breaches scopes flow before part)
    (parts_breaches scopes flow (before + 1) rest) fault (refused other)

pub parts_step : (scopes : Scopes) (flow : Flow) (before : ℕ) (all : PartsTree) (part : PartTree) (rest : PartsTree)
    → parts_breaches scopes flow 0 all ≡ parts_breaches scopes flow before (Part part.section part.items rest)
    → part_breaches scopes flow before part ≡ []
    → parts_breaches scopes flow 0 all ≡ parts_breaches scopes flow (before + 1) rest
unfolding parts_breaches
parts_step scopes flow before all part rest left whole =
    left ∙ ap (λ here. here ++ parts_breaches scopes flow (before + 1) rest) whole

pub statements_made : (state : Scopes) (parallel : Option ℕ) (s : StatementTree) (rest : StatementsTree)
    (whole : Option ResolvedStatementsTree) (made : List ResolvedStatementTree) (t : ResolvedStatementTree)
    → Made whole (resolved_statements state parallel (Statement s rest)) made → resolved_statement state parallel s
    ≡ Some t
    → Made whole (resolved_statements (after_statement state s) parallel rest) (made ++ t ∷ [])
unfolding resolved_statements
statements_made state parallel s rest whole made t left one = made_step whole _ made t (λ t. t)
    (resolved_statement state parallel s) left (same (resolved_statement state parallel s) ∙ one)
  where
    same : (found : Option ResolvedStatementTree) → (found >>= λ t. Some t) ≡ found
    same None = refl
    same (Some t) = refl

pub statements_whole : (state : Scopes) (parallel : Option ℕ) (whole : Option ResolvedStatementsTree)
    (made : List ResolvedStatementTree)
    → Made whole (resolved_statements state parallel NoStatements) made → whole ≡ Some (resolved.statements made)
unfolding resolved_statements
statements_whole state parallel whole made left = made_whole whole made left
