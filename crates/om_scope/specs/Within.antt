-- For proofs: what is declared in a construct or block stays within it.
use Rattle.std.proofs.Common.{◌≡◌, List, [], ◌∷◌, ◌++◌, refl, ap, ◌∙◌}
use Rattle.om_parser_tree.specs.Tree.{DeclaratorTree, ExpressionTree, StatementTree}
use Rattle.om_parser_tree.specs.Tree.{LocalDeclaration, Block, Empty, Expression, If, IfElse, While, Do, For, Return, Break}
use Rattle.om_parser_tree.specs.Tree.{Continue, Construct, StandAlone, Sections}
use Rattle.om_scope_tree.specs.declared.resolved.Variable.TheVariants as variables
use Rattle.om_scope_rules.specs.declared.names.Meaning.TheVariants as meanings
use Rattle.om_scope_rules.specs.declared.region.Region.{Region}
use Rattle.om_scope_rules.specs.Scopes.{Scope, Scopes, within, declarators_of, shape_of, after_locals}
use Rattle.om_scope_rules.specs.StatementRules.{after_statement, after_statements}

-- in the same construct or block still
abbrev pub StaysWithin : Region → Scopes → Scopes → Type 0
StaysWithin region scopes behind = (inner : Scope) × (behind ≡ within inner region scopes)

pub locals_within : (inner : Scope) (region : Region) (scopes : Scopes) (ds : List (DeclaratorTree ExpressionTree))
    → StaysWithin region scopes (after_locals (within inner region scopes) ds)
locals_within inner region scopes [] = (inner, refl)
locals_within inner region scopes (d ∷ ds) = locals_within
    (inner ++ (d.name.text, meanings.Variable (variables.Local d.name.span.start) (shape_of d.array)) ∷ []) region
    scopes ds

pub statement_within : (inner : Scope) (region : Region) (scopes : Scopes) (s : StatementTree) → StaysWithin region
    scopes (after_statement (within inner region scopes) s)
statement_within inner region scopes (LocalDeclaration d) = locals_within inner region scopes (declarators_of d)
statement_within inner region scopes (Block left items right) = (inner, refl)
statement_within inner region scopes (Empty semicolon) = (inner, refl)
statement_within inner region scopes (Expression e semicolon) = (inner, refl)
statement_within inner region scopes (If at c s) = (inner, refl)
statement_within inner region scopes (IfElse at c s other t) = (inner, refl)
statement_within inner region scopes (While at c s) = (inner, refl)
statement_within inner region scopes (Do at s again c semicolon) = (inner, refl)
statement_within inner region scopes (For h s) = (inner, refl)
statement_within inner region scopes (Return at value semicolon) = (inner, refl)
statement_within inner region scopes (Break at semicolon) = (inner, refl)
statement_within inner region scopes (Continue at semicolon) = (inner, refl)
statement_within inner region scopes (Construct d s) = (inner, refl)
statement_within inner region scopes (StandAlone d) = (inner, refl)
statement_within inner region scopes (Sections d left parts right) = (inner, refl)

pub statements_within : (inner : Scope) (region : Region) (scopes : Scopes) (ss : List StatementTree)
    → StaysWithin region scopes (after_statements (within inner region scopes) ss)
statements_within inner region scopes [] = (inner, refl)
statements_within inner region scopes (s ∷ ss) =
    let one = statement_within inner region scopes s in
    let rest = statements_within one.0 region scopes ss in
    (rest.0, ap (λ behind. after_statements behind ss) one.1 ∙ rest.1)
