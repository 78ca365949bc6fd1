-- What a function's head declares is forgotten behind it.
use Rattle.std.proofs.Common.{◌≡◌, List, [], ◌∷◌, ◌++◌, Option, None, Some, refl, ap, ◌∙◌}
use Rattle.om_parser_tree.specs.Tree.{StatementTree}
use Rattle.om_pragma.specs.declared.clause.Name as names
use Rattle.om_parser_tree.specs.declared.tree.Parameter.{Parameter}
use Rattle.om_scope_tree.specs.declared.resolved.Variable.TheVariants as variables
use Rattle.om_scope_rules.specs.declared.names.Meaning.TheVariants as meanings
use Rattle.om_scope_rules.specs.declared.region.Region.{Region}
use Rattle.om_scope_tree.specs.declared.resolved.Shape.TheVariants as shapes
use Rattle.om_scope_rules.specs.Scopes.{Scope, Scopes, inside, outside, plain, within}
use Rattle.om_scope_rules.specs.Scopes.{after_optional_name, after_optionals, after_parameters}
use Rattle.om_scope_rules.specs.StatementRules.{after_statements}
use Rattle.om_scope.specs.Within.{StaysWithin, statements_within}

-- what a name that is declared leaves in the innermost scope
abbrev with_name : Scope → names.Name → Scope
with_name inner name = inner ++ (
  name.text,
  meanings.Variable (variables.Local name.span.start) shapes.Scalar,
) ∷ []

pub parameters_within : (inner : Scope) (region : Region) (scopes : Scopes) (ps : List (Parameter names.Name))
    → StaysWithin region scopes (after_parameters (within inner region scopes) ps)
parameters_within inner region scopes [] = (inner, refl)
parameters_within inner region scopes (p ∷ ps) = parameters_within (with_name inner p.name) region scopes ps

optionals_within : (inner : Scope) (region : Region) (scopes : Scopes) (ps : List (Parameter (Option names.Name)))
    → StaysWithin region scopes (after_optionals (within inner region scopes) ps)
optionals_within inner region scopes [] = (inner, refl)
optionals_within inner region scopes (p ∷ ps) = by p.name (λ own. optionals_within own region scopes ps)
  where
    by : (name : Option names.Name)
        → ((own : Scope) → StaysWithin region scopes (after_optionals (within own region scopes) ps))
        → StaysWithin region scopes (after_optionals (after_optional_name (within inner region scopes) name) ps)
    by None rest = rest inner
    by (Some name) rest = rest (with_name inner name)

pub prototype_outside : (scopes : Scopes) (ps : List (Parameter (Option names.Name)))
    → outside (after_optionals (inside scopes) ps) ≡ scopes
prototype_outside scopes ps = ap outside (optionals_within [] plain scopes ps).1

pub function_outside : (scopes : Scopes) (ps : List (Parameter names.Name)) (ss : List StatementTree)
    → outside (after_statements (after_parameters (inside scopes) ps) ss) ≡ scopes
function_outside scopes ps ss =
    let parameters = parameters_within [] plain scopes ps in
    ap (λ behind. outside (after_statements behind ss)) parameters.1
    ∙ ap outside (statements_within parameters.0 plain scopes ss).1
