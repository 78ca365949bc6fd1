-- What is no target, where one has to stand.
use Rattle.std.proofs.Common.{◌≡◌, false, refl, sym, ◌∙◌}
use Rattle.om_parser_tree.specs.declared.tree.Expression.{Expression, fold-roll-Expression, out-Expression, roll-Expression}
use Rattle.om_parser_tree.specs.declared.tree.Expression.{roll-out-Expression}
use Rattle.om_parser_tree.specs.declared.tree.Expression.TheOpen.{Expression-F}
use Rattle.om_parser_tree.specs.declared.tree.Expression.TheVariants as expressions
use Rattle.om_parser_tree.specs.Tree.{ExpressionTree, Paren}
use Rattle.om_parser_tree.specs.View.{view_expression}
use Rattle.om_scope_rules.specs.ExpressionRules.{is_target, misplaced_breaches, target_breaches}
use Rattle.om_scope_rules.specs.Scopes.{Scopes}

by_layer : (scopes : Scopes) (e : Expression) (d : Expression-F Expression) → e ≡ roll-Expression d
    → ((name : _) → e ≡ expressions.Name name → ⊥)
    → ((left : _) (inner : _) (right : _) → e ≡ expressions.Paren left inner right → ⊥)
    → ((name : _) (left : _) (index : _) (right : _) → e ≡ expressions.Index name left index right → ⊥)
    → target_breaches scopes (view_expression e) ≡ misplaced_breaches scopes (view_expression e)
unfolding target_breaches
by_layer scopes e (Expression-F.Name n) is name paren index = absurd (name n (is ∙ expressions.rolls-Name n))
by_layer scopes e (Expression-F.Paren left i right) is name paren index = absurd (paren left i right
    (is ∙ expressions.rolls-Paren left i right))
by_layer scopes e (Expression-F.Index n left i right) is name paren index = absurd (index n left i right
    (is ∙ expressions.rolls-Index n left i right))
by_layer scopes e (Expression-F.Constant n) is name paren index = rw (is, fold-roll-Expression) refl
by_layer scopes e (Expression-F.Text t) is name paren index = rw (is, fold-roll-Expression) refl
by_layer scopes e (Expression-F.Call n left values right) is name paren index = rw (is, fold-roll-Expression) refl
by_layer scopes e (Expression-F.Prefix o at i) is name paren index = rw (is, fold-roll-Expression) refl
by_layer scopes e (Expression-F.Postfix i o at) is name paren index = rw (is, fold-roll-Expression) refl
by_layer scopes e (Expression-F.Binary a o at b) is name paren index = rw (is, fold-roll-Expression) refl
by_layer scopes e (Expression-F.Conditional c question a colon b) is name paren index = rw (is, fold-roll-Expression)
    refl
by_layer scopes e (Expression-F.Assign a o at b) is name paren index = rw (is, fold-roll-Expression) refl

pub no_target : (scopes : Scopes) (e : Expression) → ((name : _) → e ≡ expressions.Name name → ⊥)
    → ((left : _) (inner : _) (right : _) → e ≡ expressions.Paren left inner right → ⊥)
    → ((name : _) (left : _) (index : _) (right : _) → e ≡ expressions.Index name left index right → ⊥)
    → target_breaches scopes (view_expression e) ≡ misplaced_breaches scopes (view_expression e)
no_target scopes e = by_layer scopes e (out-Expression e) (sym (roll-out-Expression e))

pub no_target_inside : (scopes : Scopes) (left : _) (inner : ExpressionTree) (right : _) → is_target inner ≡ false
    → target_breaches scopes (Paren left inner right) ≡ misplaced_breaches scopes (Paren left inner right)
unfolding target_breaches
no_target_inside scopes left inner right none = rw none refl
