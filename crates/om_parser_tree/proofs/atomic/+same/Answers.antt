use Rattle.std.proofs.Common.{◌≡◌, ◌==◌, ◌∙◌, ℕ, ◌≤◌, Bool, Option, ne_eqb, List, [], ◌∷◌, length, drop, map, sym, arith}
use Rattle.std.proofs.lemmas.List.{at_drop_all}
use Rattle.om_lexer.specs.declared.token.Span.{Span}
use Rattle.om_parser_tree.specs.declared.tree.Expression.{Expression}
use Rattle.om_parser_tree.specs.AtomicForms.{same_expression, same_arguments}
use Rattle.om_parser_tree.specs.Tree.{arguments}
use Rattle.om_parser_tree.specs.View.{view_argument}
use Rattle.om_parser_tree.proofs.atomic.+same.Goals as goal

-- where no argument is left of the first ones, all are the same if none is left of the others
others_left : (xs ys : List (Option Span × Expression)) (i : ℕ) (all : Bool) → length xs ≤ i
    → same_arguments (arguments (map view_argument (drop i xs))) (arguments (map view_argument ys)) ≡ all
    → (length ys == 0) ≡ all
unfolding same_expression same_arguments
others_left xs [] i all none e =
    sym (at_drop_all (λ zs. same_arguments (arguments (map view_argument zs)) (arguments [])) xs i none) ∙ e
others_left xs (y ∷ ys) i all none e =
    ne_eqb _ _ (omega arith) ∙ sym (at_drop_all (λ zs. same_arguments (arguments (map view_argument zs))
    (arguments (map view_argument (y ∷ ys)))) xs i none) ∙ e

pub same_arguments-returns : goal.same_arguments-returns
same_arguments-returns t c = c.is_empty.ensures
    ∙ others_left c.args.values.now c.loop-value.rest.now c.loop-value.value-index _ (omega arith) c.loop-value.invariant
