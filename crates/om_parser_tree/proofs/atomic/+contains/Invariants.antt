use Rattle.std.proofs.Common.{◌≡◌, drop, map}
use Rattle.om_parser_tree.specs.AtomicForms.{arguments_contain}
use Rattle.om_parser_tree.specs.Tree.{arguments}
use Rattle.om_parser_tree.specs.View.{view_argument, view_expression}
use Rattle.om_parser_tree.proofs.atomic.+contains.Given as goal

-- the answer for the arguments that are left is the answer for all
abbrev pub invariant-any_contains-loop-value : goal.invariant-any_contains-loop-value
invariant-any_contains-loop-value l =
    arguments_contain (view_expression l.target) (arguments (map view_argument (drop l.value-index l.values)))
    ≡ arguments_contain (view_expression l.target) (arguments (map view_argument l.values))
