use Rattle.std.proofs.Common.{◌≡◌, drop, map}
use Rattle.om_parser_tree.specs.AtomicForms.{same_arguments}
use Rattle.om_parser_tree.specs.Tree.{arguments}
use Rattle.om_parser_tree.specs.View.{view_argument}
use Rattle.om_parser_tree.proofs.atomic.+same.Given as goal

-- the answer for the arguments that are left is the answer for all
abbrev pub invariant-same_arguments-loop-value : goal.invariant-same_arguments-loop-value
invariant-same_arguments-loop-value l =
    same_arguments (arguments (map view_argument (drop l.value-index l.values)))
    (arguments (map view_argument l.rest)) ≡ same_arguments (arguments (map view_argument l.values))
    (arguments (map view_argument l.others))
