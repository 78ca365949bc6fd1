use Rattle.std.proofs.Common.{◌≡◌, length}
use Rattle.om_lower.specs.Inputs.{tree_of}
use Rattle.om_lower.proofs.Coding.{IsBehind}
use Rattle.om_lower_rules.specs.Numbering.{numbers_of}
use Rattle.om_lower.proofs.functions.add_functions.Given as goal

-- the variables of all bodies behind which it stands are there
abbrev pub invariant-loop-index : goal.invariant-loop-index
invariant-loop-index l =
    IsBehind (tree_of l.input) l.lowered.lists l.lowered.functions l.index
    (numbers_of l.numbers)
    × (length l.slots.items ≡ l.numbers.bodies)
