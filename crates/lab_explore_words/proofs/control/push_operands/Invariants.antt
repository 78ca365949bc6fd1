use Rattle.std.proofs.Common.{◌≡◌, ◌++◌, drop}
use Rattle.lab_explore_words.specs.Lists.{each, list_words}
use Rattle.lab_explore_words.specs.Words.{operand_words}
use Rattle.lab_explore_words.proofs.control.push_operands.Given as goal

-- the words so far and those of what is left are all
abbrev pub invariant-loop-operand : goal.invariant-loop-operand
invariant-loop-operand l =
    l.out.items ++ each operand_words (drop l.operand-index l.operands)
    ≡ l.fn.out.items ++ list_words operand_words l.operands
