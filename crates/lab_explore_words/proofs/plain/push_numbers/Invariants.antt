use Rattle.std.proofs.Common.{◌≡◌, ◌++◌, drop}
use Rattle.lab_explore_words.specs.Lists.{each, list_words, number_words}
use Rattle.lab_explore_words.proofs.plain.push_numbers.Given as goal

-- the words so far and those of what is left are all
abbrev pub invariant-loop-number : goal.invariant-loop-number
invariant-loop-number l =
    l.out.items ++ each number_words (drop l.number-index l.numbers)
    ≡ l.fn.out.items ++ list_words number_words l.numbers
