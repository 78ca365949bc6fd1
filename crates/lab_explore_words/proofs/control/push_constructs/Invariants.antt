use Rattle.std.proofs.Common.{◌≡◌, ◌++◌, drop}
use Rattle.lab_explore_words.specs.Lists.{each, list_words}
use Rattle.lab_explore_words.specs.Words.{construct_words}
use Rattle.lab_explore_words.proofs.control.push_constructs.Given as goal

-- the words so far and those of what is left are all
abbrev pub invariant-loop-construct : goal.invariant-loop-construct
invariant-loop-construct l =
    l.out.items ++ each construct_words (drop l.construct-index l.constructs)
    ≡ l.fn.out.items ++ list_words construct_words l.constructs
