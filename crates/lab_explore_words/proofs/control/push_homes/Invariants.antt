use Rattle.std.proofs.Common.{◌≡◌, ◌++◌, drop}
use Rattle.lab_explore_words.specs.Lists.{each, list_words}
use Rattle.lab_explore_words.specs.Words.{home_words}
use Rattle.lab_explore_words.proofs.control.push_homes.Given as goal

-- the words so far and those of what is left are all
abbrev pub invariant-loop-home : goal.invariant-loop-home
invariant-loop-home l =
    l.out.items ++ each home_words (drop l.home-index l.homes)
    ≡ l.fn.out.items ++ list_words home_words l.homes
