use Rattle.std.proofs.Common.{◌≡◌, ◌++◌, drop}
use Rattle.lab_explore_moves.specs.Possible.{possible_among}
use Rattle.lab_explore_moves.proofs.possible.possible_among.Given as goal

-- those so far and those of what is left are all
abbrev pub invariant-loop-letter : goal.invariant-loop-letter
invariant-loop-letter l =
    l.all.items ++ possible_among l.machine (drop l.letter-index l.letters) ≡ possible_among l.machine l.letters
