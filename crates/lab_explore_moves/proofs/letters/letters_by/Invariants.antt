use Rattle.std.proofs.Common.{◌≡◌}
use Rattle.lab_explore_moves.specs.Letters.{letters_below}
use Rattle.lab_explore_moves.proofs.letters.letters_by.Given as goal

abbrev pub invariant-loop-worker : goal.invariant-loop-worker
invariant-loop-worker l = l.labels.items ≡ letters_below l.names l.worker
