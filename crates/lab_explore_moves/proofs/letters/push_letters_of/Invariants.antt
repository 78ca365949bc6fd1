use Rattle.std.proofs.Common.{◌≡◌, ◌++◌, ℕ, List, map, drop}
use Rattle.lab_explore_closed.specs.Starts.{start_by}
use Rattle.lab_explore_moves.specs.Letters.{letters_of}
use Rattle.lab_explore_moves.proofs.letters.push_letters_of.Given as goal

-- the steps so far and those that are left are all
abbrev pub invariant-loop-name : goal.invariant-loop-name
invariant-loop-name l =
    l.labels.items ++ map (λ (name : List ℕ). start_by l.worker name) (drop l.name-index l.names)
    ≡ l.fn.labels.items ++ letters_of l.worker l.names
