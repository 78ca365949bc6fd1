use Rattle.std.proofs.Common.{◌≡◌, ◌≤◌}
use Rattle.lab_explore.specs.Searches.{acts_of, IsSearch}
use Rattle.lab_explore.proofs.explored.run.Given as goal

-- the search goes on, and has made a step a turn at most
abbrev pub invariant-loop-turn : goal.invariant-loop-turn
invariant-loop-turn g l =
    IsSearch l.fn.search.machine.program l.fn.search.machine.workers (acts_of l.search) l.search
    × (l.search.machine.program ≡ l.fn.search.machine.program)
    × (l.search.machine.workers ≡ l.fn.search.machine.workers)
    × (l.search.machine.history.made ≤ l.turn)
