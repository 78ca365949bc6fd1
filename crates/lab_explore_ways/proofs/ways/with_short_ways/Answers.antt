use Rattle.std.proofs.Common.{refl}
use Rattle.lab_explore_closed.specs.Explored.{IsPossibleRace, pair_of_found}
use Rattle.lab_explore_ways.proofs.WayLemmas.{still_explored, still_of}
use Rattle.lab_explore_ways.proofs.ways.with_short_ways.Goals as goal

pub returns-clause-still : goal.returns-clause-still
returns-clause-still c =
    let first = c.args.retracer.now.machine in
    still_explored first.program first.workers c.args.explored _ (record {
      ends = c.in_ok-ends.ensures.still;
      races = still_of pair_of_found IsPossibleRace first c.shortened_ends.new.retracer.machine c.args.explored.races
          c.in_ok-races.races c.in_ok-ends.ensures.same c.in_ok-races.ensures.still;
      rest = refl;
    })
