use Rattle.lab_explore_closed.specs.Explored.{IsPossibleRace, pair_of_found}
use Rattle.lab_explore_ways.proofs.WayLemmas.{goes_on, same_then}
use Rattle.lab_explore_ways.proofs.races.shortened_races.Goals as goal

pub loop-race-preserved : goal.loop-race-preserved
loop-race-preserved c =
    let first = c.args.retracer.now.machine in
    let here = c.loop-race.retracer.machine in (
      same_then first here c.shortened_race-next.new.retracer.machine c.loop-race.invariant.0
          c.shortened_race-next.ensures.same,
      goes_on pair_of_found IsPossibleRace first here c.args.races c.loop-race.rest.items c.pop.new.self.items
          c.loop-race.short c.push_front.new.self c.in-Some.race c.shortened_race-next.result
          c.loop-race.invariant.0 c.loop-race.invariant.1 c.in-Some.ensures.items c.in_ok-push_front.ensures.added
          c.shortened_race-next.ensures.still,
    )
