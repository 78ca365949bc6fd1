use Rattle.lab_explore_closed.specs.Explored.{IsPossibleEnd, ending_of_found}
use Rattle.lab_explore_ways.proofs.WayLemmas.{goes_on, same_then}
use Rattle.lab_explore_ways.proofs.ends.shortened_ends.Goals as goal

pub loop-end-preserved : goal.loop-end-preserved
loop-end-preserved c =
    let first = c.args.retracer.now.machine in
    let here = c.loop-end.retracer.machine in (
      same_then first here c.shortened_end-next.new.retracer.machine c.loop-end.invariant.0
          c.shortened_end-next.ensures.same,
      goes_on ending_of_found IsPossibleEnd first here c.args.ends c.loop-end.rest.items c.pop.new.self.items
          c.loop-end.short c.push_front.new.self c.in-Some.end c.shortened_end-next.result.end
          c.loop-end.invariant.0 c.loop-end.invariant.1 c.in-Some.ensures.items c.in_ok-push_front.ensures.added
          c.shortened_end-next.ensures.still,
    )
