use Rattle.std.proofs.Common.{◌≡◌, sym, ◌∙◌, true, rules}
use Rattle.lab_explore_closed.specs.Explored.{IsPossibleRace}
use Rattle.lab_explore_notes.proofs.SameLemmas.{pairs_decide}
use Rattle.lab_explore_ways.proofs.WayLemmas.{front_of, last_of}
use Rattle.lab_explore_ways.proofs.races.with_pair.Goals as goal

pub returns-then-is_same_pair : goal.returns-then-is_same_pair
returns-then-is_same_pair c program workers all =
    let yes : c.is_same_pair.result ≡ true = search rules in (
      (pairs_decide c.in-Some.race.pair c.args.pair.now).0 (sym c.is_same_pair.ensures ∙ yes),
      last_of (IsPossibleRace program workers) c.loop-race.left.items c.pop.new.self.items c.in-Some.race
          c.in-Some.ensures.items (c.loop-race.invariant program workers all),
    )

pub loop-race-preserved : goal.loop-race-preserved
loop-race-preserved c program workers all =
    front_of (IsPossibleRace program workers) c.loop-race.left.items c.pop.new.self.items c.in-Some.race
    c.in-Some.ensures.items (c.loop-race.invariant program workers all)
