use Rattle.std.proofs.Common.{sym, subst}
use Rattle.om_undo.specs.Machines.{MachineView}
use Rattle.lab_explore_closed.specs.Explored.{IsPossibleRace, pair_of_found}
use Rattle.lab_explore_ways.specs.Ways.{IsOfSame}
use Rattle.lab_explore_ways.proofs.WayLemmas.{one_of}
use Rattle.lab_explore_ways.proofs.races.short_race.Goals as goal

pub returns-clause-still : goal.returns-clause-still
returns-clause-still c =
    let first : MachineView = c.args.retracer.now.machine in
    let here : MachineView = c.machine.result.now in
    let same : IsOfSame first here = subst (λ (m : MachineView). IsOfSame first m) (sym c.machine.ensures)
    (record { program = c.follow.ensures.program; workers = c.follow.ensures.workers }) in
    let both = c.in-Some-with_pair.ensures here.program here.workers c.in_ok-notes.ensures.races.each in
    one_of pair_of_found IsPossibleRace first here c.args.race.now c.in-Some-with_pair.short same
    (record { alike = both.0; there = λ h. both.1 })
