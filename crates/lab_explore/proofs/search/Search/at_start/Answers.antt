use Rattle.std.proofs.Common.{◌∙◌, ap, false, refl}
use Rattle.om_undo.specs.Machines.{MachineView}
use Rattle.lab_explore_states.specs.Sets.{at_the_start, seen}
use Rattle.lab_explore.specs.declared.search.Search.{Search}
use Rattle.lab_explore.proofs.BeginLemmas.{begun}
use Rattle.lab_explore.proofs.search.Search.at_start.Goals as goal

pub returns-clause-arrived : goal.returns-clause-arrived
returns-clause-arrived c =
    let x : Search = record {
      machine = c.in_ok-machine.machine;
      stored = c.insert.new.self;
      todos = c.new-2.result;
      notes = c.new-3.result;
      goes_round = false;
      steps = 0;
    } in
    begun c.args.program c.args.workers x (seen c.new-stored.result) c.in_ok-insert.field-0 c.in_ok-machine.ensures
    (c.new-stored.ensures ∙ ap (λ (m : MachineView). at_the_start m.program m.workers) c.in_ok-machine.ensures)
    c.in_ok-insert.ensures.inserted c.new-2.ensures
    c.new-3.ensures refl refl
