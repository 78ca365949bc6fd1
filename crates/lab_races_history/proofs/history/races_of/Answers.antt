use Rattle.std.proofs.Common.{◌≡◌, List, subst, sym}
use Rattle.std.specs.Prelude.{All, map}
use Rattle.std.proofs.lemmas.List.Elements.{All-from_recursion}
use Rattle.om_state.specs.declared.step.Step.{Step}
use Rattle.om_undo_history.specs.Laws.{steps_from}
use Rattle.om_undo_history.specs.Runs.{label_of}
use Rattle.om_undo.specs.Machines.{MachineView, rules_for}
use Rattle.lab_graph.specs.declared.traced.Traced.{Traced}
use Rattle.lab_races.specs.Races.{RiseFrom}
use Rattle.lab_races_history.specs.Histories.{IsOwn}
use Rattle.lab_races_history.proofs.Owning.{owned, rises}
use Rattle.lab_races_history.proofs.history.races_of.Goals as goal

pub made_by-requires : goal.made_by-requires
made_by-requires c =
    let m : MachineView = c.args.machine.now in
    All-from_recursion IsOwn c.args.steps.now
    (owned (rules_for m) (rules_for m).start m.history.entries c.args.steps.now c.requires.touches)

pub races-requires : goal.races-requires
races-requires c =
    let m : MachineView = c.args.machine.now in
    subst (λ ms. RiseFrom 0 ms) (sym c.deref.ensures.value)
    (rises 0 m.history.made m.history.entries (steps_from (rules_for m) (rules_for m).start (map label_of m.history.entries))
    c.args.steps.now c.in_ok-history.history.items c.history.ensures.numbered c.requires.touches
    c.in_ok-history.ensures)
