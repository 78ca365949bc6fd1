-- What the history leaves under the program's rules.
use Rattle.std.proofs.Common.{◌∙◌, sym, ap}
use Rattle.om_state.specs.Rules.{Rules}
use Rattle.om_task.specs.Rules.{rules_of}
use Rattle.om_undo_history.specs.Runs.{History}
use Rattle.om_undo_history.specs.Cones.{taken_by_roll, after_roll}
use Rattle.om_undo_history.specs.Pasts.{history_in}
use Rattle.om_undo.specs.Machines.{MachineView, rules_for}
use Rattle.om_undo.proofs.Views.{changed_view}
use Rattle.om_undo.proofs.machine.Machine.take_out.Goals as goal

pub invariant_of-self : goal.invariant_of-self
invariant_of-self c = record {
  at_least_one = c.self.invariant.at_least_one;
  at_most_32 = c.self.invariant.at_most_32;
  held = (c.take_out.ensures.cone c.requires.0 (rules_of c.self.inside.program c.self.inside.workers)
      c.self.invariant.held
      (c.requires.1
      ∙ sym (ap (λ (m : MachineView). taken_by_roll (rules_for m) m.history c.requires.0) c.self.view_is))).1;
}

pub returns : goal.returns
returns c = λ serial is.
    changed_view c.self.inside.program c.self.inside.workers (history_in c.self.inside.history)
    (history_in c.take_out.new.self) c.args.self.now (λ (r : Rules) (h : History). after_roll r h serial)
    c.self.view_is
    (c.take_out.ensures.cone serial (rules_of c.self.inside.program c.self.inside.workers) c.self.invariant.held
    (is ∙ sym (ap (λ (m : MachineView). taken_by_roll (rules_for m) m.history serial) c.self.view_is))).0
