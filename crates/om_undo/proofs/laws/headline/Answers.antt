use Rattle.std.proofs.Common.{◌∙◌, sym, ap, Some}
use Rattle.std.specs.Prelude.{unwrap_or}
use Rattle.om_state.specs.Rules.{Rules}
use Rattle.om_task.specs.Rules.{rules_of}
use Rattle.om_undo_history.specs.Commands.{IsReplayed}
use Rattle.om_undo.specs.Headline.{history_after}
use Rattle.om_undo.proofs.laws.headline.Goals as goal

pub returns : goal.returns
returns c = λ program workers. let r : Rules = rules_of program workers in record {
  remaining_steps_can_be_made = λ commands.
      let x : IsReplayed r (history_after program workers commands).entries = c.remaining_steps.ensures r commands in
      x.replayed ∙ ap (λ o. Some (unwrap_or o r.start)) (sym x.replayed);
  undo_takes_the_step_back = λ commands label serial line fault.
      c.step_then_undo.ensures r (history_after program workers commands) label serial line fault;
  undo_is_refused_exactly_at_conflicts = c.exactly_where.ensures r;
  commands_leave_the_other_steps = c.what_is_left.ensures r;
}
