use Rattle.std.proofs.Common.{◌∙◌, ap, ℕ, List, length, min, take, ◌++◌}
use Rattle.om_state.specs.declared.step.Entry.{Entry}
use Rattle.lab_schedules.specs.Schedules.{end_text}
use Rattle.lab_text.specs.Commands.{script_text}
use Rattle.lab_explore_answer.proofs.script.end_script.Goals as goal

pub returns : goal.returns
returns c =
    let told = c.args.told in
    record {
      told = min told (length c.args.end.now.path);
      commands = c.in_ok-extend_from_slice.ensures.items
          ∙ ap (λ (xs : List ℕ). xs ++ end_text)
          (c.in_ok-text.ensures
          ∙ ap script_text
          (c.first_steps.ensures ∙ ap (λ (p : List Entry). take (min told (length p)) p) c.as_slice.ensures));
    }
