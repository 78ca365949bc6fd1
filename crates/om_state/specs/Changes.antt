-- The step that a change stands for.
use Rattle.std.specs.Prelude.{◌∷◌}
use Rattle.om_state.specs.declared.control.Control as controls
use Rattle.om_state.specs.declared.step.Change.{Change}
use Rattle.om_state.specs.declared.step.Outcome.TheVariants.{Updates}
use Rattle.om_state.specs.declared.step.Step.{Step}
use Rattle.om_state.specs.declared.step.Update.TheVariants.{Put}
use Rattle.om_state.specs.declared.value.Val.TheVariants as value
use Rattle.om_state.specs.Edits.{changed}

-- its edits, with the control of its worker, are the put of the control that they come to
abbrev pub step_of : controls.Control → Change → Step
step_of control change = record {
  footprint = change.footprint;
  outcome = Updates (Put (value.Control (changed change.edits control)) ∷ change.updates);
  line = change.line;
}
