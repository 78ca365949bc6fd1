-- Choices as a planned step keeps them.
use Rattle.std.specs.Prelude.{List, ℕ, Option, None, Some}
use Rattle.std.specs.Global.{Box}
use Rattle.om_state.specs.declared.step.Choice.{Choice}
use Rattle.om_state.specs.declared.step.Choice.TheVariants.{Next, Start}
use Rattle.om_state.specs.declared.step.Label.{Label}

-- the choice that starts the task of this name, if there is one
abbrev pub choice_of : Option (Box (List ℕ)) → Choice
choice_of None = Next
choice_of (Some name) = Start name.value

-- the label of a worker by such a choice
abbrev pub label_by : ℕ → Option (Box (List ℕ)) → Label
label_by worker start = record { worker = worker; choice = choice_of start }
