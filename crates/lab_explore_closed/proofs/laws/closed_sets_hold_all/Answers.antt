use Rattle.std.specs.Prelude.{Contains}
use Rattle.lab_explore_closed.specs.Closed.{stays}
use Rattle.lab_explore_closed.proofs.laws.closed_sets_hold_all.Goals as goal

pub returns : goal.returns
returns c = λ r workers stored closed ls s leads.
    stays r workers (λ t. Contains stored t) closed.closed ls r.start s closed.start leads.own leads.replayed
