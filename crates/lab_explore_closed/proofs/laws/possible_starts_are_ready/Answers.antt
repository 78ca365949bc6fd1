use Rattle.lab_explore_closed.proofs.StartLemmas.{possible_starts_are_ready}
use Rattle.lab_explore_closed.proofs.laws.possible_starts_are_ready.Goals as goal

pub returns : goal.returns
returns c = possible_starts_are_ready
