-- With an answer here, the prover refuses a mistake in this function without a search for further ones.
use Rattle.om_task.proofs.planning.planned.Goals as goal

pub of-footprint-requires : goal.of-footprint-requires
of-footprint-requires c = tt
