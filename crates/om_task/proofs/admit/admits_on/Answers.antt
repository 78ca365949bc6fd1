-- With an answer here, the prover refuses a mistake in this function without a search for further ones.
use Rattle.om_task.proofs.admit.admits_on.Goals as goal

pub instruction-requires : goal.instruction-requires
instruction-requires c = tt
