-- With an answer here, the prover refuses a mistake in this function without a search for further ones.
use Rattle.om_task.proofs.wait.group_end.Goals as goal

pub innermost_group-requires : goal.innermost_group-requires
innermost_group-requires c = tt
