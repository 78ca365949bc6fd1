-- With an answer here, the prover refuses a mistake in this function without a search for further ones.
use Rattle.om_undo_history.proofs.records.is_member.Goals as goal

pub serial-requires : goal.serial-requires
serial-requires c = tt
