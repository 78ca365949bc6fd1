-- With an answer here, the prover refuses a mistake in this function without a search for further ones.
use Rattle.om_book.proofs.book.Book.has_room.Goals as goal

pub is_full-requires : goal.is_full-requires
is_full-requires c = tt
