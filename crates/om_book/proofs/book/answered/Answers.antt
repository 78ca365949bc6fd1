use Rattle.om_book.proofs.book.answered.Goals as goal

pub again-requires : goal.again-requires
again-requires c = c.requires.sound
