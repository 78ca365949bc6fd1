use Rattle.std.proofs.Common.{length}
use Rattle.om_book.proofs.session.+standing_in_all.Given as goal

abbrev pub decreases-standing_in_all : goal.decreases-standing_in_all
decreases-standing_in_all g l = length l.seats.now
