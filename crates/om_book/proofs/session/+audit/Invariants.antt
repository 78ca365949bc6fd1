use Rattle.std.proofs.Common.{length}
use Rattle.om_book.proofs.session.+audit.Given as goal

abbrev pub decreases-audit : goal.decreases-audit
decreases-audit g l = length l.seats.now
