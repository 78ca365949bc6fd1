use Rattle.std.proofs.Common.{length}
use Rattle.om_scope.proofs.assembly.+schedule_of.Given as goal

abbrev pub decreases-schedule_of : goal.decreases-schedule_of
decreases-schedule_of l = length l.items.now
