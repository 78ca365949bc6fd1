use Rattle.std.proofs.Common.{vec_len}
use Rattle.om_drive.proofs.sitter.+sit_down.Given as goal

abbrev pub decreases-sit_down : goal.decreases-sit_down
decreases-sit_down g l = vec_len l.seats.now
