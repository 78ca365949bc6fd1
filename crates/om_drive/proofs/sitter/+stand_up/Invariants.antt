use Rattle.std.proofs.Common.{vec_len}
use Rattle.om_drive.proofs.sitter.+stand_up.Given as goal

abbrev pub decreases-stand_up : goal.decreases-stand_up
decreases-stand_up g l = vec_len l.sitters.now
