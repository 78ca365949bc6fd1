use Rattle.std.proofs.Common.{vec_len}
use Rattle.om_drive.proofs.driving.+drive_from.Given as goal

abbrev pub decreases-drive_from : goal.decreases-drive_from
decreases-drive_from g l = vec_len l.ranks.now.waiting
