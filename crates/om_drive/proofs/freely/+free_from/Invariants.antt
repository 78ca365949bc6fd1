use Rattle.std.proofs.Common.{vec_len}
use Rattle.om_drive.proofs.freely.+free_from.Given as goal

abbrev pub decreases-free_from : goal.decreases-free_from
decreases-free_from g l = vec_len l.line.now.waiting
