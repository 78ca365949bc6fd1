use Rattle.std.proofs.Common.{vec_len}
use Rattle.lab_play.proofs.player.Player.rewind.Given as goal

abbrev pub decreases-loop-worker : goal.decreases-loop-worker
decreases-loop-worker l = vec_len l.self.made
