use Rattle.om_soundness.proofs.Following.{frames_follow}
use Rattle.om_soundness.proofs.laws.frames_follow.Goals as goal

pub returns : goal.returns
returns c = frames_follow
