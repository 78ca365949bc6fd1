use Rattle.std.proofs.Common.{refl}
use Rattle.om_team_worksharing.proofs.critical.enter_critical.Goals as goal

pub returns : goal.returns
returns c = rw (c.in_ok-names.ensures, c.in_ok-row.ensures, c.holder.ensures) refl
