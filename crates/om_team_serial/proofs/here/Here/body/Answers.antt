use Rattle.std.proofs.Common.{ap, sym}
use Rattle.std.specs.Prelude.{unwrap_or}
use Rattle.om_code.specs.Places.{no_body}
use Rattle.om_team_serial.proofs.here.Here.body.Goals as goal

pub returns : goal.returns
returns c = sym (ap (λ o. unwrap_or o no_body) c.body.ensures.same)
