use Rattle.om_lower_rules.proofs.Spoken.{spoken}
use Rattle.om_lower_rules.proofs.Statements.{statement_runs}
use Rattle.om_lower_rules.proofs.laws.statement_means.Goals as goal

pub returns : goal.returns
returns c =
    λ raw body at same texts x m n jumps p q s w g found h. statement_runs raw body at same texts x m n jumps p q s
    w (spoken at.formats x g found) h
