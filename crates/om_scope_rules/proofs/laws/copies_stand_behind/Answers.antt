use Rattle.om_scope_rules.proofs.Copies.{copies_stand_behind}
use Rattle.om_scope_rules.proofs.laws.copies_stand_behind.Goals as goal

pub returns : goal.returns
returns c = copies_stand_behind
