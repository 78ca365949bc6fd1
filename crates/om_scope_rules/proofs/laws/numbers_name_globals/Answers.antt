use Rattle.om_scope_rules.proofs.Numbers.{numbers_name_globals}
use Rattle.om_scope_rules.proofs.laws.numbers_name_globals.Goals as goal

pub returns : goal.returns
returns c = numbers_name_globals
