use Rattle.om_pragma.proofs.Directives.{same_directive}
use Rattle.om_pragma.proofs.laws.one_directive.Goals as goal

pub returns : goal.returns
returns c = same_directive
