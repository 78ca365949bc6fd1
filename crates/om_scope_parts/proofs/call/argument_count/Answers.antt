use Rattle.std.proofs.Common.{sym}
use Rattle.om_scope_parts.proofs.Arguments.{argument_count_is}
use Rattle.om_scope_parts.proofs.call.argument_count.Goals as goal

pub returns : goal.returns
returns c = sym (argument_count_is c.args.values.now)
