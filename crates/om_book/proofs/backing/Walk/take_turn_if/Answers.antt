use Rattle.std.proofs.Common.{rules}
use Rattle.om_book.proofs.Backed.{passes_none}
use Rattle.om_book.proofs.backing.Walk.take_turn_if.Goals as goal

pub returns-in_default-clause-passes : goal.returns-in_default-clause-passes
returns-in_default-clause-passes c = search (rules, passes_none)
