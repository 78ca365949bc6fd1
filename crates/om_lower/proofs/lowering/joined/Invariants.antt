use Rattle.om_lower.proofs.Filling.{Filled}
use Rattle.om_lower.proofs.lowering.joined.Given as goal

abbrev pub invariant-loop-list : goal.invariant-loop-list
invariant-loop-list l = Filled l.fn.lists.items l.count l.yielded l.list-iterator.rest.items l.picks.items
