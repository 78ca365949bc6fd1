use Rattle.std.specs.Vec.Iter.{into_iter_items, into_iter_len}
use Rattle.om_pragma.proofs.Fillings.{IsFilling}
use Rattle.om_pragma.proofs.filling.filled.Given as goal

abbrev pub invariant-items : goal.invariant-items
invariant-items g l = IsFilling l.fn.value l.left l.made (into_iter_items l.source) l.fn.items.items

abbrev pub decreases-items : goal.decreases-items
decreases-items g l = into_iter_len l.source
