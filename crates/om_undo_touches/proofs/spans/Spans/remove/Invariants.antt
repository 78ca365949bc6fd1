-- the writes are gone from the places so far
use Rattle.om_undo_touches.proofs.SpanLemmas.{AreTaken}
use Rattle.om_undo_touches.proofs.spans.Spans.remove.Given as goal

abbrev pub invariant-take : goal.invariant-take
invariant-take l = AreTaken l.serial l.index l.fn.self.spans.items l.self.spans.items
