-- the first write in the places so far
use Rattle.std.proofs.Common.{take}
use Rattle.om_undo_touches.specs.Slots.{has_span}
use Rattle.om_foot.specs.Firsts.{IsFirst}
use Rattle.om_undo_touches.proofs.spans.Spans.first_at.Given as goal

abbrev pub invariant-loop-span : goal.invariant-loop-span
invariant-loop-span l = IsFirst (has_span (take l.span-index l.self.spans.items) l.index) l.serial l.first
