use Rattle.std.proofs.Common.{take}
use Rattle.om_lower_emit.specs.Drafts.{PutsAll}
use Rattle.om_lower_emit.proofs.draft.Draft.put_all.Given as goal

abbrev pub invariant-loop-instruction : goal.invariant-loop-instruction
invariant-loop-instruction l = PutsAll l.line (take l.instruction-index l.instructions) l.fn.self l.self
