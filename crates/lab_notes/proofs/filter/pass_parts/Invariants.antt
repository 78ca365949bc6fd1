use Rattle.std.proofs.Common.{◌≡◌, length}
use Rattle.lab_notes.specs.Passing.{GoesOn}
use Rattle.lab_notes.proofs.filter.pass_parts.Given as goal

abbrev pub invariant-parts : goal.invariant-parts
invariant-parts g l = record {
  passed : GoesOn (g.W.Write.contents l.initial.writer) (g.W.Write.contents l.writer)
      l.initial.waiting.read.pending.items l.waiting.read.pending.items l.initial.waiting.due l.waiting.due;
  reads : l.waiting.read.reads_left ≡ l.initial.waiting.read.reads_left;
}

abbrev pub decreases-parts : goal.decreases-parts
decreases-parts g l = length l.waiting.read.pending.items
