use Rattle.lab_notes.specs.Passing.{Passed}
use Rattle.lab_notes.proofs.filter.pass_all.Given as goal

abbrev pub invariant-reads : goal.invariant-reads
invariant-reads g l = Passed (g.R.Read.remaining l.initial.reader) (g.R.Read.remaining l.reader)
    (g.W.Write.contents l.initial.writer) (g.W.Write.contents l.writer) l.waiting.read.pending.items l.waiting.due

abbrev pub decreases-reads : goal.decreases-reads
decreases-reads g l = l.waiting.read.reads_left
