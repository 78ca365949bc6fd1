use Rattle.std.proofs.Common.{◌≤◌, length, take}
use Rattle.om_shell.specs.Lines.{HasNoLineEnd}
use Rattle.om_shell.specs.Progress.{moment_of}
use Rattle.om_shell.specs.Stubs.{Conversed}
use Rattle.om_shell.proofs.conversation.converse.Given as goal

abbrev pub invariant-reads : goal.invariant-reads
invariant-reads g l = record {
  so_far : Conversed
      (moment_of (g.R.Read.remaining l.initial.reader) (g.W.Write.contents l.initial.writer)
      l.initial.input.pending.items)
      (g.R.Read.remaining l.reader) (g.W.Write.contents l.writer)
      l.initial.session.debugger l.session.debugger l.input.pending.items;
  within : l.searched ≤ length l.input.pending.items;
  known : HasNoLineEnd (take l.searched l.input.pending.items);
}

abbrev pub decreases-reads : goal.decreases-reads
decreases-reads g l = l.input.reads_left
