use Rattle.std.proofs.Common.{◌≤◌, length, take}
use Rattle.om_shell.specs.Lines.{HasNoLineEnd}
use Rattle.om_shell.specs.Source.{Reads}
use Rattle.om_shell.proofs.source.read_source.Given as goal

abbrev pub invariant-reads : goal.invariant-reads
invariant-reads g l = record {
  read : Reads (g.R.Read.remaining l.initial.reader) (g.R.Read.remaining l.reader) l.source.items
      l.input.pending.items;
  within : l.searched ≤ length l.input.pending.items;
  known : HasNoLineEnd (take l.searched l.input.pending.items);
}

abbrev pub decreases-reads : goal.decreases-reads
decreases-reads g l = l.input.reads_left
