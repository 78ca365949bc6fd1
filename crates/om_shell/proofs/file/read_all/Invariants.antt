use Rattle.std.specs.Io.KnownBytes.{Consumes}
use Rattle.om_shell.proofs.file.read_all.Given as goal

abbrev pub invariant-reads : goal.invariant-reads
invariant-reads g l = Consumes (g.R.Read.remaining l.initial.reader) (g.R.Read.remaining l.reader) l.bytes.items
