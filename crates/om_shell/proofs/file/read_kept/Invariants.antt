use Rattle.std.proofs.Common.{◌≡◌, ◌≤◌, ℕ, List, length}
use Rattle.std.specs.Io.KnownBytes.{Consumes}
use Rattle.om_shell.specs.Lines.{kept}
use Rattle.om_shell.proofs.file.read_kept.Given as goal

abbrev pub invariant-reads : goal.invariant-reads
invariant-reads g l = record {
  read : (all : List ℕ) × Consumes (g.R.Read.remaining l.initial.reader) (g.R.Read.remaining l.reader) all
      × (l.bytes.items ≡ kept all);
  few : length l.bytes.items ≤ 4194304;
}
