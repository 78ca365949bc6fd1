use Rattle.std.proofs.Common.{◌≤◌, ◌-◌, length, take, drop}
use Rattle.om_shell.specs.Lines.{HasNoLineEnd}
use Rattle.om_shell.specs.Source.{Scanned}
use Rattle.om_shell.proofs.source.scan.Given as goal

abbrev pub invariant-lines : goal.invariant-lines
invariant-lines l = record {
  scanned : Scanned l.bytes l.at;
  within : l.searched ≤ length (drop l.at l.bytes);
  known : HasNoLineEnd (take l.searched (drop l.at l.bytes));
}

abbrev pub decreases-lines : goal.decreases-lines
decreases-lines l = length l.bytes - l.at
