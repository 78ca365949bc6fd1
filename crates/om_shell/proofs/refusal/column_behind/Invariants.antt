use Rattle.std.proofs.Common.{◌≡◌, ◌+◌, ◌≤◌, take}
use Rattle.om_shell.specs.Places.{column_after}
use Rattle.om_shell.proofs.refusal.column_behind.Given as goal

abbrev pub invariant-loop-byte : goal.invariant-loop-byte
invariant-loop-byte l = record {
  column : l.column ≡ column_after (take l.byte-index l.front);
  small : l.column ≤ l.byte-index + 1;
}
