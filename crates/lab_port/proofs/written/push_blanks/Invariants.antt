use Rattle.std.proofs.Common.{◌≡◌, ◌++◌, drop}
use Rattle.lab_port.specs.Written.{blanks_behind}
use Rattle.lab_port.proofs.written.push_blanks.Given as goal

abbrev pub invariant-loop-byte : goal.invariant-loop-byte
invariant-loop-byte l = l.out.items ++ blanks_behind l.owed (drop l.byte-index l.text) ≡ l.initial.out.items ++ blanks_behind l.fn.owed l.text
