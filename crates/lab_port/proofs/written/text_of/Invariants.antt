use Rattle.std.proofs.Common.{◌≡◌, ◌≤◌, ◌++◌, drop, length}
use Rattle.lab_port.specs.Written.{with_changes, Stand}
use Rattle.lab_port.proofs.written.text_of.Given as goal

abbrev pub invariant-loop-change : goal.invariant-loop-change
invariant-loop-change l = record {
  inside : l.at ≤ length l.source;
  stand : Stand l.source l.at (drop l.change-index l.changes);
  text : l.out.items ++ with_changes l.source l.at (drop l.change-index l.changes)
      ≡ with_changes l.source 0 l.changes;
}
