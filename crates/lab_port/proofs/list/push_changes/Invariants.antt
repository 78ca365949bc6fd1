use Rattle.std.proofs.Common.{◌≡◌, ◌++◌, drop}
use Rattle.lab_port.specs.Places.{IsSeen}
use Rattle.lab_port.specs.Listings.{changes_part}
use Rattle.lab_port.proofs.list.push_changes.Given as goal

abbrev pub invariant-loop-change : goal.invariant-loop-change
invariant-loop-change l = record {
  seen : IsSeen l.source l.seen;
  lines : l.out.items ++ changes_part l.file l.source (drop l.change-index l.changes)
      ≡ l.initial.out.items ++ changes_part l.file l.source l.changes;
}
