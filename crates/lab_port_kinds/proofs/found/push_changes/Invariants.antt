use Rattle.std.proofs.Common.{◌≡◌, ◌++◌, drop}
use Rattle.lab_port_kinds.specs.Kinds.{changed_places}
use Rattle.lab_port_kinds.proofs.found.push_changes.Given as goal

abbrev pub invariant-loop-change : goal.invariant-loop-change
invariant-loop-change l = l.places.items ++ changed_places l.text (drop l.change-index l.changes)
    ≡ l.initial.places.items ++ changed_places l.text l.changes
