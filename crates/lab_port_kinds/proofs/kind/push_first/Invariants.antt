use Rattle.std.proofs.Common.{◌≡◌, ◌++◌, drop}
use Rattle.lab_port_kinds.specs.Kinds.{lines_like}
use Rattle.lab_port_kinds.proofs.kind.push_first.Given as goal

abbrev pub invariant-loop-place : goal.invariant-loop-place
invariant-loop-place l = l.out.items ++ lines_like l.left l.one (drop l.place-index l.places)
    ≡ l.initial.out.items ++ lines_like 3 l.one l.places
