use Rattle.std.proofs.Common.{◌≡◌, drop}
use Rattle.lab_port_sizes.specs.Places.{length_by}
use Rattle.lab_port_sizes.proofs.place.length_by.Given as goal

abbrev pub invariant-loop-next : goal.invariant-loop-next
invariant-loop-next l = length_by (drop l.next-index l.names) l.name ≡ length_by l.names l.name
