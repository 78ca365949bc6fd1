use Rattle.std.proofs.Common.{◌≡◌, drop}
use Rattle.lab_port_sizes.specs.Lengths.{places_from, places_in}
use Rattle.lab_port_sizes.proofs.length.places_in.Given as goal

abbrev pub invariant-loop-piece : goal.invariant-loop-piece
invariant-loop-piece l = places_from l.name l.count l.context (drop l.piece-index l.all) ≡ places_in l.name l.all
