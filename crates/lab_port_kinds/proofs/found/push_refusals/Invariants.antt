use Rattle.std.proofs.Common.{◌≡◌, ◌++◌, drop, map}
use Rattle.lab_port_kinds.specs.Kinds.{lacking_place}
use Rattle.lab_port_kinds.proofs.found.push_refusals.Given as goal

abbrev pub invariant-loop-refusal : goal.invariant-loop-refusal
invariant-loop-refusal l = l.places.items ++ map (lacking_place l.text) (drop l.refusal-index l.refusals)
    ≡ l.initial.places.items ++ map (lacking_place l.text) l.refusals
