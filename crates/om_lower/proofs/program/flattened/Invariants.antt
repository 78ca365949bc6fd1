use Rattle.std.proofs.Common.{◌≡◌, ◌++◌, length}
use Rattle.std.specs.List.{flat_map}
use Rattle.om_lower.proofs.program.flattened.Given as goal

abbrev pub decreases-loop-bodies : goal.decreases-loop-bodies
decreases-loop-bodies l = length l.functions.items

abbrev pub invariant-loop-bodies : goal.invariant-loop-bodies
invariant-loop-bodies l =
    flat_map (λ bodies. bodies) l.functions.items ++ l.all ≡ flat_map (λ bodies. bodies) l.fn.functions
