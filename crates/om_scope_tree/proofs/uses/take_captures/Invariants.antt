use Rattle.std.proofs.Common.{◌≡◌, fold, map, drop}
use Rattle.om_scope_tree.specs.Captures.{captured_variable}
use Rattle.om_scope_tree.proofs.uses.take_captures.Given as goal

abbrev pub invariant-loop-capture : goal.invariant-loop-capture
invariant-loop-capture g l =
    fold g.S.Sighting.next l.seen (map captured_variable (drop l.capture-index l.captures))
    ≡ fold g.S.Sighting.next l.fn.seen (map captured_variable l.captures)
