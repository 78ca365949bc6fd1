use Rattle.std.proofs.Common.{◌≡◌, map, take}
use Rattle.om_lower_emit.specs.Drafts.{line_in, place_in, settled}
use Rattle.om_lower_emit.proofs.draft.Draft.settle.Given as goal

abbrev pub invariant-loop-line : goal.invariant-loop-line
invariant-loop-line l =
    l.code.items ≡ map (settled (place_in l.places)) (map line_in (take l.line-index l.line-items))
