use Rattle.std.proofs.Common.{◌≡◌, map, take}
use Rattle.om_lower_emit.specs.Drafts.{place_in}
use Rattle.om_lower_emit.proofs.draft.settled_list.Given as goal

abbrev pub invariant-loop-label : goal.invariant-loop-label
invariant-loop-label l = l.targets.items ≡ map (place_in l.places) (take l.label-index l.label-items)
