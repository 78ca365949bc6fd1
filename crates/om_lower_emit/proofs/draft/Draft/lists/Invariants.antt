use Rattle.std.proofs.Common.{◌≡◌, map, take}
use Rattle.om_lower_emit.specs.Drafts.{place_in}
use Rattle.om_lower_emit.specs.Settled.{settled_list}
use Rattle.om_lower_emit.proofs.draft.Draft.lists.Given as goal

abbrev pub invariant-loop-pick : goal.invariant-loop-pick
invariant-loop-pick l = l.lists.items ≡ map (settled_list (place_in l.places)) (take l.pick-index l.pick-items)
