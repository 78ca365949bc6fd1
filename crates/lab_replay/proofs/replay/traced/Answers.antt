-- What the machine keeps of the entry's footprint is what its step touches.
use Rattle.std.proofs.Common.{◌≡◌, ◌∙◌, Some, None, List}
use Rattle.om_foot.specs.declared.footprint.Access.{Access}
use Rattle.lab_replay.proofs.replay.traced.Goals as goal

never : (x : List Access) → None ≡ Some x → ⊥
never x e = cc

pub unreachable-requires : goal.unreachable-requires
unreachable-requires c = never _ (c.in_default.ensures ∙ c.requires.touched)
