use Rattle.std.proofs.Common.{ap}
use Rattle.om_foot.specs.declared.part.Part.TheVariants as part
use Rattle.om_cells.specs.ReadyEntries.{is_ready_task, is_ready_in}
use Rattle.om_cells.proofs.FirstReady.{same_next}
use Rattle.om_cells.proofs.named.Named.share.Goals as goal

pub invariant_of-self : goal.invariant_of-self
invariant_of-self c =
    same_next (is_ready_in c.self.inside.places.entries) (is_ready_in c.share.new.places.entries) _
    (λ m. ap is_ready_task (c.share.ensures.stays m part.Task)) c.self.invariant
