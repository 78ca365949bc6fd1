use Rattle.std.proofs.Common.{ap}
use Rattle.std.specs.Prelude.{Some}
use Rattle.om_foot.specs.declared.part.Part.TheVariants as part
use Rattle.om_cells.specs.ReadyEntries.{is_ready_task, is_ready_in}
use Rattle.om_cells.proofs.FirstReady.{same_next}
use Rattle.om_cells.proofs.named.Named.enter.Goals as goal

pub invariant_of-self-2 : goal.invariant_of-self-2
invariant_of-self-2 c = c.note.ensures c.know.new.places.entries (Some c.args.place)
    c.in_ok-enter_known.ensures.entered
    (same_next (is_ready_in c.self.inside.places.entries) (is_ready_in c.know.new.places.entries) _
    (λ m. ap is_ready_task (c.know.ensures.same m part.Task)) c.self.invariant)
