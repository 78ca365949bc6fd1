use Rattle.std.proofs.Common.{sym, ◌∙◌}
use Rattle.om_cells.specs.ReadyEntries.{is_ready_in}
use Rattle.om_cells.proofs.FirstReady.{other_ready, part_ready, same_next}
use Rattle.om_cells.proofs.named.note.Goals as goal

pub returns-then-is_task : goal.returns-then-is_task
returns-then-is_task c = λ old v puts next. c.note_task.ensures (is_ready_in old)
    (other_ready old c.args.places.now.entries c.args.name.now c.args.part.now v puts) next

pub returns-else-is_task : goal.returns-else-is_task
returns-else-is_task c = λ old v puts next. same_next (is_ready_in old) (is_ready_in c.args.places.now.entries) _
    (part_ready old c.args.places.now.entries c.args.name.now c.args.part.now v puts
    (sym c.is_task.ensures ∙ c.if-is_task.false)) next
