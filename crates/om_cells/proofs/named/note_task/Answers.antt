use Rattle.std.proofs.Common.{sym, ◌∙◌}
use Rattle.om_cells.specs.ReadyEntries.{is_ready_in}
use Rattle.om_cells.proofs.FirstReady.{comes_first, stays_before, moves_on, stays_other}
use Rattle.om_cells.proofs.named.note_task.Goals as goal

pub returns-then-is_before : goal.returns-then-is_before
returns-then-is_before c = λ is others next.
    comes_first is (is_ready_in c.args.places.now.entries) c.args.name.now others c.args.first.now
    (sym c.is_ready.ensures ∙ c.if-is_ready.true) (sym c.is_before.ensures ∙ c.if-is_before.true) next

pub returns-else-is_before : goal.returns-else-is_before
returns-else-is_before c = λ is others next.
    stays_before is (is_ready_in c.args.places.now.entries) c.args.name.now others c.args.first.now
    (sym c.is_ready.ensures ∙ c.if-is_ready.true) (sym c.is_before.ensures ∙ c.if-is_before.false) next

pub returns-then-is_the : goal.returns-then-is_the
returns-then-is_the c = λ is others next.
    moves_on is (is_ready_in c.args.places.now.entries) c.args.name.now others c.args.first.now _
    (sym c.is_ready.ensures ∙ c.if-is_ready.false) (sym c.is_the.ensures ∙ c.if-is_the.true) next
    c.ready_behind.ensures

pub returns-else-is_the : goal.returns-else-is_the
returns-else-is_the c = λ is others next.
    stays_other is (is_ready_in c.args.places.now.entries) c.args.name.now others c.args.first.now
    (sym c.is_ready.ensures ∙ c.if-is_ready.false) (sym c.is_the.ensures ∙ c.if-is_the.false) next
