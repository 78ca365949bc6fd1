use Rattle.std.proofs.Common.{◌∙◌, sym, ap, ◌++◌, ◌+◌, ◌-◌}
use Rattle.om_cells.specs.Slots.{olds}
use Rattle.om_cells.specs.Stores.{state_of}
use Rattle.om_cells.proofs.SlotLemmas.{olds_past}
use Rattle.om_cells.proofs.store.Store.noted_each.Goals as goal

pub loop-index-preserved : goal.loop-index-preserved
loop-index-preserved c =
    let i = c.loop-index.index in
    let slot = c.args.cells.now.slot in
    let count = c.args.cells.now.count in
    let s = state_of c.args.self.now in
    ap (λ us. us ++ olds slot (i + 1) (count - (i + 1)) s) c.in_ok-note.ensures
    ∙ olds_past c.loop-index.noted slot i count s c.kept.result.now c.loop-index-test.true
    (sym (c.kept.ensures ∙ ap s c.cell.ensures))
    ∙ c.loop-index.invariant
