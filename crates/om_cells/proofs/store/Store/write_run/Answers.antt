use Rattle.std.proofs.Common.{◌∙◌, sym, subst}
use Rattle.om_cells.specs.Slots.{Leads}
use Rattle.om_cells.specs.Stores.{state_of}
use Rattle.om_cells.proofs.SlotLemmas.{leads_then}
use Rattle.om_state.specs.RunPuts.{puts_more}
use Rattle.om_cells.proofs.store.Store.write_run.Goals as goal

pub loop-turn-preserved : goal.loop-turn-preserved
loop-turn-preserved c =
    let old = state_of c.args.self.now in
    let new = state_of c.write_at-index.new.self in
    let slot = c.args.cells.now.slot in
    let count = c.args.cells.now.count in record {
      within = c.write_at-index.ensures.within;
      kept = λ q. c.write_at-index.ensures.kept q ∙ c.loop-turn.invariant.kept q;
      written = subst (λ us. Leads us slot count c.args.from c.write_at-index.result old new)
          (sym (puts_more c.args.run.now.cell c.loop-turn._turn))
          (leads_then _ _ slot count c.args.from c.loop-turn.index c.write_at-index.result old
          (state_of c.loop-turn.self) new c.loop-turn.invariant.written c.write_at-index.ensures.written);
    }
