use Rattle.std.proofs.Common.{◌∙◌, sym, subst}
use Rattle.om_cells.specs.Slots.{Leads}
use Rattle.om_cells.proofs.SlotLemmas.{leads_then}
use Rattle.om_state.specs.RunPuts.{puts_more}
use Rattle.om_cells.proofs.slots.put_run.Goals as goal

pub loop-turn-preserved : goal.loop-turn-preserved
loop-turn-preserved c = record {
  within = c.put_at-index.ensures.within;
  same_length = c.put_at-index.ensures.same_length ∙ c.loop-turn.invariant.same_length;
  written = λ slot s mirrors.
      let old = s c.args.values.now.items in
      let new = s c.put_at-index.new.values.items in
      subst (λ us. Leads us slot c.args.count c.args.from c.put_at-index.result old new)
      (sym (puts_more c.args.run.now.cell c.loop-turn._turn))
      (leads_then _ _ slot c.args.count c.args.from c.loop-turn.index c.put_at-index.result old
      (s c.loop-turn.values.items) new (c.loop-turn.invariant.written slot s mirrors)
      (c.put_at-index.ensures.written slot s mirrors));
}
