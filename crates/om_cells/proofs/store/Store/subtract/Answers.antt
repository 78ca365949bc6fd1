use Rattle.std.proofs.Common.{◌∙◌, sym, ap, neg_ℤ}
use Rattle.om_state.specs.Values.{count_of}
use Rattle.om_cells.specs.Stores.{state_of}
use Rattle.om_cells.proofs.StoreLemmas.{same_sum}
use Rattle.om_cells.proofs.store.Store.subtract.Goals as goal

pub returns-in-None-clause-state : goal.returns-in-None-clause-state
returns-in-None-clause-state c = same_sum c.args.object.now (neg_ℤ c.args.number) (state_of c.args.self.now)
    (sym (c.count.ensures ∙ ap count_of c.kept.ensures) ∙ c.in-None.is)
