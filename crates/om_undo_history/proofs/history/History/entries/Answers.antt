use Rattle.std.proofs.Common.{◌≡◌, sym, subst}
use Rattle.std.specs.Prelude.{IfOk}
use Rattle.om_memory.specs.Memories.{pasts_of}
use Rattle.om_undo_history.specs.Pasts.{history_in}
use Rattle.om_undo_history.proofs.Removed.{full_entries}
use Rattle.om_undo_history.proofs.RunLaws.{IsRun-rises}
use Rattle.om_undo_history.proofs.history.History.entries.Goals as goal

pub returns-clause-numbered : goal.returns-clause-numbered
returns-clause-numbered c = λ r held. IsRun-rises r (history_in c.args.self.now) held.past.reached

pub returns-clause-entries : goal.returns-clause-entries
returns-clause-entries c = subst (λ es. IfOk c.entries.result (λ v. v.items ≡ es))
    (sym (full_entries (pasts_of c.args.self.now.store) c.args.self.now.records)) c.entries.ensures
