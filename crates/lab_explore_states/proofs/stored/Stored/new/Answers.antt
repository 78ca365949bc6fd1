use Rattle.std.proofs.Common.{sym, ap, ◌∙◌}
use Rattle.om_task.specs.Rules.{start_of}
use Rattle.om_undo.specs.Machines.{state_in}
use Rattle.lab_explore_states.specs.Standings.{standings}
use Rattle.lab_explore_states.proofs.SetLemmas.{kept_new}
use Rattle.lab_explore_states.proofs.stored.Stored.new.Goals as goal

pub invariant_of-result : goal.invariant_of-result
invariant_of-result c =
    kept_new (start_of c.of.result.value.program c.of.result.value.workers) c.new.result
    (record { row = c.new-2.result; machine = c.of-2.result }) c.new-3.result.items c.new-4.result
    (standings c.new-5.result.items) c.new.ensures c.new-2.ensures
    (ap state_in c.of-2.ensures ∙ c.requires ∙ sym (ap (λ m. start_of m.program m.workers) c.of.ensures))
    c.new-3.ensures.items c.new-4.ensures (ap standings c.new-5.ensures.items)
