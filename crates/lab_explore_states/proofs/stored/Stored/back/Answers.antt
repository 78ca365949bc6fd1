use Rattle.std.proofs.Common.{subst}
use Rattle.om_task.specs.Rules.{start_of}
use Rattle.lab_explore_states.specs.Standings.{AreKept, standings}
use Rattle.lab_explore_states.proofs.SetLemmas.{kept_back}
use Rattle.lab_explore_states.proofs.stored.Stored.back.Goals as goal

pub invariant_of-self : goal.invariant_of-self
invariant_of-self c =
    let start = start_of c.self.inside.of.value.program c.self.inside.of.value.workers in
    kept_back start c.self.inside.tables c.self.inside.here c.in-Some.before c.pop.new.self.items c.self.inside.rows
    (standings c.self.inside.states.items)
    (subst (λ xs. AreKept start c.self.inside.tables c.self.inside.here xs c.self.inside.rows
    (standings c.self.inside.states.items)) c.in-Some.ensures.items c.self.invariant)
