use Rattle.std.proofs.Common.{reverse, subst}
use Rattle.om_task.specs.Rules.{start_of}
use Rattle.lab_explore_states.specs.Sets.{Inserts, WalkView, seen}
use Rattle.lab_explore_states.specs.Standings.{standings}
use Rattle.lab_explore_states.proofs.SetLemmas.{inserts_put, walk}
use Rattle.lab_explore_states.proofs.stored.Stored.insert.Goals as goal

pub returns-then-added-clause-inserted : goal.returns-then-added-clause-inserted
returns-then-added-clause-inserted c =
    let program = c.self.inside.of.value.program in
    let workers = c.self.inside.of.value.workers in
    let past = reverse c.self.inside.past.items in
    let after : WalkView = walk c.self.inside.here past program workers (standings c.put_in.new.states.items) in
    subst (λ v. Inserts c.in_ok-added.added (seen v) (seen after)) c.self.view_is
    (inserts_put c.rows_tell_apart.ensures (start_of program workers) c.self.inside.tables c.self.inside.here
    c.self.inside.past.items past c.self.inside.rows c.put_in.new.rows (standings c.self.inside.states.items)
    (standings c.put_in.new.states.items) program workers c.in_ok-added.added c.self.invariant
    c.in_ok-added.ensures.put_in)

pub returns-else-added-clause-inserted : goal.returns-else-added-clause-inserted
returns-else-added-clause-inserted c =
    let program = c.self.inside.of.value.program in
    let workers = c.self.inside.of.value.workers in
    let past = reverse c.self.inside.past.items in
    let after : WalkView = walk c.self.inside.here past program workers (standings c.put_in.new.states.items) in
    subst (λ v. Inserts c.in_ok-added.added (seen v) (seen after)) c.self.view_is
    (inserts_put c.rows_tell_apart.ensures (start_of program workers) c.self.inside.tables c.self.inside.here
    c.self.inside.past.items past c.self.inside.rows c.put_in.new.rows (standings c.self.inside.states.items)
    (standings c.put_in.new.states.items) program workers c.in_ok-added.added c.self.invariant
    c.in_ok-added.ensures.put_in)
