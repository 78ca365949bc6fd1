use Rattle.std.proofs.Common.{◌∙◌, subst}
use Rattle.std.specs.Prelude.{Contains}
use Rattle.om_task.specs.Rules.{start_of}
use Rattle.lab_explore_states.specs.Sets.{WalkView, seen}
use Rattle.lab_explore_states.specs.Standings.{standings}
use Rattle.lab_explore_states.proofs.SetLemmas.{stood_there}
use Rattle.lab_explore_states.proofs.stored.Stored.is_round.Goals as goal

pub returns-in-Some : goal.returns-in-Some
returns-in-Some c = λ yes.
    let there = c.is_at.ensures yes in
    subst (λ (v : WalkView). Contains (seen v).past (seen v).at) c.self.view_is
    (stood_there c.rows_tell_apart.ensures
    (start_of c.self.inside.of.value.program c.self.inside.of.value.workers) c.self.inside.tables c.self.inside.here
    c.self.inside.past.items c.self.inside.rows (standings c.self.inside.states.items) c.self.invariant there.0
    (subst (λ xs. Contains xs there.0) c.as_slice-in-Some.ensures.value there.1) (there.2 ∙ c.cut-row.ensures))
