use Rattle.std.proofs.Common.{◌∙◌, ap, refl}
use Rattle.std.proofs.lemmas.Result.{on_ok_weaker, on_err_weaker}
use Rattle.om_cells.specs.Stores as values
use Rattle.om_memory.specs.Memories.{state_of, is_kept, pasts_of, held_by}
use Rattle.om_memory.proofs.Values.{value_put, kept_there, kept_more}
use Rattle.om_memory.proofs.memory.Memory.create.Goals as goal

pub returns-clause-state : goal.returns-clause-state
unfolding state_of
returns-clause-state c = on_ok_weaker c.create.result
    (value_put c.args.self.now.trails.items (values.state_of c.args.self.now.values) _ c.args.object.now
    c.args.value c.requires)
    c.create.ensures.state

pub returns-clause-pasts : goal.returns-clause-pasts
unfolding pasts_of
returns-clause-pasts c = refl

pub returns-clause-kept : goal.returns-clause-kept
unfolding is_kept
returns-clause-kept c = on_ok_weaker c.create.result
    (λ kept. kept_there c.args.self.now.trails.items (values.is_kept c.create.new.self) c.args.object.now c.requires
    ∙ kept)
    c.create.ensures.kept

pub returns-clause-others_kept : goal.returns-clause-others_kept
unfolding is_kept
returns-clause-others_kept c = λ q. kept_more c.args.self.now.trails.items (values.is_kept c.args.self.now.values)
    (values.is_kept c.create.new.self) c.create.ensures.others_kept q

pub returns-clause-same_state_on_error : goal.returns-clause-same_state_on_error
unfolding state_of
returns-clause-same_state_on_error c = on_err_weaker c.create.result (ap (held_by c.args.self.now.trails.items))
    c.create.ensures.unchanged_on_error
