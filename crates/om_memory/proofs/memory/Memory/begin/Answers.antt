use Rattle.std.proofs.Common.{◌∙◌, ap}
use Rattle.om_foot.specs.declared.object.Obj.TheVariants as obj
use Rattle.om_state.specs.declared.value.Val.TheVariants as value
use Rattle.om_state.specs.State.{with_value}
use Rattle.om_cells.specs.Stores as values
use Rattle.om_memory.specs.Memories.{state_of, is_kept, pasts_of, held_by, begun_at}
use Rattle.om_memory.proofs.Held.{held_put, begun_put, kept_put, there}
use Rattle.om_memory.proofs.Values.{held_grown, pasts_grown, kept_grown}
use Rattle.om_memory.proofs.memory.Memory.begin.Goals as goal

pub returns-in-Ok-clause-state : goal.returns-in-Ok-clause-state
unfolding state_of
returns-in-Ok-clause-state c =
    let us = c.grow.new.trails.items in
    let s = (values.state_of c.args.self.now.values) in
    let w = c.args.worker in
    held_put us w c.replace.new.dest s c.in-Ok.ensures.enough
    ∙ ap (λ v. with_value (obj.Control w) (value.Control v) (held_by us s))
    (ap (λ t. t.now) (c.replace.ensures.after ∙ c.of-trail.ensures) ∙ c.in_ok-control.ensures)
    ∙ ap (with_value (obj.Control w) (value.Control c.args.control.now))
    (held_grown c.args.self.now.trails.items us s c.grow.ensures.grown)

pub returns-in-Ok-clause-pasts : goal.returns-in-Ok-clause-pasts
unfolding pasts_of
returns-in-Ok-clause-pasts c =
    let us = c.grow.new.trails.items in
    let w = c.args.worker in
    begun_put us w c.replace.new.dest c.in-Ok.ensures.enough
    (ap (λ t. t.past) (c.replace.ensures.after ∙ c.of-trail.ensures))
    ∙ ap (begun_at (obj.Control w)) (pasts_grown c.args.self.now.trails.items us c.grow.ensures.grown)

pub returns-in-Ok-clause-kept : goal.returns-in-Ok-clause-kept
unfolding is_kept
returns-in-Ok-clause-kept c =
    let us = c.grow.new.trails.items in
    let w = c.args.worker in
    kept_put us w c.replace.new.dest (values.is_kept c.args.self.now.values) (obj.Control w)
    ∙ there us w c.in-Ok.ensures.enough

pub returns-in-Ok-clause-others_kept : goal.returns-in-Ok-clause-others_kept
unfolding is_kept
returns-in-Ok-clause-others_kept c = λ q h.
    let us = c.grow.new.trails.items in
    let k = (values.is_kept c.args.self.now.values) in
    kept_put us c.args.worker c.replace.new.dest k q
    ∙ kept_grown c.args.self.now.trails.items us k c.grow.ensures.grown q h

pub returns-in-Err-clause-others_kept : goal.returns-in-Err-clause-others_kept
unfolding is_kept
returns-in-Err-clause-others_kept c = λ q. kept_grown c.args.self.now.trails.items c.grow.new.trails.items
    (values.is_kept c.args.self.now.values)
    c.grow.ensures.grown q

pub returns-in-Err-clause-same_state_on_error : goal.returns-in-Err-clause-same_state_on_error
unfolding state_of
returns-in-Err-clause-same_state_on_error c = held_grown c.args.self.now.trails.items c.grow.new.trails.items
    (values.state_of c.args.self.now.values)
    c.grow.ensures.grown

pub returns-in-Err-clause-same_pasts_on_error : goal.returns-in-Err-clause-same_pasts_on_error
unfolding pasts_of
returns-in-Err-clause-same_pasts_on_error c = pasts_grown c.args.self.now.trails.items c.grow.new.trails.items
    c.grow.ensures.grown
