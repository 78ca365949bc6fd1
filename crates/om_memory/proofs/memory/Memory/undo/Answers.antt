use Rattle.std.proofs.Common.{◌∙◌, arith, ap, sym, map}
use Rattle.std.specs.Prelude.{slice_get, Some}
use Rattle.std.proofs.lemmas.Option.{slice_get-get_or}
use Rattle.om_foot.specs.declared.object.Obj.TheVariants as obj
use Rattle.om_state.specs.declared.value.Val.TheVariants as value
use Rattle.om_state.specs.State.{with_value}
use Rattle.om_cells.specs.Stores as values
use Rattle.om_memory.specs.Memories.{state_of, is_kept, pasts_of, held_by, trail_now, trail_past, first_or}
use Rattle.om_memory.proofs.Held.{held_put, popped_put, kept_put, within, with_past, undone-now, undone-past, some_past}
use Rattle.om_memory.proofs.memory.Memory.undo.Goals as goal

pub index_mut-requires : goal.index_mut-requires
unfolding pasts_of
index_mut-requires c =
    let ts = c.args.self.now.trails.items in
    omega (
      arith,
      within ts c.args.worker (with_past (slice_get ts c.args.worker) c.requires),
      c.args.self.now.trails.ok,
    )

pub undo-requires : goal.undo-requires
unfolding pasts_of
undo-requires c =
    let ts = c.args.self.now.trails.items in
    let w = c.args.worker in
    let at = slice_get-get_or ts w _ (within ts w (with_past (slice_get ts w) c.requires))
    ∙ ap Some (sym c.index_mut.ensures.value) in
    some_past (slice_get ts w) c.index_mut.result.now at c.requires

pub returns-clause-state : goal.returns-clause-state
unfolding state_of pasts_of
returns-clause-state c =
    let ts = c.args.self.now.trails.items in
    let s = values.state_of c.args.self.now.values in
    let w = c.args.worker in
    let here = within ts w (with_past (slice_get ts w) c.requires) in
    let at = slice_get-get_or ts w _ here ∙ ap Some (sym c.index_mut.ensures.value) in
    let some = some_past (slice_get ts w) c.index_mut.result.now at c.requires in
    held_put ts w c.undo.new.self s here
    ∙ ap (λ v. with_value (obj.Control w) v (held_by ts s)) (ap (λ t. value.Control t.now) c.undo.ensures
    ∙ undone-now c.index_mut.result.now some)
    ∙ sym (ap (λ o. with_value (obj.Control w) (first_or (value.Control (trail_now o))
    (map value.Control (trail_past o))) (held_by ts s)) at)

pub returns-clause-pasts : goal.returns-clause-pasts
unfolding pasts_of
returns-clause-pasts c =
    let ts = c.args.self.now.trails.items in
    let w = c.args.worker in
    let here = within ts w (with_past (slice_get ts w) c.requires) in
    let at = slice_get-get_or ts w _ here ∙ ap Some (sym c.index_mut.ensures.value) in
    let some = some_past (slice_get ts w) c.index_mut.result.now at c.requires in
    popped_put ts w c.undo.new.self c.index_mut.result.now here at (ap (λ t. t.past) c.undo.ensures
    ∙ undone-past c.index_mut.result.now some)

pub returns-clause-kept : goal.returns-clause-kept
unfolding is_kept
returns-clause-kept c = λ q.
    kept_put c.args.self.now.trails.items c.args.worker c.undo.new.self (values.is_kept c.args.self.now.values) q
