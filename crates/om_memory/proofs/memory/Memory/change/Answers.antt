use Rattle.std.proofs.Common.{◌∙◌, arith, ap, sym, subst, set}
use Rattle.std.specs.Prelude.{Some}
use Rattle.std.proofs.lemmas.List.{set-get_or}
use Rattle.std.proofs.lemmas.Option.{slice_get-get_or}
use Rattle.std.proofs.lemmas.Result.{on_ok_weaker, on_err_weaker}
use Rattle.om_foot.specs.declared.object.Obj.TheVariants as obj
use Rattle.om_state.specs.declared.value.Val.TheVariants as value
use Rattle.om_state.specs.Edits.{changed, HaveRoom}
use Rattle.om_state.specs.State.{with_value}
use Rattle.om_cells.specs.Stores as values
use Rattle.om_memory.specs.Memories.{state_of, is_kept, pasts_of, held_by, pasts_by, trail_now}
use Rattle.om_memory.proofs.Held.{held_put, noted_put, kept_put, within}
use Rattle.om_memory.proofs.memory.Memory.change.Goals as goal

pub index_mut-requires : goal.index_mut-requires
unfolding is_kept
index_mut-requires c = omega (
  arith,
  within c.args.self.now.trails.items c.args.worker c.requires.kept,
  c.args.self.now.trails.ok,
)

pub step-requires : goal.step-requires
unfolding state_of is_kept
step-requires c =
    let ts = c.args.self.now.trails.items in
    let at = slice_get-get_or ts c.args.worker _ (within ts c.args.worker c.requires.kept)
    ∙ ap Some (sym c.index_mut.ensures.value) in
    subst (λ o. HaveRoom c.args.edits (trail_now o)) at c.requires.room

pub returns-clause-state : goal.returns-clause-state
unfolding state_of is_kept
returns-clause-state c =
    let ts = c.args.self.now.trails.items in
    let s = values.state_of c.args.self.now.values in
    let w = c.args.worker in
    let at = slice_get-get_or ts w _ (within ts w c.requires.kept) ∙ ap Some (sym c.index_mut.ensures.value) in
    on_ok_weaker c.step.result (λ stepped. held_put ts w c.step.new.self s (within ts w c.requires.kept)
    ∙ ap (λ t. with_value (obj.Control w) (value.Control t.now) (held_by ts s)) stepped
    ∙ sym (ap (λ o. with_value (obj.Control w) (value.Control (changed c.args.edits (trail_now o))) (held_by ts s)) at))
    c.step.ensures.stepped

pub returns-clause-pasts : goal.returns-clause-pasts
unfolding state_of pasts_of is_kept
returns-clause-pasts c =
    let ts = c.args.self.now.trails.items in
    let w = c.args.worker in
    let at = slice_get-get_or ts w _ (within ts w c.requires.kept) ∙ ap Some (sym c.index_mut.ensures.value) in
    on_ok_weaker c.step.result (λ stepped. noted_put ts w c.step.new.self c.index_mut.result.now
    (values.state_of c.args.self.now.values) (within ts w c.requires.kept) at (ap (λ t. t.past) stepped))
    c.step.ensures.stepped

pub returns-clause-kept : goal.returns-clause-kept
unfolding is_kept
returns-clause-kept c = λ q.
    kept_put c.args.self.now.trails.items c.args.worker c.step.new.self (values.is_kept c.args.self.now.values) q

pub returns-clause-same_state_on_error : goal.returns-clause-same_state_on_error
unfolding state_of
returns-clause-same_state_on_error c =
    let ts = c.args.self.now.trails.items in
    on_err_weaker c.step.result (λ same. ap (λ x. held_by x (values.state_of c.args.self.now.values))
    (ap (set ts c.args.worker) (same ∙ c.index_mut.ensures.value) ∙ set-get_or ts c.args.worker _))
    c.step.ensures.unchanged_on_error

pub returns-clause-same_pasts_on_error : goal.returns-clause-same_pasts_on_error
unfolding pasts_of
returns-clause-same_pasts_on_error c =
    let ts = c.args.self.now.trails.items in
    on_err_weaker c.step.result (λ same. ap pasts_by (ap (set ts c.args.worker) (same ∙ c.index_mut.ensures.value)
    ∙ set-get_or ts c.args.worker _)) c.step.ensures.unchanged_on_error
