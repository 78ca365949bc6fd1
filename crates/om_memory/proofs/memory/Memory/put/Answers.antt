use Rattle.std.proofs.Common.{◌∙◌, arith, ap, sym, set}
use Rattle.std.specs.Prelude.{Some}
use Rattle.std.proofs.lemmas.List.{set-get_or}
use Rattle.std.proofs.lemmas.Option.{slice_get-get_or}
use Rattle.std.proofs.lemmas.Result.{on_ok_weaker, on_err_weaker}
use Rattle.om_foot.specs.declared.object.Obj.TheVariants as obj
use Rattle.om_state.specs.declared.value.Val.TheVariants as value
use Rattle.om_state.specs.State.{with_value}
use Rattle.om_cells.specs.Stores as values
use Rattle.om_memory.specs.Memories.{state_of, is_kept, pasts_of, held_by, pasts_by}
use Rattle.om_memory.proofs.Held.{held_put, noted_put, kept_put, within}
use Rattle.om_memory.proofs.memory.Memory.put.Goals as goal

pub index_mut-requires : goal.index_mut-requires
unfolding is_kept
index_mut-requires c = omega (
  arith,
  within c.args.self.now.trails.items c.args.worker c.requires,
  c.args.self.now.trails.ok,
)

pub returns-clause-state : goal.returns-clause-state
unfolding state_of is_kept
returns-clause-state c =
    let ts = c.args.self.now.trails.items in
    let s = values.state_of c.args.self.now.values in
    let w = c.args.worker in
    on_ok_weaker c.become_other.result (λ became. held_put ts w c.become_other.new.self s (within ts w c.requires)
    ∙ ap (λ t. with_value (obj.Control w) (value.Control t.now) (held_by ts s)) became) c.become_other.ensures.became

pub returns-clause-pasts : goal.returns-clause-pasts
unfolding state_of pasts_of is_kept
returns-clause-pasts c =
    let ts = c.args.self.now.trails.items in
    let w = c.args.worker in
    let at = slice_get-get_or ts w _ (within ts w c.requires) ∙ ap Some (sym c.index_mut.ensures.value) in
    on_ok_weaker c.become_other.result (λ became. noted_put ts w c.become_other.new.self c.index_mut.result.now
    (values.state_of c.args.self.now.values) (within ts w c.requires) at (ap (λ t. t.past) became))
    c.become_other.ensures.became

pub returns-clause-kept : goal.returns-clause-kept
unfolding is_kept
returns-clause-kept c = λ q.
    kept_put c.args.self.now.trails.items c.args.worker c.become_other.new.self
    (values.is_kept c.args.self.now.values) q

pub returns-clause-same_state_on_error : goal.returns-clause-same_state_on_error
unfolding state_of
returns-clause-same_state_on_error c =
    let ts = c.args.self.now.trails.items in
    on_err_weaker c.become_other.result (λ same. ap (λ x. held_by x (values.state_of c.args.self.now.values))
    (ap (set ts c.args.worker) (same ∙ c.index_mut.ensures.value) ∙ set-get_or ts c.args.worker _))
    c.become_other.ensures.unchanged_on_error

pub returns-clause-same_pasts_on_error : goal.returns-clause-same_pasts_on_error
unfolding pasts_of
returns-clause-same_pasts_on_error c =
    let ts = c.args.self.now.trails.items in
    on_err_weaker c.become_other.result (λ same. ap pasts_by (ap (set ts c.args.worker) (same ∙ c.index_mut.ensures.value)
    ∙ set-get_or ts c.args.worker _)) c.become_other.ensures.unchanged_on_error
