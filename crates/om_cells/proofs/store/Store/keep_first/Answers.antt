use Rattle.std.proofs.Common.{◌∙◌, ap}
use Rattle.om_foot.specs.declared.object.Obj.{Obj}
use Rattle.om_cells.specs.Stores.{kept_at, state_of, is_kept}
use Rattle.om_state.specs.State.{with_value}
use Rattle.om_state.specs.Values.{default_of}
use Rattle.om_cells.proofs.StoreLemmas.{held, held-sets, held-same, kept-same, kept-there, kept-others, default-held, put_same}
use Rattle.om_cells.proofs.store.Store.keep_first.Goals as goal

pub returns-in_err-enter-clause-state : goal.returns-in_err-enter-clause-state
unfolding state_of
returns-in_err-enter-clause-state c = held-same _ _ c.in_err-enter.ensures.unchanged_on_error

pub returns-in_err-enter-clause-others_kept : goal.returns-in_err-enter-clause-others_kept
unfolding is_kept
returns-in_err-enter-clause-others_kept c = kept-same _ _ c.in_err-enter.ensures.unchanged_on_error

pub returns-clause-state : goal.returns-clause-state
unfolding state_of is_kept
returns-clause-state c =
    let ks = kept_at c.args.self.now in
    let k : Obj = c.args.access.now.object in
    held-sets ks _ k _ c.in_ok-enter.ensures.entered
    ∙ ap (λ v. with_value k v (held ks)) (c.of-place.ensures ∙ c.default_at.ensures)
    ∙ put_same k (default_of k) (held ks) (default-held ks k c.requires)

pub returns-clause-kept : goal.returns-clause-kept
unfolding is_kept
returns-clause-kept c = kept-there (kept_at c.args.self.now) _ c.args.access.now.object _ c.in_ok-enter.ensures.entered

pub returns-clause-others_kept : goal.returns-clause-others_kept
unfolding is_kept
returns-clause-others_kept c = kept-others (kept_at c.args.self.now) _ c.args.access.now.object _
    c.in_ok-enter.ensures.entered
