use Rattle.std.proofs.Common.{◌∙◌, sym, ap}
use Rattle.std.specs.Prelude.{is_some}
use Rattle.om_cells.specs.Slots.{kept_over}
use Rattle.om_cells.specs.Stores.{state_of, is_kept, kept_at, kept_in}
use Rattle.om_cells.proofs.CellStates.{some_over, none_over}
use Rattle.om_cells.proofs.StoreLemmas.{on_okay, held-same, kept-same}
use Rattle.om_cells.proofs.store.Store.keep_other.Goals as goal

pub keep_first-requires : goal.keep_first-requires
unfolding is_kept
keep_first-requires c = none_over _ _ (sym c.holds.ensures ∙ c.if-holds.false) c.requires

pub returns-then-holds-clause-state : goal.returns-then-holds-clause-state
unfolding state_of
returns-then-holds-clause-state c = held-same (kept_at c.args.self.now) _
    (λ q. ap (λ o. kept_over o (kept_in c.args.self.now.unnamed c.args.self.now.named q)) (c.share.ensures.stays q))

pub returns-then-holds-clause-kept : goal.returns-then-holds-clause-kept
unfolding is_kept
returns-then-holds-clause-kept c = on_okay c.share.result (some_over _ _
    (ap is_some (c.share.ensures.stays c.args.access.now.object) ∙ sym c.holds.ensures ∙ c.if-holds.true))

pub returns-then-holds-clause-others_kept : goal.returns-then-holds-clause-others_kept
unfolding is_kept
returns-then-holds-clause-others_kept c = kept-same (kept_at c.args.self.now) _
    (λ q. ap (λ o. kept_over o (kept_in c.args.self.now.unnamed c.args.self.now.named q)) (c.share.ensures.stays q))
