use Rattle.std.proofs.Common.{◌∙◌, ap, subst, sym, arith, List, take, set}
use Rattle.std.proofs.Math.ListN.{length-set}
use Rattle.om_foot.specs.declared.footprint.Access.{Access}
use Rattle.om_state.specs.declared.step.Update.{Update}
use Rattle.om_state.specs.State.{taken_back}
use Rattle.om_memory.specs.Memories.{state_of, pasts_of}
use Rattle.om_undo_history.specs.Fills.{filled, popped_all, CanTakeBack}
use Rattle.om_undo_history.proofs.Making.{fits_at, shaped_at, one_more, all_made}
use Rattle.om_undo_history.proofs.Halfway.{first_can, first_state, first_pasts}
use Rattle.om_undo_history.proofs.updates.make_all.Goals as goal

pub exchange-requires-clause-fits : goal.exchange-requires-clause-fits
exchange-requires-clause-fits c =
    fits_at c.loop-i.i c.args.footprint.now c.args.updates.now.items (state_of c.args.store.now)
    (pasts_of c.args.store.now) c.loop-i.updates.items (state_of c.loop-i.store) (pasts_of c.loop-i.store)
    c.index-footprint-i.result c.index_mut.result.now (omega arith) (omega (arith, c.loop-i.invariant.same_length))
    c.index-footprint-i.is c.index_mut.ensures.value c.loop-i.invariant.made c.requires.fits

pub exchange-requires-clause-shaped : goal.exchange-requires-clause-shaped
exchange-requires-clause-shaped c =
    shaped_at c.loop-i.i c.args.footprint.now c.args.updates.now.items (state_of c.args.store.now)
    (pasts_of c.args.store.now) c.loop-i.updates.items (state_of c.loop-i.store) (pasts_of c.loop-i.store)
    c.index-footprint-i.result c.index_mut.result.now (omega arith) (omega (arith, c.loop-i.invariant.same_length))
    c.index-footprint-i.is c.index_mut.ensures.value c.loop-i.invariant.made c.requires.shaped

pub loop-i-preserved : goal.loop-i-preserved
loop-i-preserved c =
    let us : List Update = c.loop-i.updates.items in
    let w : Update = c.exchange.new.update in
    record {
      made = one_more c.loop-i.i c.args.footprint.now c.args.updates.now.items (state_of c.args.store.now)
          (pasts_of c.args.store.now) us (state_of c.loop-i.store) (pasts_of c.loop-i.store)
          c.index-footprint-i.result c.index_mut.result.now (omega arith)
          (omega (arith, c.loop-i.invariant.same_length)) c.index-footprint-i.is c.index_mut.ensures.value
          c.loop-i.invariant.made w (state_of c.exchange.new.store) (pasts_of c.exchange.new.store)
          c.in-Ok.ensures.small c.in-Ok.ensures.state c.in-Ok.ensures.pasts;
      kept = λ q. c.exchange.ensures.kept q ∙ c.loop-i.invariant.kept q;
      same_length = length-set us c.loop-i.i w ∙ c.loop-i.invariant.same_length;
    }

pub take_back_first-requires-clause-can : goal.take_back_first-requires-clause-can
take_back_first-requires-clause-can c =
    let footprint : List Access = c.args.footprint.now in
    let small : List Update = set c.loop-i.updates.items c.loop-i.i c.exchange.new.update in
    subst (λ t. CanTakeBack (take c.loop-i.i footprint) (take c.loop-i.i small) t (pasts_of c.exchange.new.store))
    (sym c.in-Err.ensures.same_state_on_error)
    (subst (λ qs. CanTakeBack (take c.loop-i.i footprint) (take c.loop-i.i small) (state_of c.loop-i.store) qs)
    (sym c.in-Err.ensures.same_pasts_on_error)
    (first_can c.loop-i.i footprint c.args.updates.now.items (state_of c.args.store.now) (pasts_of c.args.store.now)
    c.loop-i.updates.items (state_of c.loop-i.store) (pasts_of c.loop-i.store) c.exchange.new.update (omega arith)
    (omega (arith, c.loop-i.invariant.same_length)) c.loop-i.invariant.made c.requires.shaped c.requires.fits))

pub returns-in-Err-clause-same_state_on_error : goal.returns-in-Err-clause-same_state_on_error
returns-in-Err-clause-same_state_on_error c =
    let footprint : List Access = c.args.footprint.now in
    let small : List Update = set c.loop-i.updates.items c.loop-i.i c.exchange.new.update in
    c.take_back_first.ensures.state
    ∙ (λ j. taken_back (take c.loop-i.i footprint)
    (filled (take c.loop-i.i footprint) (take c.loop-i.i small) (c.in-Err.ensures.same_pasts_on_error j))
    (c.in-Err.ensures.same_state_on_error j))
    ∙ first_state c.loop-i.i footprint c.args.updates.now.items (state_of c.args.store.now)
    (pasts_of c.args.store.now)
    c.loop-i.updates.items (state_of c.loop-i.store) (pasts_of c.loop-i.store) c.exchange.new.update (omega arith)
    (omega (arith, c.loop-i.invariant.same_length)) c.loop-i.invariant.made c.requires.shaped

pub returns-in-Err-clause-same_pasts_on_error : goal.returns-in-Err-clause-same_pasts_on_error
returns-in-Err-clause-same_pasts_on_error c =
    let footprint : List Access = c.args.footprint.now in
    let small : List Update = set c.loop-i.updates.items c.loop-i.i c.exchange.new.update in
    c.take_back_first.ensures.pasts
    ∙ ap (popped_all (take c.loop-i.i footprint) (take c.loop-i.i small)) c.in-Err.ensures.same_pasts_on_error
    ∙ first_pasts c.loop-i.i footprint c.args.updates.now.items (state_of c.args.store.now)
    (pasts_of c.args.store.now)
    c.loop-i.updates.items (state_of c.loop-i.store) (pasts_of c.loop-i.store) c.exchange.new.update (omega arith)
    (omega (arith, c.loop-i.invariant.same_length)) c.loop-i.invariant.made c.requires.shaped

pub returns-clause-state : goal.returns-clause-state
returns-clause-state c =
    (all_made c.loop-i.i c.args.footprint.now c.args.updates.now.items (state_of c.args.store.now)
    (pasts_of c.args.store.now) c.loop-i.updates.items (state_of c.loop-i.store) (pasts_of c.loop-i.store)
    (omega arith) c.loop-i.invariant.made).state

pub returns-clause-small : goal.returns-clause-small
returns-clause-small c =
    (all_made c.loop-i.i c.args.footprint.now c.args.updates.now.items (state_of c.args.store.now)
    (pasts_of c.args.store.now) c.loop-i.updates.items (state_of c.loop-i.store) (pasts_of c.loop-i.store)
    (omega arith) c.loop-i.invariant.made).small

pub returns-clause-pasts : goal.returns-clause-pasts
returns-clause-pasts c =
    (all_made c.loop-i.i c.args.footprint.now c.args.updates.now.items (state_of c.args.store.now)
    (pasts_of c.args.store.now) c.loop-i.updates.items (state_of c.loop-i.store) (pasts_of c.loop-i.store)
    (omega arith) c.loop-i.invariant.made).pasts_are
