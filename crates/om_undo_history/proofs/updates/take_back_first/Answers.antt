use Rattle.std.proofs.Common.{◌≡◌, ◌∙◌, sym, ap, subst, arith, take, ◌-◌, List, ℕ, get_or, set}
use Rattle.std.proofs.Math.ListN.{length-set}
use Rattle.std.proofs.lemmas.List.{take-set}
use Rattle.om_foot.specs.declared.footprint.Access.{Access}
use Rattle.om_state.specs.declared.step.Update.{Update}
use Rattle.om_state.specs.State.{State, state_before, taken_back}
use Rattle.om_memory.specs.Memories.{Pasts, state_of, pasts_of}
use Rattle.om_undo_history.specs.Fills.{filled_at, filled, popped, popped_all, CanTakeBack}
use Rattle.om_undo_history.proofs.TakingBack.{BackTurn, back_turn}
use Rattle.om_undo_history.proofs.updates.take_back_first.Goals as goal

pub take_back-requires-clause-marked : goal.take_back-requires-clause-marked
take_back-requires-clause-marked c =
    let us : List Update = c.loop-i.small.items in
    let at = c.replace-update.ensures.value ∙ c.index_mut.ensures.value
    ∙ ap (get_or us (c.loop-i.i - 1)) (sym c.replace-update.ensures.value) in
    (back_turn c.loop-i.i c.args.footprint.now us (state_of c.loop-i.store) (pasts_of c.loop-i.store)
    c.index-footprint-i.result c.replace-update.result (omega arith) (omega arith)
    (omega (arith, c.loop-i.invariant.same_length)) c.index-footprint-i.is at c.loop-i.invariant.can).marked

pub take_back-requires-clause-past : goal.take_back-requires-clause-past
take_back-requires-clause-past c =
    let us : List Update = c.loop-i.small.items in
    let at = c.replace-update.ensures.value ∙ c.index_mut.ensures.value
    ∙ ap (get_or us (c.loop-i.i - 1)) (sym c.replace-update.ensures.value) in
    (back_turn c.loop-i.i c.args.footprint.now us (state_of c.loop-i.store) (pasts_of c.loop-i.store)
    c.index-footprint-i.result c.replace-update.result (omega arith) (omega arith)
    (omega (arith, c.loop-i.invariant.same_length)) c.index-footprint-i.is at c.loop-i.invariant.can).past

pub take_back-requires-clause-fits : goal.take_back-requires-clause-fits
take_back-requires-clause-fits c =
    let us : List Update = c.loop-i.small.items in
    let at = c.replace-update.ensures.value ∙ c.index_mut.ensures.value
    ∙ ap (get_or us (c.loop-i.i - 1)) (sym c.replace-update.ensures.value) in
    (back_turn c.loop-i.i c.args.footprint.now us (state_of c.loop-i.store) (pasts_of c.loop-i.store)
    c.index-footprint-i.result c.replace-update.result (omega arith) (omega arith)
    (omega (arith, c.loop-i.invariant.same_length)) c.index-footprint-i.is at c.loop-i.invariant.can).fits

pub loop-i-preserved : goal.loop-i-preserved
loop-i-preserved c =
    let us : List Update = c.loop-i.small.items in
    let footprint : List Access = c.args.footprint.now in
    let i : ℕ = c.loop-i.i in
    let a : Access = c.index-footprint-i.result in
    let u : Update = c.replace-update.result in
    let s : State = state_of c.loop-i.store in
    let ps : Pasts = pasts_of c.loop-i.store in
    let at : u ≡ get_or us (i - 1) u = c.replace-update.ensures.value ∙ c.index_mut.ensures.value
    ∙ ap (get_or us (i - 1)) (sym c.replace-update.ensures.value) in
    let turn : BackTurn i (i - 1) footprint us s ps a u = back_turn i footprint us s ps a u (omega arith) (omega arith)
    (omega (arith, c.loop-i.invariant.same_length)) c.index-footprint-i.is at c.loop-i.invariant.can in
    let vs : List Update = set us (i - 1) c.replace-update.new.dest in
    let front : take (i - 1) vs ≡ take (i - 1) us = take-set us (i - 1) c.replace-update.new.dest in
    let state : state_of c.take_back.new.store ≡ state_before a (filled_at a u ps) s = c.take_back.ensures.state in
    let pasts : pasts_of c.take_back.new.store ≡ popped a u ps = c.take_back.ensures.pasts in
    record {
      state =
          (λ j. taken_back (take (i - 1) footprint) (filled (take (i - 1) footprint) (front j) (pasts j)) (state j))
          ∙ sym turn.state ∙ c.loop-i.invariant.state;
      pasts = (λ j. popped_all (take (i - 1) footprint) (front j) (pasts j)) ∙ sym turn.pasts
          ∙ c.loop-i.invariant.pasts;
      can = subst (λ x. CanTakeBack (take (i - 1) footprint) x (state_of c.take_back.new.store)
          (pasts_of c.take_back.new.store)) (sym front)
          (subst (λ t. CanTakeBack (take (i - 1) footprint) (take (i - 1) us) t (pasts_of c.take_back.new.store))
          (sym state)
          (subst (λ qs. CanTakeBack (take (i - 1) footprint) (take (i - 1) us) (state_before a (filled_at a u ps) s) qs)
          (sym pasts) turn.can));
      kept = λ q. c.take_back.ensures.kept q ∙ c.loop-i.invariant.kept q;
      same_length = length-set us (i - 1) c.replace-update.new.dest ∙ c.loop-i.invariant.same_length;
    }
