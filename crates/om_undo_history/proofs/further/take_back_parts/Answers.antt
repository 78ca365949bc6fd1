use Rattle.std.proofs.Common.{◌≡◌, ◌∙◌, sym, ap, subst, true}
use Rattle.std.proofs.lemmas.List.Elements.{All-weaker}
use Rattle.om_foot.specs.declared.footprint.Access.{Access}
use Rattle.om_foot.specs.Cells.{cells_listed}
use Rattle.om_state.specs.State.{State, taken_back}
use Rattle.om_memory.specs.Memories.{Pasts, state_of, is_kept, pasts_of}
use Rattle.om_undo_history.specs.Backs.{backs_listed}
use Rattle.om_undo_history.specs.Fills.{filled, popped_all, CanTakeBack}
use Rattle.om_undo_history.proofs.FurtherParts.{kept_parts, parts_back, back_state, back_pasts}
use Rattle.om_undo_history.proofs.further.take_back_parts.Goals as goal

pub take_back_all-requires-clause-kept : goal.take_back_all-requires-clause-kept
take_back_all-requires-clause-kept c =
    (kept_parts c.args.footprint.now c.parts.result.0.now c.parts.result.1.now c.parts.result.2.now
    c.args.back.now.first.items c.parts.ensures.first c.parts.ensures.cells c.parts.ensures.last
    c.requires.first (λ (a : Access). is_kept c.args.store.now a.object ≡ true) c.requires.kept).1.1

pub take_back_all-requires-clause-can : goal.take_back_all-requires-clause-can
take_back_all-requires-clause-can c =
    (parts_back c.args.footprint.now c.parts.result.0.now c.parts.result.1.now c.parts.result.2.now
    c.args.back.now.first.items c.parts.ensures.first c.parts.ensures.cells c.parts.ensures.last
    c.requires.first c.args.back.now.cells.items c.args.back.now.last.items (state_of c.args.store.now)
    (pasts_of c.args.store.now) c.requires.along c.requires.can).last

pub take_back_cells-requires-clause-kept : goal.take_back_cells-requires-clause-kept
take_back_cells-requires-clause-kept c =
    All-weaker (λ (a : Access). is_kept c.args.store.now a.object ≡ true)
    (λ (a : Access). is_kept c.take_back_all.new.store a.object ≡ true)
    (λ a h. c.take_back_all.ensures.kept a.object ∙ h) (cells_listed c.parts.result.1.now)
    (kept_parts c.args.footprint.now c.parts.result.0.now c.parts.result.1.now c.parts.result.2.now
    c.args.back.now.first.items c.parts.ensures.first c.parts.ensures.cells c.parts.ensures.last
    c.requires.first (λ (a : Access). is_kept c.args.store.now a.object ≡ true) c.requires.kept).1.0

pub take_back_all-requires-2-clause-kept : goal.take_back_all-requires-2-clause-kept
take_back_all-requires-2-clause-kept c =
    All-weaker (λ (a : Access). is_kept c.args.store.now a.object ≡ true)
    (λ (a : Access). is_kept c.take_back_cells.new.store a.object ≡ true)
    (λ a h. c.take_back_cells.ensures.kept a.object ∙ c.take_back_all.ensures.kept a.object ∙ h) c.parts.result.0.now
    (kept_parts c.args.footprint.now c.parts.result.0.now c.parts.result.1.now
    c.parts.result.2.now c.args.back.now.first.items c.parts.ensures.first c.parts.ensures.cells
    c.parts.ensures.last c.requires.first
    (λ (a : Access). is_kept c.args.store.now a.object ≡ true) c.requires.kept).0

pub take_back_all-requires-2-clause-can : goal.take_back_all-requires-2-clause-can
take_back_all-requires-2-clause-can c =
    subst (λ (t : State). CanTakeBack c.parts.result.0.now c.args.back.now.first.items t
    (pasts_of c.take_back_cells.new.store))
    (sym (c.take_back_cells.ensures.state
    ∙ ap (taken_back (cells_listed c.parts.result.1.now) (backs_listed c.args.back.now.cells.items))
    c.take_back_all.ensures.state))
    (subst (λ (qs : Pasts). CanTakeBack c.parts.result.0.now c.args.back.now.first.items
    (taken_back (cells_listed c.parts.result.1.now) (backs_listed c.args.back.now.cells.items)
    (taken_back c.parts.result.2.now (filled c.parts.result.2.now c.args.back.now.last.items
    (pasts_of c.args.store.now)) (state_of c.args.store.now))) qs)
    (sym (c.take_back_cells.ensures.pasts ∙ c.take_back_all.ensures.pasts))
    (parts_back c.args.footprint.now c.parts.result.0.now c.parts.result.1.now
    c.parts.result.2.now c.args.back.now.first.items c.parts.ensures.first c.parts.ensures.cells
    c.parts.ensures.last c.requires.first c.args.back.now.cells.items
    c.args.back.now.last.items (state_of c.args.store.now) (pasts_of c.args.store.now) c.requires.along
    c.requires.can).first)

pub returns-clause-state : goal.returns-clause-state
returns-clause-state c =
    c.take_back_all-2.ensures.state
    ∙ (λ j. taken_back c.parts.result.0.now (filled c.parts.result.0.now c.args.back.now.first.items
    ((c.take_back_cells.ensures.pasts ∙ c.take_back_all.ensures.pasts) j))
    ((c.take_back_cells.ensures.state
    ∙ ap (taken_back (cells_listed c.parts.result.1.now) (backs_listed c.args.back.now.cells.items))
    c.take_back_all.ensures.state) j))
    ∙ sym (parts_back c.args.footprint.now c.parts.result.0.now c.parts.result.1.now
    c.parts.result.2.now c.args.back.now.first.items c.parts.ensures.first c.parts.ensures.cells
    c.parts.ensures.last c.requires.first c.args.back.now.cells.items
    c.args.back.now.last.items (state_of c.args.store.now) (pasts_of c.args.store.now) c.requires.along
    c.requires.can).state
    ∙ back_state c.args.footprint.now c.parts.result.0.now c.parts.result.1.now
    c.parts.result.2.now c.args.back.now.first.items c.parts.ensures.first c.parts.ensures.cells
    c.parts.ensures.last c.requires.first c.args.back.now.cells.items
    c.args.back.now.last.items (state_of c.args.store.now) (pasts_of c.args.store.now)

pub returns-clause-pasts : goal.returns-clause-pasts
returns-clause-pasts c =
    c.take_back_all-2.ensures.pasts
    ∙ ap (popped_all c.parts.result.0.now c.args.back.now.first.items)
    (c.take_back_cells.ensures.pasts ∙ c.take_back_all.ensures.pasts)
    ∙ sym (parts_back c.args.footprint.now c.parts.result.0.now c.parts.result.1.now
    c.parts.result.2.now c.args.back.now.first.items c.parts.ensures.first c.parts.ensures.cells
    c.parts.ensures.last c.requires.first c.args.back.now.cells.items
    c.args.back.now.last.items (state_of c.args.store.now) (pasts_of c.args.store.now) c.requires.along
    c.requires.can).pasts
    ∙ back_pasts c.args.footprint.now c.parts.result.0.now c.parts.result.1.now
    c.parts.result.2.now c.args.back.now.first.items c.parts.ensures.first c.parts.ensures.cells
    c.parts.ensures.last c.requires.first c.args.back.now.cells.items
    c.args.back.now.last.items (pasts_of c.args.store.now)
