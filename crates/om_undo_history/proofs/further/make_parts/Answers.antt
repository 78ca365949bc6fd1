-- `can` is what is asked of the first part and of the last one.
use Rattle.std.proofs.Common.{◌≡◌, ◌∙◌, ap, true, length}
use Rattle.std.proofs.lemmas.List.Elements.{All-weaker}
use Rattle.om_foot.specs.declared.footprint.Access.{Access}
use Rattle.om_foot.specs.Cells.{cells_listed}
use Rattle.om_memory.specs.Memories.{state_of, is_kept, pasts_of}
use Rattle.om_undo_history.proofs.Parts.{length-small_record}
use Rattle.om_undo_history.proofs.FurtherParts.{kept_parts, parts_can, parts_made, all_can, all_back, all_popped}
use Rattle.om_undo_history.proofs.FurtherParts.{back_to, were_after, last_fits_at, still_many}
use Rattle.om_undo_history.proofs.further.make_parts.Goals as goal

pub make_all-requires-clause-fits : goal.make_all-requires-clause-fits
make_all-requires-clause-fits c =
    (parts_can c.args.footprint.now c.parts.result.0.now c.parts.result.1.now
    c.parts.result.2.now c.args.back.now.first.items c.parts.ensures.first c.parts.ensures.cells c.parts.ensures.last c.requires.first c.args.runs.now c.args.back.now.last.items (state_of c.args.store.now)
    (pasts_of c.args.store.now) c.requires.along c.requires.fits c.requires.shaped).first_fits

pub make_all-requires-clause-shaped : goal.make_all-requires-clause-shaped
make_all-requires-clause-shaped c =
    (parts_can c.args.footprint.now c.parts.result.0.now c.parts.result.1.now
    c.parts.result.2.now c.args.back.now.first.items c.parts.ensures.first c.parts.ensures.cells c.parts.ensures.last c.requires.first c.args.runs.now c.args.back.now.last.items (state_of c.args.store.now)
    (pasts_of c.args.store.now) c.requires.along c.requires.fits c.requires.shaped).first_shaped

pub make_cells-requires-clause-kept : goal.make_cells-requires-clause-kept
make_cells-requires-clause-kept c =
    All-weaker (λ (a : Access). is_kept c.args.store.now a.object ≡ true)
    (λ (a : Access). is_kept c.make_all.new.store a.object ≡ true)
    (λ a h. c.make_all.ensures.kept a.object ∙ h) (cells_listed c.parts.result.1.now)
    (kept_parts c.args.footprint.now c.parts.result.0.now c.parts.result.1.now
    c.parts.result.2.now c.args.back.now.first.items c.parts.ensures.first c.parts.ensures.cells c.parts.ensures.last c.requires.first (λ (a : Access). is_kept c.args.store.now a.object ≡ true)
    c.requires.kept).1.0

pub take_back_all-requires-clause-kept : goal.take_back_all-requires-clause-kept
take_back_all-requires-clause-kept c =
    All-weaker (λ (a : Access). is_kept c.args.store.now a.object ≡ true)
    (λ (a : Access). is_kept c.make_cells.new.store a.object ≡ true)
    (λ a h. c.make_cells.ensures.kept a.object ∙ c.make_all.ensures.kept a.object ∙ h) c.parts.result.0.now
    (kept_parts c.args.footprint.now c.parts.result.0.now c.parts.result.1.now
    c.parts.result.2.now c.args.back.now.first.items c.parts.ensures.first c.parts.ensures.cells c.parts.ensures.last c.requires.first (λ (a : Access). is_kept c.args.store.now a.object ≡ true)
    c.requires.kept).0

pub take_back_all-requires-clause-can : goal.take_back_all-requires-clause-can
take_back_all-requires-clause-can c =
    let can = parts_can c.args.footprint.now c.parts.result.0.now c.parts.result.1.now
    c.parts.result.2.now c.args.back.now.first.items c.parts.ensures.first c.parts.ensures.cells
    c.parts.ensures.last c.requires.first c.args.runs.now c.args.back.now.last.items
    (state_of c.args.store.now) (pasts_of c.args.store.now) c.requires.along c.requires.fits c.requires.shaped in
    all_can c.parts.result.0.now c.args.back.now.first.items (state_of c.args.store.now)
    (pasts_of c.args.store.now) c.make_all.new.updates.items (state_of c.make_cells.new.store)
    (pasts_of c.make_cells.new.store) (record {
      state = c.in-Err.ensures.same_state_on_error ∙ c.in_ok-make_all.ensures.state;
      small = c.in_ok-make_all.ensures.small;
      pasts_are = c.make_cells.ensures.pasts ∙ c.in_ok-make_all.ensures.pasts;
    }) can.first_shaped can.first_fits

pub returns-in-Err-clause-same_state_on_error : goal.returns-in-Err-clause-same_state_on_error
returns-in-Err-clause-same_state_on_error c =
    let can = parts_can c.args.footprint.now c.parts.result.0.now c.parts.result.1.now
    c.parts.result.2.now c.args.back.now.first.items c.parts.ensures.first c.parts.ensures.cells
    c.parts.ensures.last c.requires.first c.args.runs.now c.args.back.now.last.items
    (state_of c.args.store.now) (pasts_of c.args.store.now) c.requires.along c.requires.fits c.requires.shaped in
    c.take_back_all.ensures.state
    ∙ all_back c.parts.result.0.now c.args.back.now.first.items (state_of c.args.store.now)
    (pasts_of c.args.store.now) c.make_all.new.updates.items (state_of c.make_cells.new.store)
    (pasts_of c.make_cells.new.store) (record {
      state = c.in-Err.ensures.same_state_on_error ∙ c.in_ok-make_all.ensures.state;
      small = c.in_ok-make_all.ensures.small;
      pasts_are = c.make_cells.ensures.pasts ∙ c.in_ok-make_all.ensures.pasts;
    }) can.first_shaped

pub returns-in-Err-clause-same_pasts_on_error : goal.returns-in-Err-clause-same_pasts_on_error
returns-in-Err-clause-same_pasts_on_error c =
    let can = parts_can c.args.footprint.now c.parts.result.0.now c.parts.result.1.now
    c.parts.result.2.now c.args.back.now.first.items c.parts.ensures.first c.parts.ensures.cells
    c.parts.ensures.last c.requires.first c.args.runs.now c.args.back.now.last.items
    (state_of c.args.store.now) (pasts_of c.args.store.now) c.requires.along c.requires.fits c.requires.shaped in
    c.take_back_all.ensures.pasts
    ∙ all_popped c.parts.result.0.now c.args.back.now.first.items (state_of c.args.store.now)
    (pasts_of c.args.store.now) c.make_all.new.updates.items (state_of c.make_cells.new.store)
    (pasts_of c.make_cells.new.store) (record {
      state = c.in-Err.ensures.same_state_on_error ∙ c.in_ok-make_all.ensures.state;
      small = c.in_ok-make_all.ensures.small;
      pasts_are = c.make_cells.ensures.pasts ∙ c.in_ok-make_all.ensures.pasts;
    }) can.first_shaped

pub make_all-requires-2-clause-kept : goal.make_all-requires-2-clause-kept
make_all-requires-2-clause-kept c =
    All-weaker (λ (a : Access). is_kept c.args.store.now a.object ≡ true)
    (λ (a : Access). is_kept c.make_cells.new.store a.object ≡ true)
    (λ a h. c.make_cells.ensures.kept a.object ∙ c.make_all.ensures.kept a.object ∙ h) c.parts.result.2.now
    (kept_parts c.args.footprint.now c.parts.result.0.now c.parts.result.1.now
    c.parts.result.2.now c.args.back.now.first.items c.parts.ensures.first c.parts.ensures.cells c.parts.ensures.last c.requires.first (λ (a : Access). is_kept c.args.store.now a.object ≡ true)
    c.requires.kept).1.1

pub make_all-requires-2-clause-fits : goal.make_all-requires-2-clause-fits
make_all-requires-2-clause-fits c =
    let can = parts_can c.args.footprint.now c.parts.result.0.now c.parts.result.1.now
    c.parts.result.2.now c.args.back.now.first.items c.parts.ensures.first c.parts.ensures.cells
    c.parts.ensures.last c.requires.first c.args.runs.now c.args.back.now.last.items
    (state_of c.args.store.now) (pasts_of c.args.store.now) c.requires.along c.requires.fits c.requires.shaped in
    last_fits_at c.parts.result.0.now c.parts.result.1.now c.parts.result.2.now c.args.back.now.first.items
    c.args.runs.now c.args.back.now.last.items (state_of c.args.store.now) (state_of c.make_all.new.store)
    (state_of c.make_cells.new.store) c.in_ok-make_all.ensures.state c.in-Ok.ensures.state can.last_fits

pub make_all-requires-2-clause-shaped : goal.make_all-requires-2-clause-shaped
make_all-requires-2-clause-shaped c =
    (parts_can c.args.footprint.now c.parts.result.0.now c.parts.result.1.now
    c.parts.result.2.now c.args.back.now.first.items c.parts.ensures.first c.parts.ensures.cells c.parts.ensures.last c.requires.first c.args.runs.now c.args.back.now.last.items (state_of c.args.store.now)
    (pasts_of c.args.store.now) c.requires.along c.requires.fits c.requires.shaped).last_shaped

pub take_back_cells-requires-clause-kept : goal.take_back_cells-requires-clause-kept
take_back_cells-requires-clause-kept c =
    All-weaker (λ (a : Access). is_kept c.args.store.now a.object ≡ true)
    (λ (a : Access). is_kept c.make_all-2.new.store a.object ≡ true)
    (λ a h. c.make_all-2.ensures.kept a.object ∙ c.make_cells.ensures.kept a.object ∙ c.make_all.ensures.kept a.object
    ∙ h) (cells_listed c.parts.result.1.now)
    (kept_parts c.args.footprint.now c.parts.result.0.now c.parts.result.1.now
    c.parts.result.2.now c.args.back.now.first.items c.parts.ensures.first c.parts.ensures.cells c.parts.ensures.last c.requires.first (λ (a : Access). is_kept c.args.store.now a.object ≡ true)
    c.requires.kept).1.0

pub take_back_all-requires-in-Err-make_all-clause-kept :
    goal.take_back_all-requires-in-Err-make_all-clause-kept
take_back_all-requires-in-Err-make_all-clause-kept c =
    All-weaker (λ (a : Access). is_kept c.args.store.now a.object ≡ true)
    (λ (a : Access). is_kept c.take_back_cells.new.store a.object ≡ true)
    (λ a h. c.take_back_cells.ensures.kept a.object ∙ c.make_all-2.ensures.kept a.object
    ∙ c.make_cells.ensures.kept a.object ∙ c.make_all.ensures.kept a.object ∙ h) c.parts.result.0.now
    (kept_parts c.args.footprint.now c.parts.result.0.now c.parts.result.1.now
    c.parts.result.2.now c.args.back.now.first.items c.parts.ensures.first c.parts.ensures.cells c.parts.ensures.last c.requires.first (λ (a : Access). is_kept c.args.store.now a.object ≡ true)
    c.requires.kept).0

pub take_back_all-requires-in-Err-make_all-clause-can :
    goal.take_back_all-requires-in-Err-make_all-clause-can
take_back_all-requires-in-Err-make_all-clause-can c =
    let can = parts_can c.args.footprint.now c.parts.result.0.now c.parts.result.1.now
    c.parts.result.2.now c.args.back.now.first.items c.parts.ensures.first c.parts.ensures.cells
    c.parts.ensures.last c.requires.first c.args.runs.now c.args.back.now.last.items
    (state_of c.args.store.now) (pasts_of c.args.store.now) c.requires.along c.requires.fits c.requires.shaped in
    all_can c.parts.result.0.now c.args.back.now.first.items (state_of c.args.store.now)
    (pasts_of c.args.store.now) c.make_all.new.updates.items (state_of c.take_back_cells.new.store)
    (pasts_of c.take_back_cells.new.store) (record {
      state = c.take_back_cells.ensures.state
          ∙ back_to c.parts.result.1.now c.args.runs.now c.in-Ok.were.items c.replace.new.dest.items
          (state_of c.make_all.new.store) (state_of c.make_cells.new.store) (state_of c.make_all-2.new.store)
          (ap (λ v. v.items) c.replace.ensures.after) c.in-Ok.ensures.were c.in-Ok.ensures.state
          c.in-Err-make_all.ensures.same_state_on_error
          ∙ c.in_ok-make_all.ensures.state;
      small = c.in_ok-make_all.ensures.small;
      pasts_are = c.take_back_cells.ensures.pasts ∙ c.in-Err-make_all.ensures.same_pasts_on_error
          ∙ c.make_cells.ensures.pasts ∙ c.in_ok-make_all.ensures.pasts;
    }) can.first_shaped can.first_fits

pub returns-in-Ok-make_all-clause-state : goal.returns-in-Ok-make_all-clause-state
returns-in-Ok-make_all-clause-state c =
    (parts_made c.args.footprint.now c.parts.result.0.now c.parts.result.1.now
    c.parts.result.2.now c.args.back.now.first.items c.parts.ensures.first c.parts.ensures.cells c.parts.ensures.last c.requires.first c.args.runs.now c.args.back.now.last.items (state_of c.args.store.now)
    (pasts_of c.args.store.now) c.requires.along c.make_all.new.updates.items c.make_all-2.new.updates.items
    c.replace.new.dest.items (state_of c.make_all.new.store) (state_of c.make_cells.new.store)
    (state_of c.make_all-2.new.store) (pasts_of c.make_all.new.store) (pasts_of c.make_cells.new.store)
    (pasts_of c.make_all-2.new.store) (record {
      state = c.in_ok-make_all.ensures.state;
      small = c.in_ok-make_all.ensures.small;
      pasts_are = c.in_ok-make_all.ensures.pasts;
    }) (were_after c.in-Ok.were.items c.replace.new.dest.items _ (ap (λ v. v.items) c.replace.ensures.after) c.in-Ok.ensures.were)
    c.in-Ok.ensures.state c.make_cells.ensures.pasts (record {
      state = c.in-Ok-make_all.ensures.state;
      small = c.in-Ok-make_all.ensures.small;
      pasts_are = c.in-Ok-make_all.ensures.pasts;
    })).state

pub returns-in-Ok-make_all-clause-small : goal.returns-in-Ok-make_all-clause-small
returns-in-Ok-make_all-clause-small c =
    (parts_made c.args.footprint.now c.parts.result.0.now c.parts.result.1.now
    c.parts.result.2.now c.args.back.now.first.items c.parts.ensures.first c.parts.ensures.cells c.parts.ensures.last c.requires.first c.args.runs.now c.args.back.now.last.items (state_of c.args.store.now)
    (pasts_of c.args.store.now) c.requires.along c.make_all.new.updates.items c.make_all-2.new.updates.items
    c.replace.new.dest.items (state_of c.make_all.new.store) (state_of c.make_cells.new.store)
    (state_of c.make_all-2.new.store) (pasts_of c.make_all.new.store) (pasts_of c.make_cells.new.store)
    (pasts_of c.make_all-2.new.store) (record {
      state = c.in_ok-make_all.ensures.state;
      small = c.in_ok-make_all.ensures.small;
      pasts_are = c.in_ok-make_all.ensures.pasts;
    }) (were_after c.in-Ok.were.items c.replace.new.dest.items _ (ap (λ v. v.items) c.replace.ensures.after) c.in-Ok.ensures.were)
    c.in-Ok.ensures.state c.make_cells.ensures.pasts (record {
      state = c.in-Ok-make_all.ensures.state;
      small = c.in-Ok-make_all.ensures.small;
      pasts_are = c.in-Ok-make_all.ensures.pasts;
    })).small

pub returns-in-Ok-make_all-clause-pasts : goal.returns-in-Ok-make_all-clause-pasts
returns-in-Ok-make_all-clause-pasts c =
    (parts_made c.args.footprint.now c.parts.result.0.now c.parts.result.1.now
    c.parts.result.2.now c.args.back.now.first.items c.parts.ensures.first c.parts.ensures.cells c.parts.ensures.last c.requires.first c.args.runs.now c.args.back.now.last.items (state_of c.args.store.now)
    (pasts_of c.args.store.now) c.requires.along c.make_all.new.updates.items c.make_all-2.new.updates.items
    c.replace.new.dest.items (state_of c.make_all.new.store) (state_of c.make_cells.new.store)
    (state_of c.make_all-2.new.store) (pasts_of c.make_all.new.store) (pasts_of c.make_cells.new.store)
    (pasts_of c.make_all-2.new.store) (record {
      state = c.in_ok-make_all.ensures.state;
      small = c.in_ok-make_all.ensures.small;
      pasts_are = c.in_ok-make_all.ensures.pasts;
    }) (were_after c.in-Ok.were.items c.replace.new.dest.items _ (ap (λ v. v.items) c.replace.ensures.after) c.in-Ok.ensures.were)
    c.in-Ok.ensures.state c.make_cells.ensures.pasts (record {
      state = c.in-Ok-make_all.ensures.state;
      small = c.in-Ok-make_all.ensures.small;
      pasts_are = c.in-Ok-make_all.ensures.pasts;
    })).pasts_are

pub returns-in-Ok-make_all-clause-first : goal.returns-in-Ok-make_all-clause-first
returns-in-Ok-make_all-clause-first c =
    still_many c.args.footprint.now.first c.args.back.now.first.items c.make_all.new.updates.items c.requires.first
    (ap length c.in_ok-make_all.ensures.small
    ∙ length-small_record c.parts.result.0.now c.args.back.now.first.items (state_of c.args.store.now))

pub returns-in-Err-make_all-clause-same_state_on_error :
    goal.returns-in-Err-make_all-clause-same_state_on_error
returns-in-Err-make_all-clause-same_state_on_error c =
    let can = parts_can c.args.footprint.now c.parts.result.0.now c.parts.result.1.now
    c.parts.result.2.now c.args.back.now.first.items c.parts.ensures.first c.parts.ensures.cells
    c.parts.ensures.last c.requires.first c.args.runs.now c.args.back.now.last.items
    (state_of c.args.store.now) (pasts_of c.args.store.now) c.requires.along c.requires.fits c.requires.shaped in
    c.take_back_all-in-Err-make_all.ensures.state
    ∙ all_back c.parts.result.0.now c.args.back.now.first.items (state_of c.args.store.now)
    (pasts_of c.args.store.now) c.make_all.new.updates.items (state_of c.take_back_cells.new.store)
    (pasts_of c.take_back_cells.new.store) (record {
      state = c.take_back_cells.ensures.state
          ∙ back_to c.parts.result.1.now c.args.runs.now c.in-Ok.were.items c.replace.new.dest.items
          (state_of c.make_all.new.store) (state_of c.make_cells.new.store) (state_of c.make_all-2.new.store)
          (ap (λ v. v.items) c.replace.ensures.after) c.in-Ok.ensures.were c.in-Ok.ensures.state
          c.in-Err-make_all.ensures.same_state_on_error
          ∙ c.in_ok-make_all.ensures.state;
      small = c.in_ok-make_all.ensures.small;
      pasts_are = c.take_back_cells.ensures.pasts ∙ c.in-Err-make_all.ensures.same_pasts_on_error
          ∙ c.make_cells.ensures.pasts ∙ c.in_ok-make_all.ensures.pasts;
    }) can.first_shaped

pub returns-in-Err-make_all-clause-same_pasts_on_error :
    goal.returns-in-Err-make_all-clause-same_pasts_on_error
returns-in-Err-make_all-clause-same_pasts_on_error c =
    let can = parts_can c.args.footprint.now c.parts.result.0.now c.parts.result.1.now
    c.parts.result.2.now c.args.back.now.first.items c.parts.ensures.first c.parts.ensures.cells
    c.parts.ensures.last c.requires.first c.args.runs.now c.args.back.now.last.items
    (state_of c.args.store.now) (pasts_of c.args.store.now) c.requires.along c.requires.fits c.requires.shaped in
    c.take_back_all-in-Err-make_all.ensures.pasts
    ∙ all_popped c.parts.result.0.now c.args.back.now.first.items (state_of c.args.store.now)
    (pasts_of c.args.store.now) c.make_all.new.updates.items (state_of c.take_back_cells.new.store)
    (pasts_of c.take_back_cells.new.store) (record {
      state = c.take_back_cells.ensures.state
          ∙ back_to c.parts.result.1.now c.args.runs.now c.in-Ok.were.items c.replace.new.dest.items
          (state_of c.make_all.new.store) (state_of c.make_cells.new.store) (state_of c.make_all-2.new.store)
          (ap (λ v. v.items) c.replace.ensures.after) c.in-Ok.ensures.were c.in-Ok.ensures.state
          c.in-Err-make_all.ensures.same_state_on_error
          ∙ c.in_ok-make_all.ensures.state;
      small = c.in_ok-make_all.ensures.small;
      pasts_are = c.take_back_cells.ensures.pasts ∙ c.in-Err-make_all.ensures.same_pasts_on_error
          ∙ c.make_cells.ensures.pasts ∙ c.in_ok-make_all.ensures.pasts;
    }) can.first_shaped
