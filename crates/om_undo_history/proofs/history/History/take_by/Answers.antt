-- What was planned is the step at the replay of the entries.
use Rattle.std.proofs.Common.{◌∙◌, ◌++◌, ◌∷◌, [], sym, ap, refl, subst}
use Rattle.om_state.specs.declared.step.Entry.{Entry}
use Rattle.om_state.specs.declared.step.Label.{Label}
use Rattle.om_state.specs.State.{updated}
use Rattle.om_memory.specs.Memories.{state_of, pasts_of}
use Rattle.om_undo_history.specs.Choices.{label_by}
use Rattle.om_undo_history.specs.Commands.{Rise}
use Rattle.om_undo_history.specs.Fills.{full_all, noted_all}
use Rattle.om_undo_history.specs.Records.{AreBelow}
use Rattle.om_undo_history.specs.Takes.{updates_by, small_for, CanMake}
use Rattle.om_undo_history.specs.Pasts.{past_in, history_in, entries_in, step_for}
use Rattle.om_undo_history.proofs.Soundness.{pushed_entries}
use Rattle.om_undo_history.proofs.Removed.{full_entries}
use Rattle.om_undo_history.proofs.Holding.{can_make, past_with, kept_with, kept-same}
use Rattle.om_undo_history.proofs.RunLaws.{IsRun-rises}
use Rattle.om_undo_history.proofs.Rising.{rise_below}
use Rattle.om_undo_history.proofs.history.History.take_by.Goals as goal

pub append-requires-clause-can : goal.append-requires-clause-can
append-requires-clause-can c =
    subst (λ w. CanMake w c.args.change.footprint c.args.change.edits c.args.change.updates
    (state_of c.args.self.now.store)) (sym (ap (λ (e : Entry). e.worker) c.of-entry.ensures))
    (can_make c.requires.planned.0 c.args.self.now.store c.args.self.now.records c.args.self.now.made
    (label_by c.args.worker c.args.start) c.args.change c.requires.planned.1.0 c.requires.room c.requires.planned.1.1)

pub append-requires-clause-latest : goal.append-requires-clause-latest
append-requires-clause-latest c =
    subst (λ n. AreBelow n c.args.self.now.records) (sym (ap (λ (e : Entry). e.serial) c.of-entry.ensures))
    (rise_below 0 c.args.self.now.made c.args.self.now.records
    (subst (λ es. Rise 0 es c.args.self.now.made)
    (full_entries (pasts_of c.args.self.now.store) c.args.self.now.records)
    (IsRun-rises c.requires.planned.0 (history_in c.args.self.now) c.requires.planned.1.0.past.reached)))

pub returns-in-Ok-clause-reply : goal.returns-in-Ok-clause-reply
returns-in-Ok-clause-reply c = c.reply-reply.ensures (label_by c.args.worker c.args.start) refl

pub returns-in-Ok-clause-after : goal.returns-in-Ok-clause-after
returns-in-Ok-clause-after c = λ r next.
    let l : Label = label_by c.args.worker c.args.start in
    let s = state_of c.args.self.now.store in
    let us = λ (e : Entry). updates_by e.worker c.args.change.edits c.args.change.updates s in
    let state = c.in-Ok.ensures.state ∙ (λ j. updated c.args.change.footprint (us (c.of-entry.ensures j)) s) in
    let pasts = c.in-Ok.ensures.pasts
    ∙ (λ j. noted_all c.args.change.footprint (us (c.of-entry.ensures j)) s (pasts_of c.args.self.now.store)) in
    let records = c.in-Ok.ensures.records
    ∙ (λ j. c.args.self.now.records ++ small_for (c.of-entry.ensures j) c.args.change s ∷ []) in
    let can = can_make r c.args.self.now.store c.args.self.now.records c.args.self.now.made l
    c.args.change next.0 c.requires.room next.1 in (
      sym (ap entries_in (past_with r c.args.self.now.store c.append.new.store c.args.self.now.records
          c.append.new.records c.args.self.now.made l c.args.change next.0 c.requires.few_made can next.1
          state pasts records))
          ∙ pushed_entries r (past_in c.args.self.now) l (step_for l c.args.change c.args.self.now)
          (updates_by c.args.worker c.args.change.edits c.args.change.updates (state_of c.args.self.now.store))
          next.0.past next.1 refl,
      kept_with r c.args.self.now.store c.append.new.store c.args.self.now.records
          c.append.new.records c.args.self.now.made l c.args.change next.0 c.requires.few_made can next.1
          state pasts records c.in-Ok.ensures.room
          c.append.ensures.others_kept,
    )

pub returns-in-Err-clause-unchanged_on_error : goal.returns-in-Err-clause-unchanged_on_error
returns-in-Err-clause-unchanged_on_error c = (
  (λ j. record {
    state = c.in-Err.ensures.same_state_on_error j;
    records = full_all (c.in-Err.ensures.same_pasts_on_error j) (c.in-Err.ensures.same_records_on_error j);
    made = c.args.self.now.made;
  }),
  λ r held. kept-same r c.args.self.now.store c.append.new.store c.args.self.now.records c.append.new.records
      c.args.self.now.made held c.in-Err.ensures.same_state_on_error c.in-Err.ensures.same_pasts_on_error
      c.in-Err.ensures.same_records_on_error c.append.ensures.others_kept,
)
