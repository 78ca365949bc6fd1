use Rattle.std.proofs.Common.{◌∙◌, sym, ap, subst}
use Rattle.std.specs.Map.{values_of}
use Rattle.om_undo_history.specs.declared.records.UndoRecord.{UndoRecord}
use Rattle.om_undo_touches.specs.Touches.{AreOnly, AreWithout, WithoutOwn}
use Rattle.om_undo_history.specs.Touches.{IsIndexed}
use Rattle.om_undo_touches.specs.Lists.{added_out, only_added}
use Rattle.om_undo_history.proofs.OwnEntries.{own-added_out}
use Rattle.om_undo_history.proofs.Replies.{footprint_of}
use Rattle.om_undo_history.proofs.BySerial.{values-push}
use Rattle.om_undo_history.proofs.Indexed.{fresh, indexed_same, indexed_with}
use Rattle.om_undo_history.proofs.Rows.{above_all}
use Rattle.om_undo_history.proofs.records.enter.Goals as goal

pub note-requires : goal.note-requires
note-requires c = fresh footprint_of (values_of c.args.kept.now) c.args.lists.now
    c.args.made.entry.serial c.requires.indexed.touches c.requires.latest

pub push-requires-clause-latest : goal.push-requires-clause-latest
push-requires-clause-latest c = above_all 0 c.args.made.entry.serial c.args.kept.now c.requires.indexed.by_serial c.requires.latest

pub returns-in-Err-clause-indexed : goal.returns-in-Err-clause-indexed
returns-in-Err-clause-indexed c = indexed_same c.args.kept.now c.args.lists.now c.note.new.lists
    c.args.own.now c.note.new.own c.requires.indexed c.in-Err.ensures.same_lists_on_error
    c.in-Err.ensures.same_own_on_error

pub returns-clause-indexed : goal.returns-clause-indexed
returns-clause-indexed c = subst (λ es. IsIndexed es c.note.new.lists c.note.new.own)
    (sym c.in_default.ensures.pushed)
    (indexed_with c.args.kept.now c.args.made c.args.lists.now c.note.new.lists c.args.own.now
    c.note.new.own c.requires.indexed c.requires.some c.requires.latest c.in-Ok.ensures.lists c.in-Ok.ensures.own)

pub returns-clause-entered : goal.returns-clause-entered
returns-clause-entered c = ap values_of c.in_default.ensures.pushed
    ∙ values-push c.args.kept.now c.args.made.entry.serial c.args.made

pub forget-requires : goal.forget-requires
forget-requires c =
    let made : UndoRecord = c.args.made in
    subst (λ (k : UndoRecord). AreOnly k.footprint k.entry.serial c.note.new.lists)
    (sym c.in-Err-push.ensures.returned)
    (only_added made.footprint made.entry.serial c.args.lists.now c.note.new.lists
    (fresh footprint_of (values_of c.args.kept.now) c.args.lists.now made.entry.serial c.requires.indexed.touches
    c.requires.latest) c.in-Ok.ensures.lists)

pub returns-in-Err-push-clause-indexed : goal.returns-in-Err-push-clause-indexed
returns-in-Err-push-clause-indexed c =
    let es = c.args.kept.now in
    let made : UndoRecord = c.args.made in
    let same = c.in-Err-push.ensures.returned in
    subst (λ fs. IsIndexed fs c.forget.new.lists c.forget.new.own) (sym c.in-Err-push.ensures.unchanged_on_error)
    (indexed_same es c.args.lists.now c.forget.new.lists c.args.own.now c.forget.new.own c.requires.indexed
    (added_out made.footprint made.entry.serial c.args.lists.now c.note.new.lists c.forget.new.lists
    (fresh footprint_of (values_of es) c.args.lists.now made.entry.serial c.requires.indexed.touches
    c.requires.latest) c.in-Ok.ensures.lists
    (subst (λ (k : UndoRecord). AreWithout k.footprint k.entry.serial c.note.new.lists c.forget.new.lists) same
    c.forget.ensures.lists))
    (own-added_out (values_of es) made.entry.worker made.entry.serial c.args.own.now c.note.new.own
    c.forget.new.own c.requires.indexed.own_entries c.requires.latest c.in-Ok.ensures.own
    (subst (λ (k : UndoRecord). WithoutOwn k.entry.worker k.entry.serial c.note.new.own c.forget.new.own) same
    c.forget.ensures.own)))
