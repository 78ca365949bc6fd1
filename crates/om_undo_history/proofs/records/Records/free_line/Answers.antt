use Rattle.std.proofs.Common.{◌≡◌, ◌∙◌, sym, ap, subst, ℕ, Some, List}
use Rattle.std.specs.Prelude.{slice_get}
use Rattle.om_undo_history.specs.declared.records.UndoRecord.{UndoRecord}
use Rattle.om_undo_history.specs.declared.reply.UndoReply.TheVariants.{Undone}
use Rattle.om_undo_history.specs.Records.{kept_reply, HasSerial}
use Rattle.om_undo_history.proofs.Indexed.{reply_free, not_missing}
use Rattle.om_undo_history.proofs.records.Records.free_line.Goals as goal

pub first_conflict-requires-clause-by_serial : goal.first_conflict-requires-clause-by_serial
first_conflict-requires-clause-by_serial c = c.self.invariant.by_serial

pub first_conflict-requires-clause-lists : goal.first_conflict-requires-clause-lists
first_conflict-requires-clause-lists c = c.self.invariant.touches

pub returns : goal.returns
returns c =
    subst (λ (ks : List UndoRecord). (i : ℕ) (k : UndoRecord) → slice_get ks i ≡ Some k
    → k.entry.serial ≡ c.args.serial → kept_reply ks i ≡ Undone c.args.serial c.line.result) c.self.view_is
    (λ i k at is. sym (ap (λ n. Undone c.args.serial n) c.line.ensures
    ∙ reply_free c.self.inside.kept c.self.inside.lists i c.args.serial k c.in-Some.undone.now
    c.self.invariant.by_serial c.self.invariant.touches at is c.in-Some.ensures.found c.in-None.ensures))

pub unreachable-requires : goal.unreachable-requires
unreachable-requires c =
    let there = subst (HasSerial c.args.serial) (sym c.self.view_is) c.requires in
    not_missing c.self.inside.kept there.0 c.args.serial there.1 c.self.invariant.by_serial there.2 there.3
    c.in_default.ensures.none
