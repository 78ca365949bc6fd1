-- What the lists found is what the replay gives, under whatever rules.
use Rattle.std.proofs.Common.{◌≡◌, ◌∙◌, sym, ap, true, List}
use Rattle.std.specs.Prelude.{remove}
use Rattle.om_memory.specs.Memories.{pasts_of}
use Rattle.om_undo_history.specs.declared.records.UndoRecord.{UndoRecord}
use Rattle.om_undo_history.specs.Fills.{full_all}
use Rattle.om_undo_history.specs.Records.{kept_reply, is_undone, LastHasSerial}
use Rattle.om_undo_history.specs.Pasts.{past_of, past_in}
use Rattle.om_undo_history.proofs.Removed.{full_kept_reply}
use Rattle.om_undo_history.proofs.Soundness.{not_undone, undo_replies, undo_done, undo_refused}
use Rattle.om_undo_history.proofs.Holding.{can_leave, has_last, done_in, taken_from, kept_without}
use Rattle.om_undo_history.proofs.history.History.undo_by_reply.Goals as goal
use Rattle.om_undo_history.proofs.history.History.undo_by_reply.Goals.{in-Undone, in_default}

pub reply_to-reply-requires : goal.reply_to-reply-requires
reply_to-reply-requires c =
    let x : LastHasSerial c.args.worker c.args.self.now.records c.args.serial = c.requires.last in
    (x.i, x.made, x.is_last.at, x.serial_is)

pub take_out-requires-clause-can : goal.take_out-requires-clause-can
take_out-requires-clause-can c = λ i k at is.
    let told : is_undone c.reply_to-reply.result ≡ c.match-matches.matches = elim c.match-matches.branch [
      | in-Undone w ↦ ap is_undone w.in-Undone.is ∙ sym w.matches-is
      | in_default w ↦ not_undone c.reply_to-reply.result w.in_default.not-Undone ∙ sym w.matches-is
    ] in
    can_leave c.requires.held.0 c.args.self.now.store c.args.self.now.records c.args.self.now.made i k c.requires.held.1 at
    (sym (ap is_undone (c.reply_to-reply.ensures i k at is)) ∙ told ∙ c.if-matches.true)

pub take_out-requires-clause-there : goal.take_out-requires-clause-there
take_out-requires-clause-there c =
    let x : LastHasSerial c.args.worker c.args.self.now.records c.args.serial = c.requires.last in
    (x.i, x.made, x.is_last.at, x.serial_is)

pub returns-then-matches-clause-reply : goal.returns-then-matches-clause-reply
returns-then-matches-clause-reply c = λ r held.
    let ks : List UndoRecord = c.args.self.now.records in
    let x : LastHasSerial c.args.worker ks c.args.serial = c.requires.last in
    undo_replies r (past_in c.args.self.now) x.i c.args.worker c.reply_to-reply.result held.past
    (has_last c.args.worker (pasts_of c.args.self.now.store) ks x.i x.made x.is_last)
    (c.reply_to-reply.ensures x.i x.made x.is_last.at x.serial_is
    ∙ sym (full_kept_reply (pasts_of c.args.self.now.store) ks x.i))

pub returns-then-matches-clause-after : goal.returns-then-matches-clause-after
returns-then-matches-clause-after c = λ r held.
    let told : is_undone c.reply_to-reply.result ≡ c.match-matches.matches = elim c.match-matches.branch [
      | in-Undone w ↦ ap is_undone w.in-Undone.is ∙ sym w.matches-is
      | in_default w ↦ not_undone c.reply_to-reply.result w.in_default.not-Undone ∙ sym w.matches-is
    ] in
    let ks : List UndoRecord = c.args.self.now.records in
    let rest : List UndoRecord = c.take_out.new.records in
    let x : LastHasSerial c.args.worker ks c.args.serial = c.requires.last in
    let done : is_undone (kept_reply ks x.i) ≡ true =
    sym (ap is_undone (c.reply_to-reply.ensures x.i x.made x.is_last.at x.serial_is)) ∙ told ∙ c.if-matches.true in
    let state = c.take_out.ensures.state x.i x.made x.is_last.at x.serial_is in
    let pasts = c.take_out.ensures.pasts x.i x.made x.is_last.at x.serial_is in
    let left : rest ≡ remove ks x.i = c.take_out.ensures.records x.i x.made x.is_last.at x.serial_is in (
      undo_done r (past_in c.args.self.now)
          (past_of c.take_out.new.store (full_all (pasts_of c.take_out.new.store) rest) c.args.self.now.made) x.i
          c.args.worker held.past
          (has_last c.args.worker (pasts_of c.args.self.now.store) ks x.i x.made x.is_last)
          (done_in r c.args.self.now.store c.take_out.new.store ks rest c.args.self.now.made x.i c.args.worker x.made
          x.is_last done state pasts left)
          (taken_from r c.args.self.now.store c.take_out.new.store ks rest c.args.self.now.made x.i c.args.worker
          x.made x.is_last done state pasts left),
      kept_without r c.args.self.now.store c.take_out.new.store ks rest c.args.self.now.made x.i c.args.worker x.made
          x.is_last done state pasts left held c.take_out.ensures.kept,
    )

pub returns-else-matches-clause-reply : goal.returns-else-matches-clause-reply
returns-else-matches-clause-reply c = λ r held.
    let ks : List UndoRecord = c.args.self.now.records in
    let x : LastHasSerial c.args.worker ks c.args.serial = c.requires.last in
    undo_replies r (past_in c.args.self.now) x.i c.args.worker c.reply_to-reply.result held.past
    (has_last c.args.worker (pasts_of c.args.self.now.store) ks x.i x.made x.is_last)
    (c.reply_to-reply.ensures x.i x.made x.is_last.at x.serial_is
    ∙ sym (full_kept_reply (pasts_of c.args.self.now.store) ks x.i))

pub returns-else-matches-clause-after : goal.returns-else-matches-clause-after
returns-else-matches-clause-after c = λ r held.
    let told : is_undone c.reply_to-reply.result ≡ c.match-matches.matches = elim c.match-matches.branch [
      | in-Undone w ↦ ap is_undone w.in-Undone.is ∙ sym w.matches-is
      | in_default w ↦ not_undone c.reply_to-reply.result w.in_default.not-Undone ∙ sym w.matches-is
    ] in
    let ks : List UndoRecord = c.args.self.now.records in
    let x : LastHasSerial c.args.worker ks c.args.serial = c.requires.last in (
      undo_refused r (past_in c.args.self.now) x.i c.args.worker held.past
          (has_last c.args.worker (pasts_of c.args.self.now.store) ks x.i x.made x.is_last)
          (ap is_undone (full_kept_reply (pasts_of c.args.self.now.store) ks x.i)
          ∙ sym (ap is_undone (c.reply_to-reply.ensures x.i x.made x.is_last.at x.serial_is))
          ∙ told ∙ c.if-matches.false),
      held,
    )
