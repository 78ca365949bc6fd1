-- What the lists found is what the replay gives, under whatever rules.
use Rattle.std.proofs.Common.{◌≡◌, ◌∙◌, sym, ap, true, List}
use Rattle.std.specs.Prelude.{remove}
use Rattle.om_memory.specs.Memories.{pasts_of}
use Rattle.om_undo_history.specs.declared.records.UndoRecord.{UndoRecord}
use Rattle.om_undo_history.specs.declared.reply.UndoReply.TheVariants.{Undone}
use Rattle.om_undo_history.specs.Fills.{full_all}
use Rattle.om_undo_history.specs.Records.{kept_reply, is_undone, LastHasSerial}
use Rattle.om_undo_history.specs.Runs.{reply_at}
use Rattle.om_undo_history.specs.Pasts.{past_of, past_in}
use Rattle.om_undo_history.proofs.Places.{last_place-none}
use Rattle.om_undo_history.proofs.Removed.{full_kept_reply, others_full}
use Rattle.om_undo_history.proofs.Soundness.{undo_replies, undo_done, undo_of_none}
use Rattle.om_undo_history.proofs.Holding.{can_leave, has_last, done_in, taken_from, kept_without}
use Rattle.om_undo_history.proofs.history.History.undo.Goals as goal

pub free_line-requires : goal.free_line-requires
free_line-requires c =
    let x : LastHasSerial c.args.worker c.args.self.now.records c.in-Some.serial = c.in-Some.ensures.found in
    (x.i, x.made, x.is_last.at, x.serial_is)

pub take_out-requires-clause-can : goal.take_out-requires-clause-can
take_out-requires-clause-can c = λ i k at is.
    can_leave c.requires.0 c.args.self.now.store c.args.self.now.records c.args.self.now.made i k c.requires.1 at
    (ap is_undone (c.in-Some-free_line.ensures i k at is))

pub take_out-requires-clause-there : goal.take_out-requires-clause-there
take_out-requires-clause-there c =
    let x : LastHasSerial c.args.worker c.args.self.now.records c.in-Some.serial = c.in-Some.ensures.found in
    (x.i, x.made, x.is_last.at, x.serial_is)

pub returns-in-Some-free_line-clause-reply : goal.returns-in-Some-free_line-clause-reply
returns-in-Some-free_line-clause-reply c = λ r held.
    let ks : List UndoRecord = c.args.self.now.records in
    let x : LastHasSerial c.args.worker ks c.in-Some.serial = c.in-Some.ensures.found in
    undo_replies r (past_in c.args.self.now) x.i c.args.worker (Undone c.in-Some.serial c.in-Some-free_line.line) held.past
    (has_last c.args.worker (pasts_of c.args.self.now.store) ks x.i x.made x.is_last)
    (sym (c.in-Some-free_line.ensures x.i x.made x.is_last.at x.serial_is)
    ∙ sym (full_kept_reply (pasts_of c.args.self.now.store) ks x.i))

pub returns-in-Some-free_line-clause-after : goal.returns-in-Some-free_line-clause-after
returns-in-Some-free_line-clause-after c = λ r held.
    let ks : List UndoRecord = c.args.self.now.records in
    let rest : List UndoRecord = c.take_out.new.records in
    let x : LastHasSerial c.args.worker ks c.in-Some.serial = c.in-Some.ensures.found in
    let done : is_undone (kept_reply ks x.i) ≡ true =
    ap is_undone (c.in-Some-free_line.ensures x.i x.made x.is_last.at x.serial_is) in
    let state = c.take_out.ensures.state x.i x.made x.is_last.at x.serial_is in
    let pasts = c.take_out.ensures.pasts x.i x.made x.is_last.at x.serial_is in
    let left : rest ≡ remove ks x.i = c.take_out.ensures.records x.i x.made x.is_last.at x.serial_is in (
      undo_done r (past_in c.args.self.now)
          (past_of c.take_out.new.store (full_all (pasts_of c.take_out.new.store) rest) c.args.self.now.made) x.i
          c.args.worker held.past
          (has_last c.args.worker (pasts_of c.args.self.now.store) ks x.i x.made x.is_last)
          (done_in r c.args.self.now.store c.take_out.new.store ks rest c.args.self.now.made x.i c.args.worker x.made
          x.is_last done state pasts left)
          (taken_from r c.args.self.now.store c.take_out.new.store ks rest c.args.self.now.made x.i c.args.worker
          x.made x.is_last done state pasts left),
      kept_without r c.args.self.now.store c.take_out.new.store ks rest c.args.self.now.made x.i c.args.worker x.made
          x.is_last done state pasts left held c.take_out.ensures.kept,
    )

pub returns-in-None-clause-reply : goal.returns-in-None-clause-reply
returns-in-None-clause-reply c =
    λ r held. ap (reply_at r)
    (sym (last_place-none c.args.worker (past_in c.args.self.now).records
    (others_full c.args.worker (pasts_of c.args.self.now.store) c.args.self.now.records c.in-None.ensures.none)))

pub returns-in-None-clause-after : goal.returns-in-None-clause-after
returns-in-None-clause-after c =
    λ r held. (
      undo_of_none r (past_in c.args.self.now) c.args.worker
          (last_place-none c.args.worker (past_in c.args.self.now).records
          (others_full c.args.worker (pasts_of c.args.self.now.store) c.args.self.now.records
          c.in-None.ensures.none)),
      held,
    )
