-- Matter of proofs: what a machine answers may cross threads.
use Rattle.std.proofs.Crossing.{crosses}
use denote.Param.Send.{IsSend, IsSync, sendable}
use Rattle.om_seq.specs.contracts.Seq as seq
use Rattle.om_undo_history.specs.contracts.reply.RollReply as roll
use Rattle.om_undo_history.specs.contracts.reply.StepReply as step
use Rattle.om_book_journal.specs.contracts.entry.KeptEntry as entry
use Rattle.om_book_journal.specs.contracts.kept.KeptUndoReply as undo
use Rattle.om_book_journal.specs.contracts.name.KeptName as kept_name
use Rattle.om_foot.specs.contracts.shared.Shared as shared
use Rattle.om_undo.specs.Lists.{seq_send, seq_sync}
use Rattle.om_undo.specs.Names.{name_send, name_sync, object_send}
use Rattle.om_undo.specs.Shared.{shared_send}

pub step_send : IsSend step.the_field.row
step_send = search sendable depth 40 fits 20000

pub undo_send : IsSend undo.the_row
undo_send = search (object_send, crosses, sendable) depth 40

pub roll_send : IsSend roll.the_field.row
roll_send = search (seq_send, sendable) depth 40

kept_name_send : IsSend kept_name.the_row
kept_name_send = search (name_send, crosses, sendable) depth 40

kept_name_sync : IsSync kept_name.the_row
kept_name_sync = search (name_sync, crosses, sendable) depth 40

pub first_send : IsSend (shared.the_row kept_name.the_row)
first_send = shared_send _ kept_name_send kept_name_sync

entry_send : IsSend entry.the_row
entry_send = search (kept_name_send, crosses, sendable) depth 40

entry_sync : IsSync entry.the_row
entry_sync = search (kept_name_sync, crosses, sendable) depth 40

pub names_send : IsSend (shared.the_row (seq.the_row kept_name.the_row))
names_send = shared_send _ (seq_send _ kept_name_send) (seq_sync _ kept_name_sync)

pub entries_send : IsSend (shared.the_row (seq.the_row entry.the_row))
entries_send = shared_send _ (seq_send _ entry_send) (seq_sync _ entry_sync)
