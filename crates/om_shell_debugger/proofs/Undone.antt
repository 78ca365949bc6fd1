-- A reply to an undo, by the step that was taken out.
use Rattle.std.specs.Prelude.{◌≡◌, Some, is_some, refl}
use Rattle.std.proofs.Common.{ap}
use Rattle.om_undo_history.specs.declared.reply.UndoReply.{UndoReply}
use Rattle.om_undo_history.specs.declared.reply.UndoReply.TheVariants as undo_reply
use Rattle.om_book_journal.specs.Kept.{undone_in}
use Rattle.om_book_journal.specs.declared.kept.UndoneStep.{UndoneStep}
use Rattle.om_shell_debugger.specs.Moves.{is_undone}
use Rattle.om_shell_debugger.proofs.Bounded.{some_same}

pub some_undone : (x : UndoReply) → is_some (undone_in x) ≡ is_undone x
some_undone (undo_reply.Undone serial line) = refl
some_undone (undo_reply.Conflict serial worker object) = refl
some_undone undo_reply.Nothing = refl

pub undone_of : (x : UndoReply) (s : UndoneStep) → undone_in x ≡ Some s → x ≡ undo_reply.Undone s.serial s.line
undone_of (undo_reply.Undone serial line) s e =
    let step : UndoneStep = record { serial = serial; line = line } in
    ap (λ (k : UndoneStep). undo_reply.Undone k.serial k.line) (some_same step s e)
undone_of (undo_reply.Conflict serial worker object) s e = cc
undone_of undo_reply.Nothing s e = cc
