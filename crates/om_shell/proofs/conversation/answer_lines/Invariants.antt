use Rattle.std.proofs.Common.{◌≤◌, ◌-◌, length, take, drop, false}
use Rattle.om_shell.specs.Lines.{HasNoLineEnd}
use Rattle.om_shell.specs.Sessions.{AnswersBatch}
use Rattle.om_shell.proofs.conversation.answer_lines.Given as goal

abbrev pub invariant-batches : goal.invariant-batches
invariant-batches g l = record {
  answered : AnswersBatch (g.W.Write.contents l.initial.writer) (g.W.Write.contents l.writer) l.bytes l.at
      l.initial.session.debugger false l.session.debugger;
  at_most : l.at ≤ length l.bytes;
  within : l.searched ≤ length (drop l.at l.bytes);
  known : HasNoLineEnd (take l.searched (drop l.at l.bytes));
}

abbrev pub decreases-batches : goal.decreases-batches
decreases-batches g l = length l.bytes - l.at
