use Rattle.std.proofs.Common.{◌≡◌, ◌≤◌, ◌-◌, [], Some, length, take, drop, false, nat_le}
use Rattle.om_shell.specs.Lines.{HasNoLineEnd}
use Rattle.om_shell.specs.Sessions.{AnswersBatch}
use Rattle.om_shell.proofs.session.Session.gather.Given as goal

abbrev pub invariant-lines : goal.invariant-lines
invariant-lines g l = record {
  answered : AnswersBatch (Some []) (Some l.self.text.items) l.bytes l.at l.initial.self.debugger false
      l.self.debugger;
  at_most : l.at ≤ length l.bytes;
  within : l.searched ≤ length (drop l.at l.bytes);
  known : HasNoLineEnd (take l.searched (drop l.at l.bytes));
  few : nat_le 16384 (length l.self.text.items) ≡ false;
}

abbrev pub decreases-lines : goal.decreases-lines
decreases-lines g l = length l.bytes - l.at
