use Rattle.std.proofs.Common.{◌≡◌, ◌≤◌, ◌+◌, drop}
use Rattle.om_book_journal.specs.Journals.{done_in}
use Rattle.om_book_journal.proofs.journal.done_in.Given as goal

abbrev pub invariant-loop-answered : goal.invariant-loop-answered
invariant-loop-answered l = record {
  made : l.made + done_in (drop l.answered-index l.journal) ≡ done_in l.journal;
  most : l.made ≤ l.answered-index;
}
