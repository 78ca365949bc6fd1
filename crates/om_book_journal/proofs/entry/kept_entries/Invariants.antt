use Rattle.std.proofs.Common.{◌≡◌, ◌++◌, drop}
use Rattle.om_book_journal.proofs.entry.kept_entries.Given as goal

-- those so far and those that are left are all
abbrev pub invariant-loop-entry : goal.invariant-loop-entry
invariant-loop-entry l = l.kept.items ++ drop l.entry-index l.entries ≡ l.entries
