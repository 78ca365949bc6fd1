use Rattle.std.proofs.Common.{◌≡◌, ◌++◌, drop}
use Rattle.om_book_journal.proofs.name.kept_names.Given as goal

-- those so far and those that are left are all
abbrev pub invariant-loop-name : goal.invariant-loop-name
invariant-loop-name l = l.kept.items ++ drop l.name-index l.names ≡ l.names
