use Rattle.std.proofs.Common.{◌≡◌, take}
use Rattle.om_book_journal.proofs.same.same_items.Given as goal

abbrev pub invariant-loop-i : goal.invariant-loop-i
invariant-loop-i g l = take l.i l.ones ≡ take l.i l.others
