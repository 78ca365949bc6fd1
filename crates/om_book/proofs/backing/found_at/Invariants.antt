use Rattle.std.proofs.Common.{◌≢◌, All, take}
use Rattle.om_book.proofs.backing.found_at.Given as goal

abbrev pub invariant-loop-i : goal.invariant-loop-i
invariant-loop-i l =
    All (λ y. y ≢ record { place = l.place; command = l.command; reply = l.reply }) (take l.i l.receipts)
