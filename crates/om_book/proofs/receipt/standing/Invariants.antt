use Rattle.std.proofs.Common.{ℕ, ◌≤◌, ◌+◌, drop}
use Rattle.om_book.specs.Standing.{Counts}
use Rattle.om_book.proofs.receipt.standing.Given as goal

abbrev pub invariant-loop-receipt : goal.invariant-loop-receipt
invariant-loop-receipt l = record {
  counts : (m : ℕ) → Counts l.journal l.seat l.opened l.low (drop l.receipt-index l.receipts) m → Counts l.journal
      l.seat l.opened l.opened l.receipts (l.standing + m);
  most : l.standing ≤ l.receipt-index;
}
