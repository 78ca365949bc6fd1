use Rattle.std.proofs.Common.{ℕ, ◌+◌, arith, subst}
use Rattle.om_book.specs.Standing.{Counts}
use Rattle.om_book.proofs.Counting.{stands_next, falls_next, counts_end}
use Rattle.om_book.proofs.receipt.standing.Goals.{then-stands, else-stands}
use Rattle.om_book.proofs.receipt.standing.Goals as goal

pub loop-receipt-preserved : goal.loop-receipt-preserved
loop-receipt-preserved c = record {
  counts = λ m h.
      let journal = c.args.journal.now in
      let seat = c.args.seat in
      let x = c.receipt-item.result in
      let P : ℕ → Type 0 = λ n. Counts journal seat c.args.opened c.args.opened c.args.receipts.now n in
      let next = rw c.from-low.ensures at h in
      elim c.if-stands.branch [
        | then-stands w ↦
            subst P (omega (arith, w.standing-is))
            (c.loop-receipt.invariant.counts (m + 1) (stands_next journal seat c.args.opened c.loop-receipt.low m
            c.args.receipts.now c.loop-receipt.receipt-index x c.loop-receipt-test.true c.receipt-item.is
            (c.stands.ensures.0 w.if-stands.true) next))
        | else-stands w ↦
            subst P (omega (arith, w.standing-is))
            (c.loop-receipt.invariant.counts m (falls_next journal seat c.args.opened c.loop-receipt.low m
            c.args.receipts.now c.loop-receipt.receipt-index x c.loop-receipt-test.true c.receipt-item.is
            (λ s. let t = c.stands.ensures.1 s in let u = w.if-stands.false in cc) next))
      ];
  most = elim c.if-stands.branch [
    | then-stands w ↦ omega (arith, w.standing-is, c.loop-receipt.invariant.most)
    | else-stands w ↦ omega (arith, w.standing-is, c.loop-receipt.invariant.most)
  ];
}

pub returns-clause-counts : goal.returns-clause-counts
returns-clause-counts c =
    counts_end c.args.journal.now c.args.seat c.args.opened c.loop-receipt.low c.args.receipts.now
    c.loop-receipt.receipt-index c.loop-receipt.standing c.loop-receipt-test.false c.loop-receipt.invariant.counts
