use Rattle.std.proofs.Common.{◌≡◌, ◌+◌}
use Rattle.om_book.specs.Seats.{seats_below}
use Rattle.om_book.proofs.session.seat_all.Given as goal

abbrev pub invariant-loop-number : goal.invariant-loop-number
invariant-loop-number g l = record {
  parts : l.rest.parts + l.number ≡ l.count;
  amount : l.rest.amount ≡ 0;
  seats : l.seats.items ≡ seats_below l.number;
}
