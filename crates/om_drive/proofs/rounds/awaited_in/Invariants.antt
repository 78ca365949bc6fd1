use Rattle.std.proofs.Common.{◌≡◌, ◌++◌, vec_len, drop}
use Rattle.om_book.specs.Rounds.{round_at}
use Rattle.om_drive.proofs.rounds.awaited_in.Given as goal

abbrev pub invariant-loop-i : goal.invariant-loop-i
invariant-loop-i l = record {
  paired : vec_len l.awaited.receivers ≡ vec_len l.awaited.numbers;
  numbers : l.awaited.numbers.items ++ round_at (λ o. o.items) l.round (drop l.i l.orders)
      ≡ round_at (λ o. o.items) l.round l.orders;
}
