use Rattle.std.proofs.Common.{◌≡◌, ◌++◌, drop}
use Rattle.om_book.specs.Rounds.{round_at}
use Rattle.om_book.proofs.rounds.add_round.Given as goal

abbrev pub invariant-loop-i : goal.invariant-loop-i
invariant-loop-i l = l.numbers.items ++ round_at (λ o. o.items) l.round (drop l.i l.orders)
    ≡ l.initial.numbers.items ++ round_at (λ o. o.items) l.round l.orders
