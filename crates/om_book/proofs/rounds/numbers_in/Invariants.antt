use Rattle.std.proofs.Common.{◌≡◌, ◌++◌, ◌-◌}
use Rattle.om_book.specs.Rounds.{in_rounds, rounds}
use Rattle.om_book.proofs.rounds.numbers_in.Given as goal

abbrev pub invariant-loop-round : goal.invariant-loop-round
invariant-loop-round l = l.numbers.items ++ rounds (λ o. o.items) l.round (l.most - l.round) l.orders
    ≡ in_rounds (λ o. o.items) l.orders
