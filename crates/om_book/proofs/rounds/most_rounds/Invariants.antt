use Rattle.std.proofs.Common.{◌≡◌, max, drop}
use Rattle.om_book.specs.Rounds.{longest}
use Rattle.om_book.proofs.rounds.most_rounds.Given as goal

abbrev pub invariant-loop-list : goal.invariant-loop-list
invariant-loop-list l = max l.most (longest (λ o. o.items) (drop l.list-index l.orders)) ≡ longest (λ o. o.items)
    l.orders
