use Rattle.std.proofs.Common.{map, ◌-◌}
use Rattle.om_book.specs.Rounds.{answer_number, rounds, in_rounds, IsBeginning}
use Rattle.om_drive.proofs.rounds.ask_all.Given as goal

abbrev pub invariant-loop-round : goal.invariant-loop-round
invariant-loop-round g l =
    IsBeginning (map answer_number l.initial.answers.items) (map answer_number l.answers.items)
    (in_rounds (λ o. o.items) l.orders) (rounds (λ o. o.items) l.round (l.most - l.round) l.orders)
