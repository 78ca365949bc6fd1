use Rattle.std.proofs.Common.{List, ℕ, OnErr, map, subst}
use Rattle.om_book.specs.Rounds.{answer_number, round_at, Begins}
use Rattle.om_drive.proofs.Rounding.{begins_none}
use Rattle.om_drive.proofs.rounds.take_round.Goals as goal

pub returns-in_default-clause-err : goal.returns-in_default-clause-err
returns-in_default-clause-err g c = begins_none (map answer_number c.args.answers.now.items)
    (round_at (λ o. o.items) c.args.round c.args.orders.now)

pub returns-clause-err : goal.returns-clause-err
returns-clause-err g c =
    let E : List ℕ → Type 0 = λ due. OnErr c.take_all.result (Begins (map answer_number c.args.answers.now.items)
    (map answer_number c.take_all.new.answers.items) due) in
    subst E c.in-Ok.ensures.numbers c.take_all.ensures.err
