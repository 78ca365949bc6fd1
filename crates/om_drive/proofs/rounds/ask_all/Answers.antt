use Rattle.std.proofs.Common.{rules, refl, ◌≡◌, ℕ, ◌+◌, ◌-◌, ◌++◌, List, map, subst}
use Rattle.om_book.specs.Rounds.{answer_number, in_rounds, rounds, round_at, IsBeginning, Begins}
use Rattle.om_book.specs.KeptAnswers.{rounds_next}
use Rattle.om_drive.proofs.Rounding.{part_more, part_begins, begins_same, on_err}
use Rattle.om_drive.proofs.rounds.ask_all.Goals as goal

pub returns-in_err-send_round-clause-err : goal.returns-in_err-send_round-clause-err
returns-in_err-send_round-clause-err g c = on_err c.from_residual.result _
    (begins_same _ _ _ _ _ c.loop-round.invariant refl)

pub returns-in_err-take_round-clause-err : goal.returns-in_err-take_round-clause-err
returns-in_err-take_round-clause-err g c =
    let old = map answer_number c.args.answers.now.items in
    let new = map answer_number c.loop-round.answers.items in
    let due = in_rounds (λ o. o.items) c.args.orders.now in
    let P : List ℕ → Type 0 = λ left. IsBeginning old new due left in
    let here = round_at (λ o. o.items) c.loop-round.round c.args.orders.now in
    let rest = rounds (λ o. o.items) (c.loop-round.round + 1) (c.most_rounds-most.result - (c.loop-round.round + 1))
    c.args.orders.now in
    let part = subst P (rounds_next (λ o. o.items) c.loop-round.round c.most_rounds-most.result c.args.orders.now
    c.loop-round-test.true) c.loop-round.invariant in
    let begins : Begins new (map answer_number c.take_round.new.answers.items) here = search rules in
    on_err c.from_residual-in_err-take_round.result _
    (part_begins old new (map answer_number c.take_round.new.answers.items) due here rest part begins)

pub loop-round-preserved : goal.loop-round-preserved
loop-round-preserved g c =
    let old = map answer_number c.args.answers.now.items in
    let new = map answer_number c.loop-round.answers.items in
    let due = in_rounds (λ o. o.items) c.args.orders.now in
    let P : List ℕ → Type 0 = λ left. IsBeginning old new due left in
    let here = round_at (λ o. o.items) c.loop-round.round c.args.orders.now in
    let rest = rounds (λ o. o.items) (c.loop-round.round + 1) (c.most_rounds-most.result - (c.loop-round.round + 1))
    c.args.orders.now in
    let part = subst P (rounds_next (λ o. o.items) c.loop-round.round c.most_rounds-most.result c.args.orders.now
    c.loop-round-test.true) c.loop-round.invariant in
    let more : map answer_number c.take_round.new.answers.items ≡ new ++ here = search rules in
    part_more old new (map answer_number c.take_round.new.answers.items) due here rest part more
