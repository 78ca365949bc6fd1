use Rattle.std.proofs.Common.{rules, ◌≡◌, ◌∙◌, ◌+◌, ◌-◌, ◌++◌, ap, append_assoc, sym}
use Rattle.om_book.specs.Rounds.{round_at, rounds}
use Rattle.om_book.specs.KeptAnswers.{rounds_next}
use Rattle.om_book.proofs.rounds.numbers_in.Goals as goal

pub loop-round-preserved : goal.loop-round-preserved
loop-round-preserved c =
    let vs = c.args.orders.now in
    let n = c.most_rounds-most.result in
    let k = c.loop-round.round in
    let old = c.loop-round.numbers.items in
    let here = round_at (λ o. o.items) k vs in
    let rest = rounds (λ o. o.items) (k + 1) (n - (k + 1)) vs in
    let added : c.add_round.new.numbers.items ≡ old ++ here = search rules in
    ap (λ xs. xs ++ rest) added ∙ append_assoc old here rest
    ∙ ap (λ xs. old ++ xs) (sym (rounds_next (λ o. o.items) k n vs c.loop-round-test.true)) ∙ c.loop-round.invariant
