use Rattle.std.proofs.Common.{rules, ◌≡◌, ◌∙◌, ◌≤◌, ◌+◌, ◌-◌, ℕ, List, [], subst, sym, arith}
use Rattle.om_book.specs.declared.order.Answer.{Answer}
use Rattle.om_book.specs.Backing.{Turn, turns_at, turns, in_turns, IsUnderway, Keeps}
use Rattle.om_book.proofs.Backed.{keeps_all, turns_rest, underway_all, underway_more}
use Rattle.om_book.proofs.backing.keep_backed.Goals as goal

pub loop-round-preserved : goal.loop-round-preserved
loop-round-preserved g c =
    let ss = c.args.rows.now.seats.now in
    let vs = c.args.rows.now.orders.now in
    let n = c.most_rounds-most.result in
    let k = c.loop-round.round in
    let xs = c.args.answers.items in
    let ys = c.loop-round.walk.answers.items in
    let at = c.loop-round.walk.at in
    let zs = c.take_round.new.self.answers.items in
    let to = c.take_round.new.self.at in
    let due = in_turns (λ o. o.items) ss vs in
    let here = turns_at (λ o. o.items) k ss vs in
    let rest = turns (λ o. o.items) (k + 1) (n - (k + 1)) ss vs in
    let U : List Turn → Type 0 = λ ts. IsUnderway due ts xs 0 ys at in
    let next = turns_rest (λ o. o.items) k n ss vs c.loop-round-test.true in record {
      underway = underway_more due here rest xs ys zs 0 at to (subst U next c.loop-round.invariant.underway)
          c.take_round.ensures.passes;
      within = c.take_round.ensures.within;
      same = λ no. let now = c.take_round.ensures.same no in now.1 ∙ c.loop-round.invariant.same now.0;
      marks = c.take_round.ensures.marks ∙ c.loop-round.invariant.marks;
    }

pub returns-clause-kept : goal.returns-clause-kept
returns-clause-kept g c =
    let ss = c.args.rows.now.seats.now in
    let vs = c.args.rows.now.orders.now in
    let n = c.most_rounds-most.result in
    let k = c.loop-round.round in
    let xs = c.args.answers.items in
    let ys = c.loop-round.walk.answers.items in
    let at = c.loop-round.walk.at in
    let due = in_turns (λ o. o.items) ss vs in
    let past : n ≤ k = search rules in
    let none : n - k ≡ 0 = omega (arith, past) in
    let U : ℕ → Type 0 = λ m. IsUnderway due (turns (λ o. o.items) k m ss vs) xs 0 ys at in
    let last : IsUnderway due [] xs 0 ys at = subst U none c.loop-round.invariant.underway in
    let K : List Answer → Type 0 = λ l. Keeps due xs l in
    subst K (sym c.end.ensures.kept) (keeps_all due xs ys at (underway_all due xs ys 0 at last))
