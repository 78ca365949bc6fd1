use Rattle.std.proofs.Common.{rules, ◌≡◌, ◌∙◌, ◌<◌, ◌+◌, length, drop, slice_get, subst, List}
use Rattle.om_book.specs.Backing.{Turn, turn_of, turns_at, IsUnderway, Passes}
use Rattle.om_book.proofs.Backed.{turns_next, underway_more}
use Rattle.om_book.proofs.backing.Walk.take_round.Goals as goal

pub loop-i-preserved : goal.loop-i-preserved
loop-i-preserved g c =
    let ss = c.args.rows.now.seats.now in
    let vs = c.args.rows.now.orders.now in
    let k = c.args.round in
    let i = c.loop-i.i in
    let s = c.index-rows-i.result in
    let v = c.index-rows-i-in-loop-i.result in
    let xs = c.args.self.now.answers.items in
    let from = c.args.self.now.at in
    let ys = c.loop-i.self.answers.items in
    let at = c.loop-i.self.at in
    let zs = c.take_turn_if.new.self.answers.items in
    let to = c.take_turn_if.new.self.at in
    let due = turns_at (λ o. o.items) k ss vs in
    let here = turn_of s.receipts (slice_get v.items k) in
    let rest = turns_at (λ o. o.items) k (drop (i + 1) ss) (drop (i + 1) vs) in
    let within : i < length ss = search rules in
    let inside : i < length vs = search rules in
    let next = turns_next (λ o. o.items) k ss vs i s v within c.index-rows-i.is inside c.index-rows-i-in-loop-i.is in
    let U : List Turn → Type 0 = λ ts. IsUnderway due ts xs from ys at in
    let P : List Turn → Type 0 = λ ts. Passes ts ys at zs to in
    let receipts : c.receipts.result.now ≡ s.receipts = search rules in
    let order : c.order_at.result ≡ slice_get v.items k = search rules in
    let seen : Passes (turn_of s.receipts c.order_at.result) ys at zs to =
    subst (λ rs. P (turn_of rs c.order_at.result)) receipts c.take_turn_if.ensures.passes in
    let passes : Passes here ys at zs to = subst (λ o. P (turn_of s.receipts o)) order seen in record {
      underway = underway_more due here rest xs ys zs from at to (subst U next c.loop-i.invariant.underway) passes;
      within = c.take_turn_if.ensures.within;
      same = λ no.
          let now = c.take_turn_if.ensures.same no in
          let then = c.loop-i.invariant.same now.0 in
          (then.0, now.1 ∙ then.1);
      marks = search rules;
    }
