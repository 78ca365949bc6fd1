use Rattle.std.proofs.Common.{rules, ◌≡◌, map, List, ℕ}
use Rattle.om_book.specs.Rounds.{answer_number, in_rounds}
use Rattle.om_drive.proofs.Rounding.{begins_same_yet}
use Rattle.om_drive.proofs.driving.Ring.ask.Goals.{then-is_none, else-is_none}
use Rattle.om_drive.proofs.driving.Ring.ask.Goals as goal

pub returns-clause-part : goal.returns-clause-part
returns-clause-part g c =
    let old : List ℕ = map answer_number c.args.self.now.answers.items in
    let new : List ℕ = map answer_number c.if-is_none.self.answers.items in
    let due : List ℕ = in_rounds (λ o. o.items) c.args.orders.now in
    elim c.if-is_none.branch [
      | then-is_none w ↦ search rules
      | else-is_none w ↦ let same : new ≡ old = search rules in begins_same_yet old new due same
    ]
