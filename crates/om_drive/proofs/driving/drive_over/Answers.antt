use Rattle.std.proofs.Common.{rules, ◌≡◌, []}
use Rattle.om_book.specs.Rounds.{in_rounds}
use Rattle.om_drive.proofs.Rounding.{begins_none}
use Rattle.om_drive.proofs.driving.drive_over.Goals as goal

pub returns-in_default-clause-part : goal.returns-in_default-clause-part
returns-in_default-clause-part g c =
    let none : c.new.result.items ≡ [] = search rules in
    rw none (begins_none [] (in_rounds (λ o. o.items) c.args.orders.now))
