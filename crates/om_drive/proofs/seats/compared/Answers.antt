use Rattle.std.proofs.Common.{List, subst}
use Rattle.om_book.specs.Seats.{SeatView}
use Rattle.om_book.specs.Backing.{in_turns, Keeps}
use Rattle.om_book.specs.KeptAnswers.{kept_backed}
use Rattle.om_drive.proofs.seats.compared.Goals as goal

pub returns-clause-backed : goal.returns-clause-backed
returns-clause-backed g c =
    let came = c.args.came.answers.items in
    let kept = c.keep_backed-answers.result.answers.items in
    let K : List SeatView → Type 0 = λ ss. Keeps (in_turns (λ o. o.items) ss c.args.orders.now) came kept in
    kept_backed (in_turns (λ o. o.items) c.args.seats.items c.args.orders.now) came kept
    (subst K c.as_slice.ensures.value c.keep_backed-answers.ensures.kept)
