use Rattle.std.proofs.Common.{◌∙◌, ◌++◌, ap, map, take, vec_len}
use Rattle.om_book.specs.Rounds.{answer_number}
use Rattle.om_drive.proofs.Rounding.{begins_same_yet, gathered_some}
use Rattle.om_drive.proofs.rounds.take_all.Goals as goal

pub returns-then-is_err-clause-err : goal.returns-then-is_err-clause-err
returns-then-is_err-clause-err g c =
    begins_same_yet (map answer_number c.args.answers.now.items) (map answer_number c.reserve.new.self.items)
    c.args.awaited.numbers.items (ap (λ xs. map answer_number xs) c.reserve.ensures.items)

pub returns-clause-err : goal.returns-clause-err
returns-clause-err g c =
    let taken = c.gather-taken.result.answers in
    let numbers = c.args.awaited.numbers.items in
    let added = c.add_all.ensures ∙ ap (λ xs. xs ++ taken.items) c.reserve.ensures.items in
    let is = c.gather-taken.ensures.answered ∙ ap (λ ns. take (vec_len taken) ns) c.as_slice-2.ensures.value in
    gathered_some c.args.answers.now.items c.add_all.new.answers.items taken.items numbers (vec_len taken) added is
