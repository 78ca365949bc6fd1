use Rattle.std.proofs.Common.{◌∙◌, ◌++◌, map, ap}
use denote.Param.Send.{sendable}
use denote.Ref.{NamedLft}
use Rattle.om_book.specs.Rounds.{answer_number}
use Rattle.om_book.specs.Standing.{number_of}
use Rattle.om_drive.specs.Calls.{place_of}
use Rattle.om_drive.proofs.Places.{numbers_same}
use Rattle.om_drive.proofs.Sent.{sitter_send}
use Rattle.std.proofs.Common.{rules}
use Rattle.om_book.specs.KeptAnswers.{none_kept, none_backed}
use Rattle.om_drive.proofs.seats.drive.Goals as goal

-- a seat beside its session may go to another thread
pub drive_over-sitters-requires-send-D : goal.drive_over-sitters-requires-send-D
drive_over-sitters-requires-send-D g c κs within =
    let sent = λ (s : NamedLft).
    sitter_send s _ g.L.Sitting g.L.Ledger c.type_bounds.send-L c.type_bounds.sync-L in
    search (sent, sendable) depth 40

pub returns-clause-back : goal.returns-clause-back
returns-clause-back g c =
    let w = g.L.Sitting.workers in
    let sat = c.drive_over-sitters.result.debuggees.items in
    let here = c.args.seats.items in
    let up = c.stand_up.ensures.seats ∙ ap (λ xs. map (place_of w) xs ++ map (λ s. place_of w s.seat) sat)
    c.sit_down.ensures.empty in
    let down = c.sit_down.ensures.sitters ∙ ap (λ xs. map (λ s. place_of w s.seat) xs ++ map (place_of w) here)
    c.in-Ok.ensures.items in
    ap (λ ss. map number_of ss) c.compared.ensures.seats ∙ numbers_same w c.stand_up.new.seats.items here (up ∙ c.drive_over-sitters.ensures.back ∙ down)

pub returns-clause-kept : goal.returns-clause-kept
returns-clause-kept g c =
    (c.drive_over-sitters.result.answers.items, c.drive_over-sitters.ensures.part, c.compared.ensures.kept)

pub returns-clause-all : goal.returns-clause-all
returns-clause-all g c = λ no_fault. ap (λ xs. map answer_number xs) (c.compared.ensures.all no_fault)
    ∙ c.drive_over-sitters.ensures.all (c.compared.ensures.none no_fault)

pub returns-clause-backed : goal.returns-clause-backed
returns-clause-backed g c = c.compared.ensures.backed

pub returns-in_default-clause-kept : goal.returns-in_default-clause-kept
returns-in_default-clause-kept g c = search (rules, none_kept, none_backed)

pub returns-in_default-zeros-clause-kept : goal.returns-in_default-zeros-clause-kept
returns-in_default-zeros-clause-kept g c = search (rules, none_kept, none_backed)
