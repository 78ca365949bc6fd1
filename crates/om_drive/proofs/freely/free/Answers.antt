use Rattle.std.proofs.Common.{◌∙◌, ◌+◌, ◌++◌, map, sum_by, ap, sym, subst}
use denote.Param.Send.{sendable}
use denote.Ref.{NamedLft}
use Rattle.om_drive.specs.Calls.{place_of}
use Rattle.om_drive.specs.OwnCalls.{others_from, receipts_of}
use Rattle.om_drive.specs.Steps.{steps_of}
use Rattle.om_drive.specs.Turns.{EachRunsInTurn}
use Rattle.om_drive.proofs.OwnCalls.{seated_calls}
use Rattle.om_drive.proofs.Places.{numbers_same}
use Rattle.om_drive.proofs.Sent.{sitter_send}
use Rattle.om_drive.proofs.Stepping.{seated_steps}
use Rattle.om_drive.proofs.Turns.{each_same}
use Rattle.om_drive.proofs.freely.free.Goals as goal

-- a seat beside its session may go to another thread
pub free_over-sitters-requires-send-D : goal.free_over-sitters-requires-send-D
free_over-sitters-requires-send-D g c κs within =
    let sent = λ (s : NamedLft).
    sitter_send s _ g.L.Sitting g.L.Ledger c.type_bounds.send-L c.type_bounds.sync-L in
    search (sent, sendable) depth 40

pub returns-clause-back : goal.returns-clause-back
returns-clause-back g c =
    let w = g.L.Sitting.workers in
    let sat = c.free_over-sitters.result.0.items in
    let here = c.args.seats.items in
    let up = c.stand_up.ensures.seats ∙ ap (λ xs. map (place_of w) xs ++ map (λ s. place_of w s.seat) sat)
    c.sit_down.ensures.empty in
    let down = c.sit_down.ensures.sitters ∙ ap (λ xs. map (λ s. place_of w s.seat) xs ++ map (place_of w) here)
    c.in-Ok.ensures.items in
    numbers_same w c.stand_up.new.seats.items here (up ∙ c.free_over-sitters.ensures.back ∙ down)

pub returns-clause-done : goal.returns-clause-done
returns-clause-done g c =
    let sat = c.free_over-sitters.result.0.items in
    let sitting = c.sit_down.new.sitters.items in
    let here = c.args.seats.items in
    let up = c.stand_up.ensures.unseated ∙ ap (λ xs. xs ++ map (λ s. s.seat) sat) c.sit_down.ensures.empty in
    let down = c.sit_down.ensures.seated ∙ ap (λ xs. map (λ s. s.seat) xs ++ here) c.in-Ok.ensures.items in
    let before = seated_steps (λ s. s.seat) sitting ∙ ap (sum_by steps_of) down in
    let after = ap (sum_by steps_of) up ∙ sym (seated_steps (λ s. s.seat) sat) in
    after ∙ c.free_over-sitters.ensures.done ∙ ap (λ n. n + c.free_over-sitters.result.1.done) before

pub returns-clause-own : goal.returns-clause-own
returns-clause-own g c =
    let sat = c.free_over-sitters.result.0.items in
    let sitting = c.sit_down.new.sitters.items in
    let here = c.args.seats.items in
    let up = c.stand_up.ensures.unseated ∙ ap (λ xs. xs ++ map (λ s. s.seat) sat) c.sit_down.ensures.empty in
    let down = c.sit_down.ensures.seated ∙ ap (λ xs. map (λ s. s.seat) xs ++ here) c.in-Ok.ensures.items in
    let before = seated_calls (λ s. s.seat) sitting ∙ ap (map receipts_of) down in
    let after = ap (map receipts_of) up ∙ sym (seated_calls (λ s. s.seat) sat) in
    ap (others_from 0) after ∙ c.free_over-sitters.ensures.own ∙ ap (others_from 0) before

pub returns-clause-in_turn : goal.returns-clause-in_turn
returns-clause-in_turn g c =
    let sat = c.free_over-sitters.result.0.items in
    let sitting = c.sit_down.new.sitters.items in
    let here = c.args.seats.items in
    let up = c.stand_up.ensures.unseated ∙ ap (λ xs. xs ++ map (λ s. s.seat) sat) c.sit_down.ensures.empty in
    let down = c.sit_down.ensures.seated ∙ ap (λ xs. map (λ s. s.seat) xs ++ here) c.in-Ok.ensures.items in
    let before = seated_calls (λ s. s.seat) sitting ∙ ap (map receipts_of) down in
    let after = ap (map receipts_of) up ∙ sym (seated_calls (λ s. s.seat) sat) in
    subst (λ olds. EachRunsInTurn 0 olds (map receipts_of c.stand_up.new.seats.items)) before
    (subst (λ news. EachRunsInTurn 0 (map (λ s. s.seat.receipts) sitting) news) (sym after)
    c.free_over-sitters.ensures.in_turn)

pub returns-in_default-clause-in_turn : goal.returns-in_default-clause-in_turn
returns-in_default-clause-in_turn g c = each_same 0 _
