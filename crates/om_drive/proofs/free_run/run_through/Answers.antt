use Rattle.std.proofs.Common.{◌≡◌, true, arith, length}
use Rattle.std.proofs.lemmas.Bool.Decides.{nat_tests}
use Rattle.std.proofs.lemmas.Result.{IfOk-weaker}
use Rattle.om_book.specs.Books.{IsGrown}
use Rattle.om_book.specs.Standing.{Covers}
use Rattle.om_drive.specs.FreeRuns.{gained}
use Rattle.om_drive.specs.OwnCalls.{AreOwnCalls}
use Rattle.om_drive.proofs.Freeing.{goes_on_grown}
use Rattle.om_drive.proofs.OwnCalls.{own_covered}
use Rattle.om_drive.specs.Turns.{GainsInTurn}
use Rattle.om_drive.proofs.Turns.{turns_covered}
use Rattle.std.proofs.Common.{rules}
use Rattle.om_drive.specs.DistinctSeats.{seats_differ, seats_count, as_many_back}
use Rattle.om_drive.proofs.Freeing.{goes_on_same}
use Rattle.om_drive.proofs.free_run.run_through.Goals as goal

pub returns-clause-goes_on : goal.returns-clause-goes_on
returns-clause-goes_on g c =
    let book = c.in-Ok-close.field-0.book in
    let grown : IsGrown c.args.book book c.in-Ok-close.field-0.calls = rw c.requires.opened c.in-Ok-close.ensures.total
    in
    rw c.counted.ensures.book (goes_on_grown c.args.book book _ grown c.counted.ensures.legal)

pub returns-clause-own : goal.returns-clause-own
returns-clause-own g c =
    let old = c.args.book in
    let closed = c.in-Ok-close in
    let book = closed.field-0.book in
    let seats = c.in-Ok.opened.1.items in
    let ss = c.free-seats.result.seats.items in
    let own : c.is_whole.result ≡ true → AreOwnCalls (gained old book) = λ whole.
    let all_stand = c.is_whole.ensures whole in
    let stand : closed.field-0.standing ≡ closed.field-0.calls = grind (arith, nat_tests) in
    let covers : Covers book.journal (length old.journal) ss = rw c.requires.opened (closed.ensures.covers stand) in
    own_covered g.L.Ledger.parts (length old.journal) book.journal seats ss c.in-Ok.ensures.seats
    c.free-seats.ensures.back c.free-seats.ensures.own covers
    in
    rw c.counted.ensures.book (IfOk-weaker c.counted.result.1 (λ count. c.is_whole.result ≡ true)
    (λ count. AreOwnCalls (gained old book)) (λ count whole. own whole) c.counted.ensures.whole)

pub returns-clause-in_turn : goal.returns-clause-in_turn
returns-clause-in_turn g c =
    let old = c.args.book in
    let closed = c.in-Ok-close in
    let book = closed.field-0.book in
    let seats = c.in-Ok.opened.1.items in
    let ss = c.free-seats.result.seats.items in
    let turns : c.is_whole.result ≡ true → GainsInTurn old book = λ whole.
    let all_stand = c.is_whole.ensures whole in
    let stand : closed.field-0.standing ≡ closed.field-0.calls = grind (arith, nat_tests) in
    let covers : Covers book.journal (length old.journal) ss = rw c.requires.opened (closed.ensures.covers stand) in
    turns_covered g.L.Ledger.parts (length old.journal) book.journal seats ss c.in-Ok.ensures.seats
    c.free-seats.ensures.back c.free-seats.ensures.in_turn covers
    in
    rw c.counted.ensures.book (IfOk-weaker c.counted.result.1 (λ count. c.is_whole.result ≡ true)
    (λ count. GainsInTurn old book) (λ count whole. turns whole) c.counted.ensures.whole)

pub close-requires : goal.close-requires
close-requires g c = search (rules, seats_differ, seats_count, as_many_back, goes_on_same)

pub unreachable-requires : goal.unreachable-requires
unreachable-requires g c = search (rules, seats_differ, seats_count, as_many_back, goes_on_same)
