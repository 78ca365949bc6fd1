use Rattle.std.proofs.Common.{◌≡◌, ◌+◌, ◌-◌, length, sum_by, arith, sym}
use Rattle.std.proofs.lemmas.Grind.{common_steps}
use Rattle.om_book.specs.Books.{records_of}
use Rattle.om_book.specs.Standing.{CountsAll, receipts_in}
use Rattle.om_book.proofs.Pigeons.{covers}
use Rattle.om_book.proofs.session.Session.close.Goals as goal

pub returns-clause-covers : goal.returns-clause-covers
returns-clause-covers g c = λ same.
    let opened = records_of g.L.Sitting.opened in
    let journal = c.into_inner-book.result.book.journal in
    let calls = length c.journal-2.result.now - c.self.inside.opened in
    let long : length journal ≡ opened + calls = grind (arith, common_steps) in
    let counted : calls ≡ sum_by receipts_in c.args.seats.items = grind (arith, common_steps) in
    let listed : c.as_slice.result.now ≡ c.args.seats.items = grind (arith, common_steps) in
    let told : c.journal.result.now ≡ journal = c.journal.ensures.records in
    let since : c.self.inside.opened ≡ opened = c.self.invariant.2 in
    let stand : CountsAll journal opened c.args.seats.items c.standing_in_all-standing.result =
    rw (sym told, sym since, sym listed) c.standing_in_all-standing.ensures.counts in
    covers journal opened calls c.standing_in_all-standing.result c.args.seats.items c.requires long counted stand same
