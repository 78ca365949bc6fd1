use Rattle.std.proofs.Common.{rules, refl, subst, sym, ◌<◌, length}
use Rattle.om_book.specs.Books.{BookView}
use Rattle.om_book_journal.specs.Runs.{reply_to}
use Rattle.om_book_journal.specs.Growing.{sound_next, sound_same}
use Rattle.om_book.proofs.book.Book.call.Goals.{in-Ok, in-Err}
use Rattle.om_book.proofs.book.Book.call.Goals as goal

pub append_call-requires-clause-sound : goal.append_call-requires-clause-sound
append_call-requires-clause-sound c = (c.self.inside.start.value, c.self.invariant)

pub invariant_of-self : goal.invariant_of-self
invariant_of-self c =
    let journal = c.self.inside.journal.items in
    elim c.match-append_call.branch [
      | in-Ok w ↦
          let room : length journal < 200000 = subst (λ (b : BookView). length b.journal < 200000)
          (sym c.self.view_is) c.in_ok-has_room.ensures.room in
          sound_next c.self.inside.machine _ _ journal _ c.args.seat c.args.command.now
          (reply_to c.self.inside.machine c.args.command.now) c.self.invariant room
          (search rules) refl (search rules)
      | in-Err w ↦ sound_same c.self.inside.machine _ _ journal _ c.self.invariant (search rules) (search rules)
    ]
