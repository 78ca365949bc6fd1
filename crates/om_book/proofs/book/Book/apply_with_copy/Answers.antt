use Rattle.std.proofs.Common.{rules, subst, sym, ◌<◌, length}
use Rattle.om_book.specs.Books.{BookView}
use Rattle.om_book_journal.specs.Growing.{sound_next, sound_same}
use Rattle.om_book.proofs.book.Book.apply_with_copy.Goals.{in-Ok, in-Err}
use Rattle.om_book.proofs.book.Book.apply_with_copy.Goals as goal

pub invariant_of-self : goal.invariant_of-self
invariant_of-self c =
    let journal = c.self.inside.journal.items in
    elim c.match-append_thrice.branch [
      | in-Ok w ↦
          let room : length journal < 200000 = subst (λ (b : BookView). length b.journal < 200000)
          (sym c.self.view_is) c.in_ok-has_room.ensures.room in
          sound_next c.self.inside.machine _ _ journal _ c.args.seat c.args.command w.in-Ok.replies.0
          c.self.invariant room
          (search rules) (search rules) (search rules)
      | in-Err w ↦ sound_same c.self.inside.machine _ _ journal _ c.self.invariant (search rules) (search rules)
    ]
