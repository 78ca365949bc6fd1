use Rattle.std.proofs.Common.{rules, ◌≡◌}
use Rattle.om_book_journal.specs.RunLeft.{sound_run}
use Rattle.om_book.proofs.book.Book.machine.Goals as goal

pub returns-clause-run : goal.returns-clause-run
returns-clause-run c =
    let inside = c.self.inside in
    let is : c.args.self.now ≡ record {
      start = inside.start.value;
      journal = inside.journal.items;
    } = search rules in
    rw is (sound_run inside.machine inside.start.value inside.journal.items c.self.invariant)
