use Rattle.std.proofs.Common.{◌∙◌, ap, drop}
use Rattle.om_book.specs.Books.{BookView}
use Rattle.om_book_journal.specs.Journals.{done_in}
use Rattle.om_book_journal.specs.Growing.{slice_to_end}
use Rattle.om_book.proofs.book.Book.steps_behind.Goals as goal

pub returns : goal.returns
returns c = c.done_in.ensures.made ∙ ap done_in (slice_to_end c.as_slice.result.now c.args.calls)
    ∙ ap (λ rs. done_in (drop c.args.calls rs)) c.as_slice.ensures.value
    ∙ ap (λ (b : BookView). done_in (drop c.args.calls b.journal)) c.self.view_is
