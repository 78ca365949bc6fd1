use Rattle.std.proofs.Common.{◌≡◌, ◌∙◌, ap, sym, subst, ◌<◌}
use Rattle.om_book.specs.Books.{BookView, last_reply, records_of}
use Rattle.om_book_journal.specs.Runs.{reply_to}
use Rattle.om_book.specs.Books.{machine_of}
use Rattle.om_book.specs.AddedRecords.{last_of_record, some_record}
use Rattle.om_shell_debugger.proofs.Bounded.{some_same}
use Rattle.om_shell_debugger.proofs.calls.told.Goals as goal

pub last_reply-requires : goal.last_reply-requires
last_reply-requires c =
    subst (λ (b : BookView). 0 < records_of b) (sym c.requires.2)
    (some_record c.requires.0 0 c.requires.1 (reply_to (machine_of c.requires.0) c.requires.1))

pub returns : goal.returns
returns c = λ b asked is. some_same _ _
    (c.last_reply.ensures ∙ ap last_reply is
    ∙ last_of_record b 0 asked (reply_to (machine_of b) asked))
