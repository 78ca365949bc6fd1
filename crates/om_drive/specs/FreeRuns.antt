-- What a free run adds to a book.
use Rattle.std.specs.Prelude.{◌≡◌, List, ◌++◌, drop, length}
use Rattle.om_book_journal.specs.Records.{JournalRecord}
use Rattle.om_book.specs.Books.{BookView, machine_of}
use Rattle.om_book_journal.specs.Journals.{IsLegal}

-- the records that a book has gained
abbrev pub gained : BookView → BookView → List JournalRecord
gained old new = drop (length old.journal) new.journal

-- a book with more records
abbrev pub with_records : BookView → List JournalRecord → BookView
with_records b records = record b { journal = b.journal ++ records }

-- the book has gained records, each with the reply that a machine of one thread gives there, and nothing else of it
-- has changed
pub record GoesOn (old new : BookView) : Type 0 where
  pub grown : new ≡ with_records old (gained old new)
  pub legal : IsLegal (machine_of old) (gained old new)
