use Rattle.om_drive.proofs.free_run.ran_freely.Given as goal

abbrev pub ghosts-run_through-L-Ledger : goal.ghosts-run_through-L-Ledger
ghosts-run_through-L-Ledger g a = record { name = a.blank.ledger.name; parts = a.blank.ledger.parts }

abbrev pub ghosts-run_through-L-Sitting : goal.ghosts-run_through-L-Sitting
ghosts-run_through-L-Sitting g a = record { opened = a.book; workers = a.book.start.workers }
