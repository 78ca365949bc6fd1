use Rattle.gate_checks.proofs.table.Table.free.Given as goal

abbrev pub ghosts-free_in-L-Ledger : goal.ghosts-free_in-L-Ledger
ghosts-free_in-L-Ledger g a = record { name = a.blank.ledger.name; parts = a.blank.ledger.parts }

abbrev pub ghosts-free_in-L-Sitting : goal.ghosts-free_in-L-Sitting
ghosts-free_in-L-Sitting g a = record { opened = a.table.book.book; workers = 2 }
