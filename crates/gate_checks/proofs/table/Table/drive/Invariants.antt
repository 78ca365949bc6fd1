use Rattle.gate_checks.proofs.table.Table.drive.Given as goal

abbrev pub ghosts-drive_in-L-Ledger : goal.ghosts-drive_in-L-Ledger
ghosts-drive_in-L-Ledger g a = record { name = a.blank.ledger.name; parts = a.blank.ledger.parts }

abbrev pub ghosts-drive_in-L-Sitting : goal.ghosts-drive_in-L-Sitting
ghosts-drive_in-L-Sitting g a = record { opened = a.table.book.book; workers = 2 }
