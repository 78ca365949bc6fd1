use Rattle.gate_checks.proofs.unbacked.compared.Given as goal

abbrev pub ghosts-compared_in-L-Ledger : goal.ghosts-compared_in-L-Ledger
ghosts-compared_in-L-Ledger g a = record { name = a.blank.ledger.name; parts = a.blank.ledger.parts }

abbrev pub ghosts-compared_in-L-Sitting : goal.ghosts-compared_in-L-Sitting
ghosts-compared_in-L-Sitting g a = record { opened = a.book.book; workers = 2 }
