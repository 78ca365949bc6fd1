-- Exit statuses.
use Rattle.std.specs.Prelude.{ℕ}
use Rattle.om_shell.specs.declared.ended.Outcome.{Outcome}
use Rattle.om_shell.specs.declared.ended.Outcome.TheVariants.{Ran, Words, Fault}

-- the status of the program: 0 and 1 are a run's own (`Ends.status_of`), 2 stands for words, 3 for a fault
abbrev pub status_of : Outcome → ℕ
status_of (Ran status) = status
status_of Words = 2
status_of (Fault fault) = 3
