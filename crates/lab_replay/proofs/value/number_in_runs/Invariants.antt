use Rattle.std.proofs.Common.{◌≡◌, drop}
use Rattle.om_state.specs.Runs.{runs_listed}
use Rattle.lab_replay.specs.Said.{first_number}
use Rattle.lab_replay.proofs.value.number_in_runs.Given as goal

-- the first number of what is left is that of all
abbrev pub invariant-loop-run : goal.invariant-loop-run
invariant-loop-run l = first_number (runs_listed (drop l.run-index l.runs)) ≡ first_number (runs_listed l.runs)
