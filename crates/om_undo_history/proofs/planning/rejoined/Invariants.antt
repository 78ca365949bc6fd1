use Rattle.std.proofs.Common.{◌≡◌, ◌++◌, drop}
use Rattle.om_state.specs.Runs.{runs_listed}
use Rattle.om_undo_history.proofs.planning.rejoined.Given as goal

-- what is there and what is left are all
abbrev pub invariant-loop-run : goal.invariant-loop-run
invariant-loop-run l = l.puts ++ runs_listed (drop l.run-index l.run-items) ≡ l.fn.parts.first.items ++ runs_listed l.fn.parts.runs
