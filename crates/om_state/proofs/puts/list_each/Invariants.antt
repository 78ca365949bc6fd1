use Rattle.std.proofs.Common.{◌≡◌, ◌++◌, drop}
use Rattle.om_state.specs.Runs.{runs_listed}
use Rattle.om_state.proofs.puts.list_each.Given as goal

-- the puts so far and those of what is left are all
abbrev pub invariant-loop-run : goal.invariant-loop-run
invariant-loop-run l = l.updates ++ runs_listed (drop l.run-index l.runs) ≡ l.fn.updates ++ runs_listed l.runs
