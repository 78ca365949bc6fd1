use Rattle.std.proofs.Common.{◌≡◌, ◌++◌, ◌-◌}
use Rattle.om_state.specs.Runs.{puts_of}
use Rattle.om_state.proofs.puts.push_each.Given as goal

-- the puts so far and those that are left are all
abbrev pub invariant-loop-index : goal.invariant-loop-index
invariant-loop-index l = l.updates ++ puts_of l.run.cell (l.run.count - l._index)
    ≡ l.fn.updates ++ puts_of l.run.cell l.run.count
