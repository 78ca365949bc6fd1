use Rattle.std.proofs.Common.{◌≡◌, ◌++◌, ◌+◌, ◌-◌, replicate}
use Rattle.om_state.specs.declared.step.Update.TheVariants as update
use Rattle.om_team_worksharing.proofs.meetings.put_kept.Given as goal

-- the updates so far and those of what is left are all
abbrev pub invariant-loop-number : goal.invariant-loop-number
invariant-loop-number l = l.updates ++ replicate (l.size + 1 - l._number) update.Keep ≡ l.fn.updates
    ++ replicate (l.size + 1) update.Keep
