use Rattle.std.proofs.Common.{◌≡◌, ◌++◌}
use Rattle.lab_schedules.specs.Schedules.{step_text, times}
use Rattle.lab_schedules.proofs.commands.push_steps.Given as goal

-- the commands so far and those that are left are all
abbrev pub invariant-loop-left : goal.invariant-loop-left
invariant-loop-left l = l.text.items ++ times l.left (step_text l.worker) ≡ l.initial.text.items
    ++ times l.initial.left (step_text l.worker)

abbrev pub decreases-loop-left : goal.decreases-loop-left
decreases-loop-left l = l.left
