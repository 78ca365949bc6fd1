use Rattle.std.proofs.Common.{◌≡◌, ◌<◌, ℕ, None}
use Rattle.om_shell_debugger.specs.Runs.{move_of}
use Rattle.lab_judge.proofs.judge.can_move.Given as goal

-- none of the workers so far has a move
abbrev pub invariant-loop-worker : goal.invariant-loop-worker
invariant-loop-worker l = (k : ℕ) → k < l.worker → move_of l.machine k ≡ None
