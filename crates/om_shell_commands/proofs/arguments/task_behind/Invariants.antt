use Rattle.std.proofs.Common.{◌≡◌, drop, map}
use Rattle.om_shell_commands.specs.Arguments.{task_behind}
use Rattle.om_shell_commands.proofs.arguments.task_behind.Given as goal

abbrev pub invariant-loop-part : goal.invariant-loop-part
invariant-loop-part l = task_behind l.name (map (λ part. part.now) (drop l.part-index l.parts))
    ≡ task_behind l.initial.name (map (λ part. part.now) l.parts)
