use Rattle.std.proofs.Common.{◌≡◌, drop}
use Rattle.std.specs.Prelude.{map}
use Rattle.om_memory.specs.Plain.{plain_held}
use Rattle.om_task.specs.Rules.{admits_all}
use Rattle.om_task.proofs.admit.admits_below.Given as goal

-- the contexts further down decide
abbrev pub invariant-loop-depth : goal.invariant-loop-depth
invariant-loop-depth l = admits_all l.program l.name (drop l.depth (map plain_held l.contexts.items))
    ≡ admits_all l.program l.name (map plain_held l.contexts.items)
