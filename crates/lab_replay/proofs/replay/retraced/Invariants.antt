use Rattle.std.proofs.Common.{take}
use Rattle.om_undo.specs.Machines.{rules_for}
use Rattle.lab_replay.specs.Traces.{IsRemade}
use Rattle.lab_replay.proofs.replay.retraced.Given as goal

-- the entries so far were made again
abbrev pub invariant-loop-entry : goal.invariant-loop-entry
invariant-loop-entry l = IsRemade l.machine.program (rules_for l.machine) l.history (take l.entry-index l.entries) l.steps.items
