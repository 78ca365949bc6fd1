use Rattle.std.proofs.Common.{take}
use Rattle.std.specs.List.{AllZip}
use Rattle.lab_races_history.specs.Histories.{IsMadeOf}
use Rattle.lab_races_history.proofs.history.made_by.Given as goal

-- the steps so far are in the list
abbrev pub invariant-loop-step : goal.invariant-loop-step
invariant-loop-step l = AllZip IsMadeOf (take l.step-index l.steps) l.history.items
