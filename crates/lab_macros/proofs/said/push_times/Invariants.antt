use Rattle.std.proofs.Common.{◌≡◌, ◌++◌}
use Rattle.lab_macros.specs.Sayings.{times}
use Rattle.lab_macros.proofs.said.push_times.Given as goal

-- the texts so far and those that are left are all
abbrev pub invariant-left : goal.invariant-left
invariant-left l = l.text.items ++ times l.left l.part ≡ l.initial.text.items ++ times l.initial.left l.part

abbrev pub decreases-left : goal.decreases-left
decreases-left l = l.left
