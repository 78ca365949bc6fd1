use Rattle.std.proofs.Common.{◌≡◌, ◌++◌, drop}
use Rattle.lab_races.proofs.accesses.push_copies.Given as goal

-- what was added so far, and the rest, are all
abbrev pub invariant-loop-access : goal.invariant-loop-access
invariant-loop-access l = l.all.items ++ drop l.access-index l.more ≡ l.initial.all.items ++ l.more
