use Rattle.std.proofs.Common.{◌≡◌, ◌++◌, drop}
use Rattle.std.specs.Prelude.{filter}
use Rattle.lab_races.specs.Orders.{orders_by}
use Rattle.lab_races.proofs.accesses.ordering_of.Given as goal

-- what was picked so far, and what will be of the rest, are all
abbrev pub invariant-loop-access : goal.invariant-loop-access
invariant-loop-access l = l.some.items ++ filter (orders_by l.manner) (drop l.access-index l.all)
    ≡ filter (orders_by l.manner) l.all
