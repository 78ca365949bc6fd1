use Rattle.std.proofs.Common.{◌≡◌, ◌++◌, drop}
use Rattle.std.specs.Prelude.{filter}
use Rattle.om_foot.specs.declared.footprint.Access.{Access}
use Rattle.lab_races.specs.Orders.{is_data}
use Rattle.lab_races.proofs.accesses.data_of.Given as goal

-- what was picked so far, and what will be of the rest, are all
abbrev pub invariant-loop-access : goal.invariant-loop-access
invariant-loop-access l = l.some.items ++ filter (λ (a : Access). is_data a.object) (drop l.access-index l.all)
    ≡ filter (λ (a : Access). is_data a.object) l.all
