use Rattle.std.proofs.Common.{◌≡◌, ◌++◌, drop}
use Rattle.om_foot.proofs.names.Names.push_each.Given as goal

-- the accesses so far and those that are left are all
abbrev pub invariant-loop-access : goal.invariant-loop-access
invariant-loop-access l = l.self ++ drop l.access-index l.others ≡ l.fn.self ++ l.others
