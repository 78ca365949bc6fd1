use Rattle.std.proofs.Common.{◌≡◌, ◌++◌, drop}
use Rattle.lab_port_lists.specs.Values.{stores_from, no_values}
use Rattle.lab_port_lists.proofs.value.push_stores.Given as goal

abbrev pub invariant-loop-piece : goal.invariant-loop-piece
invariant-loop-piece l = l.out.items ++ stores_from l.name l.values (drop l.piece-index l.list)
    ≡ l.initial.out.items ++ stores_from l.name no_values l.list
