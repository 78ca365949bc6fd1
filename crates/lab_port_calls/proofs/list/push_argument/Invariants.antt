use Rattle.std.proofs.Common.{◌≡◌, ◌++◌, drop}
use Rattle.lab_port_calls.specs.Lists.{argument_from, argument_of}
use Rattle.lab_port_calls.proofs.list.push_argument.Given as goal

abbrev pub invariant-loop-piece : goal.invariant-loop-piece
invariant-loop-piece l = l.out.items ++ argument_from l.left l.depth (drop l.piece-index l.list)
    ≡ l.initial.out.items ++ argument_of l.number l.list
