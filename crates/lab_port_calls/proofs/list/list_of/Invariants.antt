use Rattle.std.proofs.Common.{◌≡◌, drop}
use Rattle.lab_port_calls.specs.Lists.{list_end, list_of}
use Rattle.lab_port_calls.proofs.list.list_of.Given as goal

abbrev pub invariant-loop-i : goal.invariant-loop-i
invariant-loop-i l = list_end l.i l.commas l.depth (drop l.i l.rest) ≡ list_of l.rest
