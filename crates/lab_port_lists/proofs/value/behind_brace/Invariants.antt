use Rattle.std.proofs.Common.{◌≡◌, drop}
use Rattle.lab_port_lists.specs.Values.{behind_brace}
use Rattle.lab_port_lists.proofs.value.behind_brace.Given as goal

abbrev pub invariant-loop-i : goal.invariant-loop-i
invariant-loop-i l = behind_brace (drop l.i l.list) ≡ behind_brace l.list
