use Rattle.std.proofs.Common.{◌≡◌, drop}
use Rattle.lab_port_names.specs.Enumerations.{behind_brace}
use Rattle.lab_port_names.proofs.constant.behind_brace.Given as goal

abbrev pub invariant-loop-i : goal.invariant-loop-i
invariant-loop-i l = behind_brace (drop l.i l.list) ≡ behind_brace l.list
