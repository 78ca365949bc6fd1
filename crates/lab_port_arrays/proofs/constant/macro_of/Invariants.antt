use Rattle.std.proofs.Common.{◌≡◌, drop}
use Rattle.lab_port_arrays.specs.Constants.{macro_from, macro_of}
use Rattle.lab_port_arrays.proofs.constant.macro_of.Given as goal

abbrev pub invariant-loop-i : goal.invariant-loop-i
invariant-loop-i l = macro_from l.name l.found l.context (drop l.i l.all) ≡ macro_of l.name l.all
