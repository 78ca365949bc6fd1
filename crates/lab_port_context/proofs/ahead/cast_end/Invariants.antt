use Rattle.std.proofs.Common.{◌≡◌, drop}
use Rattle.lab_port_context.specs.Ahead.{cast_end}
use Rattle.lab_port_context.specs.declared.ahead.Cast.TheVariants as casts
use Rattle.lab_port_context.proofs.ahead.cast_end.Given as goal

abbrev pub invariant-loop-i : goal.invariant-loop-i
invariant-loop-i l = cast_end l.i l.cast (drop l.i l.rest) ≡ cast_end 0 casts.Empty l.rest
