use Rattle.std.proofs.Common.{take}
use Rattle.std.specs.Prelude.{All}
use Rattle.om_soundness.specs.Ints.{IsInt}
use Rattle.om_soundness.proofs.programs.globals_are_of_ints.Given as goal

abbrev pub invariant-loop-global : goal.invariant-loop-global
invariant-loop-global l = All (λ global. IsInt global.initial) (take l.global-index l.globals)
