use Rattle.std.proofs.Common.{◌≡◌, take, map}
use Rattle.om_lower_rules.specs.Code.{global_of}
use Rattle.om_lower.proofs.program.copy_globals.Given as goal

abbrev pub invariant-loop-global : goal.invariant-loop-global
invariant-loop-global l = l.copied.items ≡ map global_of (take l.global-index l.globals)
