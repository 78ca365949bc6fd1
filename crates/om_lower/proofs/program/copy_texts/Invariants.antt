use Rattle.std.proofs.Common.{◌≡◌, take}
use Rattle.om_lower.proofs.program.copy_texts.Given as goal

abbrev pub invariant-loop-number : goal.invariant-loop-number
invariant-loop-number l = l.copied.items ≡ take l.number l.texts
