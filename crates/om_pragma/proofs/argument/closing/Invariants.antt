use Rattle.std.proofs.Common.{length}
use Rattle.om_pragma.proofs.Closings.{IsInside}
use Rattle.om_pragma.proofs.argument.closing.Given as goal

abbrev pub invariant-tokens : goal.invariant-tokens
invariant-tokens l = IsInside l.tokens l.rest l.inside l.depth

abbrev pub decreases-tokens : goal.decreases-tokens
decreases-tokens l = length l.rest
