use Rattle.std.proofs.Common.{◌≡◌, length}
use Rattle.om_pragma.specs.Reading.{expression_before}
use Rattle.om_pragma.proofs.before.expression_before.Given as goal

abbrev pub invariant-tokens : goal.invariant-tokens
invariant-tokens l = expression_before l.place l.rest ≡ expression_before l.place l.tokens

abbrev pub decreases-tokens : goal.decreases-tokens
decreases-tokens l = length l.rest
