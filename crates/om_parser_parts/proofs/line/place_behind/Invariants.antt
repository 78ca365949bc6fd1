use Rattle.std.proofs.Common.{◌≡◌, length}
use Rattle.om_parser_parts.specs.LineReading.{place_behind}
use Rattle.om_parser_parts.proofs.line.place_behind.Given as goal

abbrev pub invariant-tokens : goal.invariant-tokens
invariant-tokens l = place_behind l.at l.rest ≡ place_behind l.at l.tokens

abbrev pub decreases-tokens : goal.decreases-tokens
decreases-tokens l = length l.rest
