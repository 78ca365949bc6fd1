use Rattle.std.proofs.Common.{length}
use Rattle.om_parser_parts.proofs.LineRuns.{IsPast}
use Rattle.om_parser_parts.proofs.line.run.Given as goal

abbrev pub invariant-tokens : goal.invariant-tokens
invariant-tokens l = IsPast l.tokens l.rest l.taken

abbrev pub decreases-tokens : goal.decreases-tokens
decreases-tokens l = length l.rest
