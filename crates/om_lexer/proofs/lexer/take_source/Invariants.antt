use Rattle.std.proofs.Common.{◌-◌, ◌<◌, ◌≤◌, length}
use Rattle.om_lexer.specs.Sources.{source_limit}
use Rattle.om_lexer.proofs.Progress.{IsReadTo}
use Rattle.om_lexer.proofs.lexer.take_source.Given as goal

abbrev pub invariant-loop-at : goal.invariant-loop-at
invariant-loop-at l = record {
  inside : l.at ≤ length l.source;
  below : source_limit < length l.source → l.at < source_limit;
  read : IsReadTo l.source l.output.tokens.items l.at l.line l.state l.output.macros;
}

abbrev pub decreases-loop-at : goal.decreases-loop-at
decreases-loop-at l = length l.source - l.at
