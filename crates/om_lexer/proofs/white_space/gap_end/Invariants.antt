use Rattle.std.proofs.Common.{ℕ, ◌-◌, ◌≤◌, List, length}
use Rattle.om_lexer.specs.WhiteSpace.{Spaces}
use Rattle.om_lexer.proofs.white_space.gap_end.Given as goal

abbrev pub invariant-loop-end : goal.invariant-loop-end
invariant-loop-end l = record {
  inside : l.at ≤ length l.source;
  behind : l.from ≤ l.at;
  passed : (ends : List ℕ) × Spaces l.source l.from ends l.at;
}

abbrev pub decreases-loop-end : goal.decreases-loop-end
decreases-loop-end l = length l.source - l.at
