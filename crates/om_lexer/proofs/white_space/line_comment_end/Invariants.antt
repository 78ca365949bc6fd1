use Rattle.std.proofs.Common.{◌≡◌, ℕ, ◌+◌, ◌-◌, ◌<◌, ◌≤◌, length, slice_index}
use Rattle.om_lexer.proofs.white_space.line_comment_end.Given as goal

abbrev pub invariant-loop-to : goal.invariant-loop-to
invariant-loop-to l = record {
  behind : l.from + 2 ≤ l.to;
  inside : l.to ≤ length l.source;
  one_line : (k : ℕ) → l.from ≤ k → k < l.to → slice_index l.source k ≡ 10 → ⊥;
}

abbrev pub decreases-loop-to : goal.decreases-loop-to
decreases-loop-to l = length l.source - l.to
