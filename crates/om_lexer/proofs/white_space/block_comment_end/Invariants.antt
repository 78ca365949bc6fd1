use Rattle.std.proofs.Common.{◌≡◌, ℕ, ◌+◌, ◌-◌, ◌<◌, ◌≤◌, length, slice_index}
use Rattle.om_lexer.proofs.white_space.block_comment_end.Given as goal

abbrev pub invariant-loop-last : goal.invariant-loop-last
invariant-loop-last l = record {
  behind : l.from + 2 ≤ l.last;
  open_still : (k : ℕ) → l.from + 2 ≤ k → k < l.last → slice_index l.source k ≡ 42 → slice_index l.source (k + 1)
      ≡ 47 → ⊥;
}

abbrev pub decreases-loop-last : goal.decreases-loop-last
decreases-loop-last l = length l.source - l.last
