use Rattle.std.proofs.Common.{◌≡◌, ℕ, ◌-◌, ◌<◌, ◌≤◌, true, length, slice_index}
use Rattle.om_lexer.specs.Characters.{is_word_byte}
use Rattle.om_lexer.proofs.word.word_end.Given as goal

abbrev pub invariant-loop-to : goal.invariant-loop-to
invariant-loop-to l = record {
  behind : l.from ≤ l.to;
  inside : l.to ≤ length l.source;
  run : (k : ℕ) → l.from ≤ k → k < l.to → is_word_byte (slice_index l.source k) ≡ true;
}

abbrev pub decreases-loop-to : goal.decreases-loop-to
decreases-loop-to l = length l.source - l.to
