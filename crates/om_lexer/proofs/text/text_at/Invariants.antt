use Rattle.std.proofs.Common.{◌+◌, ◌-◌, ◌≤◌, length}
use Rattle.om_lexer.proofs.Quotes.{IsReadFrom}
use Rattle.om_lexer.proofs.text.text_at.Given as goal

abbrev pub invariant-loop-character : goal.invariant-loop-character
invariant-loop-character l = record {
  inside : l.next ≤ length l.source;
  read : IsReadFrom l.source (l.at + 1) l.next l.characters.items;
}

abbrev pub decreases-loop-character : goal.decreases-loop-character
decreases-loop-character l = length l.source - l.next
