use Rattle.std.proofs.Common.{◌≡◌, ℕ, ◌<◌, false, nat_eq}
use Rattle.std.specs.List.{starts_with}
use Rattle.om_lexer.specs.Spellings.{punctuator_text}
use Rattle.om_lexer.proofs.Tables.{all_punctuators, punctuator_at}
use Rattle.om_lexer.proofs.spelling.longest_punctuator.Given as goal

abbrev pub invariant-loop-punctuator : goal.invariant-loop-punctuator
invariant-loop-punctuator l = record {
  table : l.punctuator-items ≡ all_punctuators;
  passed : (k : ℕ) → k < l.punctuator-index → starts_with nat_eq l.bytes (punctuator_text (punctuator_at k)) ≡ false;
}
