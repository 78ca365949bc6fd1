use Rattle.std.proofs.Common.{◌≡◌, ℕ, ◌<◌}
use Rattle.om_lexer.specs.Spellings.{keyword_text}
use Rattle.om_lexer.proofs.Tables.{all_keywords, keyword_at}
use Rattle.om_lexer.proofs.spelling.keyword_spelled.Given as goal

abbrev pub invariant-loop-keyword : goal.invariant-loop-keyword
invariant-loop-keyword l = record {
  table : l.keyword-items ≡ all_keywords;
  passed : (k : ℕ) → k < l.keyword-index → l.text ≡ keyword_text (keyword_at k) → ⊥;
}
