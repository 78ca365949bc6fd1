use Rattle.std.proofs.Common.{ℕ, ◌<◌, get_or}
use Rattle.std.specs.Char.{digit_value}
use Rattle.om_lexer.proofs.word.are_digits.Given as goal

abbrev pub invariant-loop-digit : goal.invariant-loop-digit
invariant-loop-digit l = (k : ℕ) → k < l.digit-index → digit_value (get_or l.digits k 0) < l.base
