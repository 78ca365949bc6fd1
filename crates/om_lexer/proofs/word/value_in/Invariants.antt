use Rattle.std.proofs.Common.{◌≡◌, ◌<◌, ◌^◌, take}
use Rattle.om_lexer.specs.Constants.{value_in}
use Rattle.om_lexer.proofs.word.value_in.Given as goal

abbrev pub invariant-loop-digit : goal.invariant-loop-digit
invariant-loop-digit l = record {
  front : l.value ≡ value_in l.base (take l.digit-index l.digits);
  fits : l.value < 2 ^ 32;
}
