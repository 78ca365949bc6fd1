use Rattle.std.proofs.Common.{◌<◌, arith, refl}
use Rattle.std.proofs.lemmas.List.Elements.{All-from_get_or}
use Rattle.std.specs.Char.{digit_value}
use Rattle.om_lexer.proofs.word.are_digits.Goals as goal

pub returns : goal.returns
returns c = (
  λ yes. All-from_get_or (λ digit. digit_value digit < c.args.base) c.args.digits.now 0
      (λ k below. c.loop-digit.invariant k (omega (arith, below, c.loop-digit-test.false))),
  λ all. refl,
)
