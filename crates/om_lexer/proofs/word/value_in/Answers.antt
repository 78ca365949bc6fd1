use Rattle.std.proofs.Common.{◌≡◌, ◌*◌, ap, arith, take}
use Rattle.std.specs.Char.{digit_value}
use Rattle.om_lexer.specs.Constants.{value_in}
use Rattle.om_lexer.proofs.Numbers.{value_next}
use Rattle.om_lexer.proofs.word.value_in.Goals as goal

pub returns-in_err-checked_mul : goal.returns-in_err-checked_mul
returns-in_err-checked_mul c =
    let next = value_next c.args.base c.args.digits.now c.loop-digit.digit-index (omega arith) (omega arith) in
    let so_far : c.loop-digit.value * c.args.base ≡ value_in c.args.base
    (take c.loop-digit.digit-index c.args.digits.now) * c.args.base = ap (λ v. v * c.args.base)
    c.loop-digit.invariant.front in
    rw c.from_residual-in_err-checked_mul.ensures (λ small. c.in_err-checked_mul.ensures (omega (arith, next, so_far)))

pub returns-in_err-value : goal.returns-in_err-value
returns-in_err-value c =
    let next = value_next c.args.base c.args.digits.now c.loop-digit.digit-index (omega arith) (omega arith) in
    let so_far : c.loop-digit.value * c.args.base ≡ value_in c.args.base
    (take c.loop-digit.digit-index c.args.digits.now) * c.args.base = ap (λ v. v * c.args.base)
    c.loop-digit.invariant.front in
    let read = c.in_ok-digit.ensures.value in
    let mul = c.in_ok-checked_mul.ensures in
    let same = ap digit_value c.from.ensures in
    rw c.from_residual-in_err-value.ensures
    (λ small. c.in_err-value.ensures (omega (arith, next, so_far, read, mul, same)))
