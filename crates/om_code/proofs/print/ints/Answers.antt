use Rattle.std.proofs.Common.{◌≡◌, ◌+◌, ◌++◌, ℤ, List, rules, sym, subst, drop, option_map}
use Rattle.om_code.specs.Printing.{ints}
use Rattle.om_code.proofs.Printing.{ints_further}
use Rattle.om_code.proofs.print.ints.Goals as goal

pub loop-operand-preserved : goal.loop-operand-preserved
loop-operand-preserved c =
    let so : List ℤ
    → Type 0 = λ vs. option_map (λ rest. vs ++ rest)
    (ints (drop (c.loop-operand.operand-index + 1) c.args.operands.now)) ≡ ints c.args.operands.now in
    subst so (sym c.in_ok-push-in-Int.ensures.items)
    (ints_further c.loop-operand.operand-index c.args.operands.now _ c.loop-operand.values.items c.in-Int.value _
    c.loop-operand-test.true c.in-Int.is (search rules) c.loop-operand.invariant)
