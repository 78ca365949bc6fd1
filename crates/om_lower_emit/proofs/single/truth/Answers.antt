use Rattle.std.proofs.Common.{arith}
use Rattle.om_lower_emit.proofs.Singles.{emits_truth}
use Rattle.om_lower_emit.specs.Writing.{free_define, free_put, free_put_all}
use Rattle.om_lower_emit.proofs.single.truth.Goals as goal

pub define-requires : goal.define-requires
define-requires c = free_put_all c.args.otherwise _ _ _ _ c.in_ok-one_unless_zero.ensures c.requires.otherwise

pub define-requires-2 : goal.define-requires-2
define-requires-2 c =
    free_put c.args.over _ _ _ _ c.in_ok-put.ensures
    (free_define c.args.over c.args.otherwise _ _ (λ same. omega (arith, c.requires.apart, same)) c.define.ensures
    (free_put_all c.args.over _ _ _ _ c.in_ok-one_unless_zero.ensures c.requires.over))

pub returns : goal.returns
returns c = λ names. emits_truth names c.args.line c.args.otherwise c.args.over _ _ _ _ _ c.requires.apart
    c.in_ok-one_unless_zero.ensures c.define.ensures c.in_ok-put.ensures c.define-2.ensures
