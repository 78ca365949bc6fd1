use Rattle.std.proofs.Common.{arith, subst}
use Rattle.std.specs.Prelude.{All}
use Rattle.std.proofs.lemmas.List.{take_all}
use Rattle.std.proofs.lemmas.List.Elements.{All-more}
use Rattle.om_soundness.specs.Ints.{HasIntConstant, HasIntConstants}
use Rattle.om_soundness.proofs.programs.bodies_are_of_ints.Goals as goal

pub loop-body-preserved : goal.loop-body-preserved
loop-body-preserved c =
    All-more (λ body. HasIntConstants body) c.args.bodies.now c.loop-body.body-index c.body-item.result
    (omega arith) c.loop-body.invariant
    (subst (λ body. HasIntConstants body) c.body-item.is
    (subst (λ code. All (λ line. HasIntConstant line.instruction) code) c.as_slice.ensures
    c.lines_are_of_ints.ensures))

pub returns : goal.returns
returns c = subst (λ l. All (λ body. HasIntConstants body) l)
    (take_all c.loop-body.body-index c.args.bodies.now (omega arith)) c.loop-body.invariant
