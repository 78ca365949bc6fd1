use Rattle.std.proofs.Common.{arith, subst}
use Rattle.std.specs.Prelude.{All}
use Rattle.std.proofs.lemmas.List.{take_all}
use Rattle.std.proofs.lemmas.List.Elements.{All-more}
use Rattle.om_soundness.specs.Ints.{HasIntConstant}
use Rattle.om_soundness.proofs.programs.lines_are_of_ints.Goals as goal

pub loop-line-preserved : goal.loop-line-preserved
loop-line-preserved c =
    All-more (λ line. HasIntConstant line.instruction) c.args.lines.now c.loop-line.line-index _
    (omega arith) c.loop-line.invariant c.is_of_ints.ensures

pub returns : goal.returns
returns c = subst (λ l. All (λ line. HasIntConstant line.instruction) l)
    (take_all c.loop-line.line-index c.args.lines.now (omega arith)) c.loop-line.invariant
