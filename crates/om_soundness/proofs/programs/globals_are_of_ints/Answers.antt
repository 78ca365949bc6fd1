use Rattle.std.proofs.Common.{arith, rules, subst, FitsSigned}
use Rattle.std.specs.Int.{w32}
use Rattle.std.specs.Prelude.{All}
use Rattle.std.proofs.lemmas.List.{take_all}
use Rattle.std.proofs.lemmas.List.Elements.{All-more}
use Rattle.om_soundness.specs.Ints.{IsInt}
use Rattle.om_team_worksharing.specs.Iterations.{int_that_fits}
use Rattle.om_soundness.proofs.programs.globals_are_of_ints.Goals as goal

pub loop-global-preserved : goal.loop-global-preserved
loop-global-preserved c =
    let fits : FitsSigned w32 c.global-item.result.initial = search rules in
    All-more (λ global. IsInt global.initial) c.args.globals.now c.loop-global.global-index c.global-item.result
    (omega arith) c.loop-global.invariant
    (subst (λ global. IsInt global.initial) c.global-item.is (int_that_fits c.global-item.result.initial fits))

pub returns : goal.returns
returns c = subst (λ l. All (λ global. IsInt global.initial) l)
    (take_all c.loop-global.global-index c.args.globals.now (omega arith)) c.loop-global.invariant
