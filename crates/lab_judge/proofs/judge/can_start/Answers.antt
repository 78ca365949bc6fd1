use Rattle.std.proofs.Common.{is_some, sym, ap, ◌∙◌}
use Rattle.om_shell_debugger.specs.Runs.{start_among}
use Rattle.lab_judge.proofs.Moves.{start_behind, start_here, drop_next}
use Rattle.lab_judge.proofs.judge.can_start.Goals as goal

pub loop-name-preserved : goal.loop-name-preserved
loop-name-preserved c =
    let here = drop_next c.args.names.now c.loop-name.name-index c.name-item.result c.loop-name-test.true
    c.name-item.is in
    sym (start_behind c.args.machine.now c.args.worker c.name-item.result _ (sym c.in_ok-can_step.ensures
    ∙ c.if-branch.false))
    ∙ ap (start_among c.args.machine.now c.args.worker) (sym here) ∙ c.loop-name.invariant

pub returns-then-branch : goal.returns-then-branch
returns-then-branch c =
    let here = drop_next c.args.names.now c.loop-name.name-index c.name-item.result c.loop-name-test.true
    c.name-item.is in
    sym (start_here c.args.machine.now c.args.worker c.name-item.result _ (sym c.in_ok-can_step.ensures
    ∙ c.if-branch.true))
    ∙ ap (λ names. is_some (start_among c.args.machine.now c.args.worker names)) (sym here)
    ∙ ap is_some c.loop-name.invariant
