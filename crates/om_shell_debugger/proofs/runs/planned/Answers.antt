use Rattle.std.proofs.Common.{sym, ◌∙◌}
use Rattle.om_shell_debugger.proofs.Bounded.{can_be_made, planned_here, planned_not}
use Rattle.om_shell_debugger.proofs.runs.planned.Goals as goal

pub returns-then-is_possible : goal.returns-then-is_possible
returns-then-is_possible c =
    planned_here c.args.machine.now c.args.worker c.args.choice.now c.in_ok-step.step c.in_ok-step.ensures
    (sym (can_be_made c.args.machine.now c.args.worker c.args.choice.now c.in_ok-step.step _ c.in_ok-step.ensures
    c.is_possible.ensures) ∙ c.if-is_possible.true)

pub returns : goal.returns
returns c =
    planned_not c.args.machine.now c.args.worker c.args.choice.now
    (sym (can_be_made c.args.machine.now c.args.worker c.args.choice.now c.in_ok-step.step _ c.in_ok-step.ensures
    c.is_possible.ensures) ∙ c.if-is_possible.false)
