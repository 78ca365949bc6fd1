use Rattle.om_shell_debugger.proofs.moves.step.Goals as goal

pub returns : goal.returns
returns c = c.step_by.ensures
