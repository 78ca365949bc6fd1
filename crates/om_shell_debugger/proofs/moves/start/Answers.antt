use Rattle.om_shell_debugger.proofs.moves.start.Goals as goal

pub returns : goal.returns
returns c = rw c.name.ensures at c.step_by.ensures
