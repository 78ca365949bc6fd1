use Rattle.om_shell_debugger.proofs.moves.back.Goals as goal

pub returns : goal.returns
returns c = rw (c.line-line.ensures, c.machine.ensures.left) at c.back_within.ensures
