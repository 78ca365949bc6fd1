use Rattle.om_shell_debugger.proofs.moves.next.Goals as goal

pub returns : goal.returns
returns c = rw (c.line-line.ensures, c.machine.ensures.left) at c.next_within.ensures
