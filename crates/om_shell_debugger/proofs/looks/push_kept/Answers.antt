use Rattle.om_shell_debugger.proofs.looks.push_kept.Goals as goal

pub returns : goal.returns
returns c = rw c.get.ensures at c.push_ready.ensures
