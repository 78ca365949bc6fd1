use Rattle.om_shell_debugger.specs.Runs.{first_move}
use Rattle.om_shell_debugger.proofs.runs.first_move.Goals as goal

pub returns-clause-moved : goal.returns-clause-moved
unfolding first_move
returns-clause-moved c = rw c.workers.ensures.same at c.move_among.ensures.moved
