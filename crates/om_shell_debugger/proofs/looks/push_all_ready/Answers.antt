use Rattle.om_undo.specs.Machines.{state_in}
use Rattle.om_shell_debugger.specs.Looks.{ready_line}
use Rattle.om_shell_debugger.proofs.Bounded.{joined_next}
use Rattle.om_shell_debugger.proofs.looks.push_all_ready.Goals as goal

pub loop-name-preserved : goal.loop-name-preserved
loop-name-preserved c =
    joined_next (ready_line (state_in c.args.machine.now)) _ _ _ c.args.names.now c.loop-name.name-index
    c.name-item.result c.loop-name-test.true c.name-item.is
    c.loop-name.invariant c.in_ok-push_kept.ensures
