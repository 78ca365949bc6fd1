use Rattle.om_shell_commands.specs.Lists.{entry_line}
use Rattle.om_shell_debugger.proofs.Bounded.{joined_next}
use Rattle.om_shell_debugger.proofs.looks.push_all.Goals as goal

pub loop-entry-preserved : goal.loop-entry-preserved
loop-entry-preserved c =
    joined_next entry_line _ _ _ c.args.entries.now c.loop-entry.entry-index
    c.entry-item.result c.loop-entry-test.true c.entry-item.is
    c.loop-entry.invariant c.in_ok-push_one.ensures
