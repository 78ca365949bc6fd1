use Rattle.std.proofs.Common.{ℕ, ◌<◌, length, arith, ◌++◌}
use Rattle.om_shell_commands.specs.Lists.{joined}
use Rattle.lab_judge.specs.Words.{wait_text}
use Rattle.lab_judge.proofs.Texts.{joined_next}
use Rattle.lab_judge.proofs.words.push_waits.Goals as goal

pub loop-wait-preserved : goal.loop-wait-preserved
loop-wait-preserved c =
    let i : ℕ = c.loop-wait.wait-index in
    let less : i < length c.args.waits.now = omega arith in
    joined_next wait_text c.loop-wait.text.items c.push_wait.new.text.items
    (c.args.text.now.items ++ joined wait_text c.args.waits.now) c.args.waits.now i c.wait-item.result less
    c.wait-item.is c.loop-wait.invariant c.in_ok-push_wait.ensures
