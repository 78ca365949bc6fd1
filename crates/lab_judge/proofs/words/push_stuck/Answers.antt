use Rattle.std.specs.Prelude.{List, ℕ, codes}
use Rattle.om_shell_commands.specs.Lists.{joined}
use Rattle.lab_judge.specs.Words.{wait_text}
use Rattle.lab_judge.proofs.Texts.{appended_two}
use Rattle.lab_judge.proofs.words.push_stuck.Goals as goal

pub returns : goal.returns
returns c =
    appended_two c.args.text.now.items _ _ (codes "stuck: no worker has a move") (joined wait_text c.args.waits.now)
    c.in_ok-extend_from_slice.ensures.items c.in_ok-push_waits.ensures
