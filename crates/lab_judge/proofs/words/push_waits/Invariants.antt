use Rattle.std.proofs.Common.{◌≡◌, ◌++◌, drop}
use Rattle.om_shell_commands.specs.Lists.{joined}
use Rattle.lab_judge.specs.Words.{wait_text}
use Rattle.lab_judge.proofs.words.push_waits.Given as goal

-- the texts so far and those of what is left are all
abbrev pub invariant-loop-wait : goal.invariant-loop-wait
invariant-loop-wait l = l.text.items ++ joined wait_text (drop l.wait-index l.waits) ≡ l.initial.text.items
    ++ joined wait_text l.waits
