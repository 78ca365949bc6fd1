use Rattle.std.proofs.Common.{◌≡◌, ◌++◌, drop}
use Rattle.om_shell_commands.specs.Lists.{joined}
use Rattle.lab_schedules.specs.Reports.{block_words}
use Rattle.lab_schedules.proofs.report.push_schedule.Given as goal

-- the texts so far and those of what is left are all
abbrev pub invariant-loop-block : goal.invariant-loop-block
invariant-loop-block l = l.text.items ++ joined block_words (drop l.block-index l.blocks) ≡ l.initial.text.items
    ++ joined block_words l.blocks
