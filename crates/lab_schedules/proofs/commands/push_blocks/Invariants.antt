use Rattle.std.proofs.Common.{◌≡◌, ◌++◌, drop}
use Rattle.om_shell_commands.specs.Lists.{joined}
use Rattle.lab_schedules.specs.Schedules.{block_text}
use Rattle.lab_schedules.proofs.commands.push_blocks.Given as goal

-- the texts so far and those of what is left are all
abbrev pub invariant-loop-block : goal.invariant-loop-block
invariant-loop-block l = l.text.items ++ joined block_text (drop l.block-index l.blocks) ≡ l.initial.text.items
    ++ joined block_text l.blocks
