use Rattle.std.proofs.Common.{◌≡◌, ◌++◌, drop}
use Rattle.om_shell_commands.specs.Lists.{joined}
use Rattle.lab_judge.specs.Words.{byte_text}
use Rattle.lab_judge.proofs.words.push_bytes.Given as goal

-- the texts so far and those of what is left are all
abbrev pub invariant-loop-byte : goal.invariant-loop-byte
invariant-loop-byte l = l.text.items ++ joined byte_text (drop l.byte-index l.bytes) ≡ l.initial.text.items
    ++ joined byte_text l.bytes
