use Rattle.std.proofs.Common.{◌≡◌, ◌<◌, ◌^◌, drop}
use Rattle.om_shell_commands.specs.Arguments.{value_after}
use Rattle.om_shell_commands.proofs.arguments.number.Given as goal

abbrev pub invariant-loop-byte : goal.invariant-loop-byte
invariant-loop-byte l = record {
  value : value_after l.value (drop l.byte-index l.word) ≡ value_after 0 l.word;
  small : l.value < 10 ^ l.byte-index;
}
