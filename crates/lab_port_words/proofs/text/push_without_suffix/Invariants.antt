use Rattle.std.proofs.Common.{◌≡◌, ◌++◌, take}
use Rattle.lab_port_words.specs.Texts.{without_suffix}
use Rattle.lab_port_words.proofs.text.push_without_suffix.Given as goal

abbrev pub invariant-loop-byte : goal.invariant-loop-byte
invariant-loop-byte l = l.out.items ≡ l.initial.out.items ++ without_suffix (take l.byte-index l.text)
