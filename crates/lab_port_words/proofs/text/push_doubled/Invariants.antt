use Rattle.std.proofs.Common.{◌≡◌, ◌++◌, take}
use Rattle.lab_port_words.specs.Texts.{doubled}
use Rattle.lab_port_words.proofs.text.push_doubled.Given as goal

abbrev pub invariant-loop-byte : goal.invariant-loop-byte
invariant-loop-byte l = l.out.items ≡ l.initial.out.items ++ doubled (take l.byte-index l.text)
