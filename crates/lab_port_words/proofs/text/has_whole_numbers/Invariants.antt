use Rattle.std.proofs.Common.{◌≡◌, drop, false}
use Rattle.lab_port_words.specs.Texts.{has_whole_numbers}
use Rattle.lab_port_words.proofs.text.has_whole_numbers.Given as goal

abbrev pub invariant-loop-byte : goal.invariant-loop-byte
invariant-loop-byte l = has_whole_numbers l.inside (drop l.byte-index l.text) ≡ has_whole_numbers false l.text
