use Rattle.std.proofs.Common.{◌≡◌, drop, false}
use Rattle.lab_port_words.specs.Texts.{is_respelled}
use Rattle.lab_port_words.proofs.text.is_respelled.Given as goal

abbrev pub invariant-loop-byte : goal.invariant-loop-byte
invariant-loop-byte l = is_respelled l.inside (drop l.byte-index l.text) ≡ is_respelled false l.text
