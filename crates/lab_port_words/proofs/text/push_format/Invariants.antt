use Rattle.std.proofs.Common.{◌≡◌, ◌++◌, drop, false}
use Rattle.lab_port_words.specs.Texts.{plain_format}
use Rattle.lab_port_words.proofs.text.push_format.Given as goal

abbrev pub invariant-loop-byte : goal.invariant-loop-byte
invariant-loop-byte l = l.out.items ++ plain_format l.inside (drop l.byte-index l.text)
    ≡ l.initial.out.items ++ plain_format false l.text
