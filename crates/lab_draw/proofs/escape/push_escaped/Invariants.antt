use Rattle.std.proofs.Common.{◌≡◌, ◌++◌, drop}
use Rattle.lab_draw.specs.Escapes.{escaped}
use Rattle.lab_draw.proofs.escape.push_escaped.Given as goal

-- what is written and what is left are all
abbrev pub invariant-loop-byte : goal.invariant-loop-byte
invariant-loop-byte l = l.text.items ++ escaped (drop l.byte-index l.bytes) ≡ l.initial.text.items ++ escaped l.bytes
