use Rattle.std.proofs.Common.{◌≡◌, drop}
use Rattle.lab_port_names.specs.Names.{meaning_of}
use Rattle.lab_port_names.proofs.names.meaning_of.Given as goal

abbrev pub invariant-loop-next : goal.invariant-loop-next
invariant-loop-next l = meaning_of l.word (drop l.next-index l.names) ≡ meaning_of l.word l.names
