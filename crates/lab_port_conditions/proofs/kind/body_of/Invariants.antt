use Rattle.std.proofs.Common.{◌≡◌, drop}
use Rattle.lab_port_conditions.specs.Kinds.{body_of}
use Rattle.lab_port_conditions.proofs.kind.body_of.Given as goal

abbrev pub invariant-loop-next : goal.invariant-loop-next
invariant-loop-next l = body_of l.name (drop l.next-index l.names) ≡ body_of l.name l.names
