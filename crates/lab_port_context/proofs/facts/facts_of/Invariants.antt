use Rattle.std.proofs.Common.{◌≡◌, drop}
use Rattle.lab_port_context.specs.Facts.{facts_from, facts_of}
use Rattle.lab_port_context.proofs.facts.facts_of.Given as goal

abbrev pub invariant-loop-i : goal.invariant-loop-i
invariant-loop-i l = facts_from l.facts l.context (drop l.i l.all) ≡ facts_of l.all
