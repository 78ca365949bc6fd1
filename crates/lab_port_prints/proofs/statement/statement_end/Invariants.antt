use Rattle.std.proofs.Common.{◌≡◌, drop}
use Rattle.lab_port_prints.specs.Statements.{first_statement, statement_end}
use Rattle.lab_port_prints.proofs.statement.statement_end.Given as goal

abbrev pub invariant-loop-i : goal.invariant-loop-i
invariant-loop-i l = statement_end l.i l.wanted l.statement (drop l.i l.rest) ≡ statement_end 0 l.wanted first_statement l.rest
