use Rattle.std.proofs.Common.{◌≡◌, drop}
use Rattle.lab_port_prints.specs.Statements.{first_statement, statement_from}
use Rattle.lab_port_prints.proofs.statement.choices_of.Given as goal

abbrev pub invariant-loop-piece : goal.invariant-loop-piece
invariant-loop-piece l = statement_from l.wanted l.statement (drop l.piece-index l.pieces)
    ≡ statement_from l.wanted first_statement l.pieces
