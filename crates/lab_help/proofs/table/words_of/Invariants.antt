use Rattle.std.proofs.Common.{◌≡◌, drop, map}
use Rattle.lab_help.specs.Tables.{words_of}
use Rattle.lab_help.proofs.table.words_of.Given as goal

abbrev pub invariant-loop-row : goal.invariant-loop-row
invariant-loop-row l = words_of (map (λ row. (row.0.now, row.1.now)) (drop l.row-index l.rows)) l.name
    ≡ words_of (map (λ row. (row.0.now, row.1.now)) l.rows) l.name
