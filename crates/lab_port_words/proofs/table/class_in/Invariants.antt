use Rattle.std.proofs.Common.{◌≡◌, drop, map}
use Rattle.lab_port_words.specs.Tables.{class_in}
use Rattle.lab_port_words.proofs.table.class_in.Given as goal

abbrev pub invariant-loop-row : goal.invariant-loop-row
invariant-loop-row l = class_in (map (λ row. (row.0.now, row.1)) (drop l.row-index l.rows)) l.other l.name
    ≡ class_in (map (λ row. (row.0.now, row.1)) l.rows) l.other l.name
