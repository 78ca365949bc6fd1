use Rattle.std.proofs.Common.{◌≡◌, drop, map}
use Rattle.om_shell_commands.specs.Verbs.{verb_in}
use Rattle.om_shell_commands.proofs.verb.verb_in.Given as goal

abbrev pub invariant-loop-row : goal.invariant-loop-row
invariant-loop-row l = verb_in (map (λ row. (row.0.now, row.1)) (drop l.row-index l.rows)) l.word
    ≡ verb_in (map (λ row. (row.0.now, row.1)) l.rows) l.word
