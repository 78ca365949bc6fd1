use Rattle.std.proofs.Common.{◌∙◌, ap, arith, ◌++◌, ◌+◌, ◌-◌}
use Rattle.om_team_worksharing.specs.Barriers.{arrivals}
use Rattle.om_team_worksharing.proofs.Counting.{arrivals_past}
use Rattle.om_team_worksharing.proofs.meetings.name_arrivals.Goals as goal

pub loop-number-preserved : goal.loop-number-preserved
loop-number-preserved c =
    ap (λ xs. xs ++ arrivals c.args.team.now (c.loop-number.number + 1) (c.args.size - (c.loop-number.number + 1)))
    c.in_ok-name.ensures
    ∙ arrivals_past c.loop-number.names c.args.team.now c.loop-number.number c.args.size (omega arith)
    ∙ c.loop-number.invariant
