use Rattle.std.proofs.Common.{◌∙◌, ap, arith, ◌++◌, ◌+◌, ◌-◌}
use Rattle.om_team.specs.Teams.{workers_from}
use Rattle.om_team.proofs.Counting.{workers_past}
use Rattle.om_team.proofs.members.name_workers.Goals as goal

pub loop-worker-preserved : goal.loop-worker-preserved
loop-worker-preserved c =
    ap (λ xs. xs ++ workers_from (c.loop-worker.worker + 1) (c.args.size - (c.loop-worker.worker + 1)))
    c.in_ok-name.ensures
    ∙ workers_past c.loop-worker.names c.loop-worker.worker c.args.size (omega arith)
    ∙ c.loop-worker.invariant
