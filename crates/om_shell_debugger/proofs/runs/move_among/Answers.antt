use Rattle.std.proofs.Common.{sym, ap, ◌∙◌, arith, Some}
use Rattle.om_shell_debugger.specs.Runs.{planned_move}
use Rattle.om_shell_debugger.proofs.Bounded.{no_worker_left, none_move, some_move, worker_moves, worker_rests}
use Rattle.om_shell_debugger.proofs.runs.move_among.Goals as goal

pub returns-in-Some-clause-moved : goal.returns-in-Some-clause-moved
returns-in-Some-clause-moved c =
    let found = rw c.workers-in-workers.ensures.same at (sym c.in-Some.is ∙ c.in_ok-step.ensures) in
    let is = some_move _ _ _ _ found in
    ap Some is.2
    ∙ ap (planned_move c.args.machine.now) (sym (worker_moves _ _ is.0 c.workers-test.true is.1)
    ∙ c.workers.invariant.same)

pub workers-preserved : goal.workers-preserved
workers-preserved c =
    let found = rw c.workers-in-workers.ensures.same at (sym c.in-None.is ∙ c.in_ok-step.ensures) in
    record {
      same = worker_rests _ _ c.workers-test.true (none_move _ _ _ found) ∙ c.workers.invariant.same;
      within = omega (arith, c.workers.invariant.within);
    }

pub returns-clause-moved : goal.returns-clause-moved
returns-clause-moved c = ap (planned_move c.args.machine.now)
    (sym (no_worker_left _ _ (omega (arith, c.workers-test.false))) ∙ c.workers.invariant.same)
