use Rattle.std.proofs.Common.{◌≡◌, ◌++◌, sym, ◌∙◌, ap}
use Rattle.om_undo.specs.Machines.{state_in}
use Rattle.lab_explore_closed.specs.Endings.{control_at, wait_in}
use Rattle.lab_explore_moves.proofs.EndingLemmas.{waits_next}
use Rattle.lab_explore_moves.proofs.left.waits.Goals as goal

pub loop-worker-preserved : goal.loop-worker-preserved
loop-worker-preserved c =
    c.in_ok-push_wait.ensures
    ∙ ap (λ all. all ++ wait_in c.args.machine.now.program c.args.machine.now.workers (state_in c.args.machine.now) c.loop-worker.worker
    (control_at (state_in c.args.machine.now) c.loop-worker.worker)) c.loop-worker.invariant
    ∙ sym (waits_next c.args.machine.now.program c.args.machine.now.workers (state_in c.args.machine.now) c.loop-worker.worker)
