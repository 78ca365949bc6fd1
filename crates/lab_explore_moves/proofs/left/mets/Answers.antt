use Rattle.std.proofs.Common.{◌≡◌, ◌++◌, sym, ◌∙◌, ap}
use Rattle.om_undo.specs.Machines.{state_in}
use Rattle.lab_explore_closed.specs.Endings.{control_at, met_in}
use Rattle.lab_explore_moves.proofs.EndingLemmas.{mets_next}
use Rattle.lab_explore_moves.proofs.left.mets.Goals as goal

pub loop-worker-preserved : goal.loop-worker-preserved
loop-worker-preserved c =
    c.in_ok-push_met.ensures
    ∙ ap (λ all. all ++ met_in c.args.machine.now.program c.loop-worker.worker
    (control_at (state_in c.args.machine.now) c.loop-worker.worker)) c.loop-worker.invariant
    ∙ sym (mets_next c.args.machine.now.program (state_in c.args.machine.now) c.loop-worker.worker)
