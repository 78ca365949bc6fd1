use Rattle.std.proofs.Common.{◌≡◌, None, below_more}
use Rattle.lab_judge.specs.Bad.{control_of, fault_of}
use Rattle.lab_judge.proofs.judge.first_fault.Goals as goal

pub loop-worker-preserved : goal.loop-worker-preserved
loop-worker-preserved c =
    let here : fault_of (control_of c.args.machine.now c.loop-worker.worker) ≡ None =
    cc (c.control.ensures, c.fault_in.ensures, c.in_default.is) in
    below_more _ _ c.loop-worker.invariant here
