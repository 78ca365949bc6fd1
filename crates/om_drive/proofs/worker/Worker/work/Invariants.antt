use Rattle.std.proofs.Common.{◌≡◌}
use Rattle.om_drive.proofs.worker.Worker.work.Given as goal

abbrev pub invariant-loop : goal.invariant-loop
invariant-loop g l = g.D.Debuggee.place l.self.debuggee ≡ g.D.Debuggee.place l.fn.self.debuggee
