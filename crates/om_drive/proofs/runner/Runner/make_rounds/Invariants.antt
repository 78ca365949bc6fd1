use Rattle.std.proofs.Common.{◌≡◌, ◌≤◌, ◌+◌}
use Rattle.om_drive.specs.OwnCalls.{others_in}
use Rattle.om_drive.specs.Steps.{steps_in}
use Rattle.om_drive.specs.Turns.{MakesRound, next_step}
use Rattle.om_drive.proofs.runner.Runner.make_rounds.Given as goal

abbrev pub invariant-loop-round : goal.invariant-loop-round
invariant-loop-round g l = record {
  place : g.D.Debuggee.place l.self.debuggee ≡ g.D.Debuggee.place l.initial.self.debuggee;
  worker : l.self.worker ≡ l.initial.self.worker;
  steps : steps_in (g.D.Debuggee.made l.self.debuggee) ≡ steps_in (g.D.Debuggee.made l.initial.self.debuggee) + l.done;
  own : others_in l.initial.self.worker (g.D.Debuggee.made l.self.debuggee)
      ≡ others_in l.initial.self.worker (g.D.Debuggee.made l.initial.self.debuggee);
  in_turn : MakesRound l.initial.self.worker (next_step l.initial.self.worker)
      (g.D.Debuggee.made l.initial.self.debuggee) (g.D.Debuggee.made l.self.debuggee);
  few : l.done ≤ l.round;
}
