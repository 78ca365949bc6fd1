use Rattle.om_drive.proofs.Turns.{waits_round, waits_turn}
use Rattle.om_drive.proofs.runner.Runner.round.Goals as goal

pub returns-then-tried-2-clause-in_turn : goal.returns-then-tried-2-clause-in_turn
returns-then-tried-2-clause-in_turn g c =
    let made = g.D.Debuggee.made in
    let called = c.in_ok-tried.ensures.called in
    waits_round c.start_first.result c.args.self.now.worker (made c.args.self.now.debuggee)
    (made c.step.new.self.debuggee) (made c.start_first.new.self.debuggee) called.0 c.in_ok-tried.tried.waits called.1
    called.3 c.if-tried-2.true (rw c.step.ensures.worker at c.start_first.ensures.in_turn)

pub returns-then-tried-2-clause-begun_on_error : goal.returns-then-tried-2-clause-begun_on_error
returns-then-tried-2-clause-begun_on_error g c =
    let made = g.D.Debuggee.made in
    let called = c.in_ok-tried.ensures.called in
    waits_turn c.start_first.result c.args.self.now.worker (made c.args.self.now.debuggee)
    (made c.step.new.self.debuggee) (made c.start_first.new.self.debuggee) called.0 c.in_ok-tried.tried.waits called.1
    called.3 c.if-tried-2.true (rw c.step.ensures.worker at c.start_first.ensures.begun_on_error)
