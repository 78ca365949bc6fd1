use Rattle.std.proofs.Common.{rules}
use Rattle.om_drive.specs.Turns.{next_step, MakesRound}
use Rattle.om_drive.proofs.Turns.{then_in_turn, then_round}
use Rattle.om_drive.proofs.runner.Runner.make_rounds.Goals as goal

pub returns-in-Err-clause-in_turn : goal.returns-in-Err-clause-in_turn
returns-in-Err-clause-in_turn g c =
    let made = g.D.Debuggee.made in
    let worker = c.args.self.now.worker in
    let before = c.loop-round.invariant in
    then_in_turn worker (next_step worker) (made c.args.self.now.debuggee) (made c.loop-round.self.debuggee)
    (made c.round.new.self.debuggee) before.in_turn (rw before.worker at c.in-Err.ensures.begun_on_error)

pub loop-round-preserved : goal.loop-round-preserved
loop-round-preserved g c =
    let made = g.D.Debuggee.made in
    let worker = c.args.self.now.worker in
    let now = c.loop-round.self in
    let before = c.loop-round.invariant in
    let turn : MakesRound now.worker (next_step now.worker) (made now.debuggee) (made c.round.new.self.debuggee) =
    search rules in
    let round : MakesRound worker (next_step worker) (made now.debuggee) (made c.round.new.self.debuggee) =
    rw before.worker at turn in record {
      place = search rules;
      worker = search rules;
      steps = search rules;
      own = search rules;
      in_turn = then_round worker (next_step worker) (made c.args.self.now.debuggee) (made now.debuggee)
          (made c.round.new.self.debuggee) before.in_turn round;
      few = search rules;
    }
