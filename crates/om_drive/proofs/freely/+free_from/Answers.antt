use Rattle.std.proofs.Common.{rules, ◌≡◌, ◌+◌, ◌++◌, map}
use Rattle.om_drive.specs.OwnCalls.{others_in, others_from}
use Rattle.om_drive.specs.Steps.{steps_in}
use Rattle.om_drive.proofs.OwnCalls.{own_back}
use Rattle.om_drive.specs.Turns.{EachRunsInTurn, RunsInTurn}
use Rattle.om_drive.proofs.Stepping.{one_back, place_back}
use Rattle.om_drive.proofs.Turns.{turn_back}
use Rattle.om_drive.proofs.freely.+free_from.Goals.{in-Ok, in-Err}
use Rattle.om_drive.proofs.freely.+free_from.Goals as goal

pub returns-clause-back : goal.returns-clause-back
returns-clause-back g t c =
    let at = g.D.Debuggee.place in
    let line = c.match-started.line in
    let ran = c.match-started.ran in
    let back : map at line.back.items ≡ map at c.args.line.now.back.items ++ map at c.pop.new.self.items =
    elim c.match-started.branch [
      | in-Ok w ↦ rw w.line-is c.free_from.ensures.back
      | in-Err w ↦ rw w.line-is c.free_from.ensures.back
    ] in
    let place : at ran.debuggee ≡ at c.in-Some.debuggee =
    elim c.match-started.branch [
      | in-Ok w ↦ rw w.ran-is (rw w.in-Ok.ensures.started at w.join-ran.ensures.0)
      | in-Err w ↦ rw w.ran-is w.in-Err.ensures.place
    ] in
    place_back at c.take_back.new.self.back.items line.back.items c.args.line.now.back.items
    c.args.line.now.waiting.items c.pop.new.self.items c.in-Some.debuggee ran.debuggee c.take_back.ensures.back
    c.in-Some.ensures.items back place

pub returns-clause-done : goal.returns-clause-done
returns-clause-done g t c =
    let f = λ (d : g.row.D.Denot). steps_in (g.D.Debuggee.made d) in
    let line = c.match-started.line in
    let ran = c.match-started.ran in
    let back : line.back.items ≡ c.free_from.new.line.back.items =
    elim c.match-started.branch [ in-Ok w ↦ rw w.line-is | in-Err w ↦ rw w.line-is ] in
    let tally : line.tally.done ≡ c.free_from.new.line.tally.done =
    elim c.match-started.branch [ in-Ok w ↦ rw w.line-is | in-Err w ↦ rw w.line-is w.broken_off-line.ensures ] in
    let told : f ran.debuggee ≡ f c.in-Some.debuggee + ran.done =
    elim c.match-started.branch [
      | in-Ok w ↦ rw w.ran-is (rw w.in-Ok.ensures.started at w.join-ran.ensures.1)
      | in-Err w ↦ rw w.ran-is w.in-Err.ensures.steps
    ] in
    one_back f c.take_back.new.self.back.items line.back.items c.free_from.new.line.back.items
    c.args.line.now.back.items c.args.line.now.waiting.items c.pop.new.self.items c.in-Some.debuggee ran.debuggee
    c.args.line.now.tally.done c.free_from.new.line.tally.done line.tally.done ran.done
    c.take_back.new.self.tally.done c.take_back.ensures.back c.in-Some.ensures.items c.free_from.ensures.done back
    tally told c.take_back.ensures.done

pub returns-clause-own : goal.returns-clause-own
returns-clause-own g t c =
    let made = g.D.Debuggee.made in
    let line = c.match-started.line in
    let ran = c.match-started.ran in
    let worker = c.len-worker.result in
    let same : others_from 0 (map made line.back.items) ≡ others_from 0 (map made c.pop.new.self.items) =
    elim c.match-started.branch [
      | in-Ok w ↦ rw w.line-is c.free_from.ensures.own
      | in-Err w ↦ rw w.line-is c.free_from.ensures.own
    ] in
    let own : others_in worker (made ran.debuggee) ≡ others_in worker (made c.in-Some.debuggee) =
    elim c.match-started.branch [
      | in-Ok w ↦ rw w.ran-is (rw w.in-Ok.ensures.started at w.join-ran.ensures.2)
      | in-Err w ↦ rw w.ran-is w.in-Err.ensures.own
    ] in
    own_back made c.take_back.new.self.back.items line.back.items c.args.line.now.waiting.items c.pop.new.self.items
    c.in-Some.debuggee ran.debuggee worker c.take_back.ensures.back c.in-Some.ensures.items same (search rules) own

pub returns-clause-in_turn : goal.returns-clause-in_turn
returns-clause-in_turn g t c =
    let made = g.D.Debuggee.made in
    let line = c.match-started.line in
    let ran = c.match-started.ran in
    let worker = c.len-worker.result in
    let each : EachRunsInTurn 0 (map made c.pop.new.self.items) (map made line.back.items) =
    elim c.match-started.branch [
      | in-Ok w ↦ rw w.line-is c.free_from.ensures.in_turn
      | in-Err w ↦ rw w.line-is c.free_from.ensures.in_turn
    ] in
    let turn : RunsInTurn worker (made c.in-Some.debuggee) (made ran.debuggee) =
    elim c.match-started.branch [
      | in-Ok w ↦ rw w.ran-is (rw w.in-Ok.ensures.started at w.join-ran.ensures.3)
      | in-Err w ↦ rw w.ran-is w.in-Err.ensures.in_turn
    ] in
    turn_back made c.take_back.new.self.back.items line.back.items c.args.line.now.waiting.items c.pop.new.self.items
    c.in-Some.debuggee ran.debuggee worker c.take_back.ensures.back c.in-Some.ensures.items each (search rules) turn
