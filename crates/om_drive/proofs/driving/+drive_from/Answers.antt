use Rattle.std.proofs.Common.{◌≡◌, ◌∙◌, ◌++◌, map}
use Rattle.om_drive.proofs.Stepping.{place_back}
use Rattle.om_drive.proofs.driving.+drive_from.Goals.{in-Ok, in-Err}
use Rattle.om_drive.proofs.driving.+drive_from.Goals as goal

pub returns-clause-back : goal.returns-clause-back
returns-clause-back g t c =
    let at = g.D.Debuggee.place in
    let ranks = c.match-start_if.ranks in
    let back : map at ranks.back.items ≡ map at c.args.ranks.now.back.items ++ map at c.pop.new.self.items =
    elim c.match-start_if.branch [
      | in-Ok w ↦ rw w.ranks-is w.drive_from.ensures.back
      | in-Err w ↦ rw w.ranks-is w.drive_from-in-Err.ensures.back
    ] in
    let place : at c.match-start_if.debuggee ≡ at c.in-Some.debuggee =
    elim c.match-start_if.branch [
      | in-Ok w ↦ rw w.debuggee-is (rw w.in-Ok.ensures.started at w.join-debuggee.ensures)
      | in-Err w ↦ rw w.debuggee-is w.in-Err.ensures.back
    ] in
    place_back at c.push_driven.new.items.items ranks.back.items c.args.ranks.now.back.items
    c.args.ranks.now.waiting.items c.pop.new.self.items c.in-Some.debuggee c.match-start_if.debuggee
    c.push_driven.ensures.items c.in-Some.ensures.items back place

pub returns-clause-part : goal.returns-clause-part
returns-clause-part g t c = elim c.match-start_if.branch [
  | in-Ok w ↦ let same = w.add.ensures ∙ c.start_if.ensures.answers in
      rw w.ring-is (rw same at w.drive_from.ensures.part)
  | in-Err w ↦ let same = w.break_off.ensures ∙ c.start_if.ensures.answers in
      rw w.ring-is (rw same at w.drive_from-in-Err.ensures.part)
]

pub returns-clause-all : goal.returns-clause-all
returns-clause-all g t c = elim c.match-start_if.branch [
  | in-Ok w ↦ let same = w.add.ensures ∙ c.start_if.ensures.answers in
      rw w.ring-is (rw same at w.drive_from.ensures.all)
  | in-Err w ↦ let same = w.break_off.ensures ∙ c.start_if.ensures.answers in
      rw w.ring-is (rw same at w.drive_from-in-Err.ensures.all)
]

pub returns-in_default-clause-part : goal.returns-in_default-clause-part
returns-in_default-clause-part g t c = c.ask.ensures.part

pub returns-in_default-clause-all : goal.returns-in_default-clause-all
returns-in_default-clause-all g t c = c.ask.ensures.all
