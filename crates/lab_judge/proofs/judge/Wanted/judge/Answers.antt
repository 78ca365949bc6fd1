use Rattle.std.proofs.Common.{◌≡◌, false}
use Rattle.om_shell_debugger.specs.Runs.{has_ended}
use Rattle.lab_judge.specs.Bad.{control_of}
use Rattle.lab_judge.specs.Texts.{text_in}
use Rattle.lab_judge.proofs.Judging.{good_before_end}
use Rattle.lab_judge.proofs.judge.Wanted.judge.Goals as goal

pub returns-in-Some : goal.returns-in-Some
returns-in-Some c = rw c.in-Some.is at (c.first_fault.ensures.met (text_in c.args.self.now.text))

pub returns-then-branch : goal.returns-then-branch
returns-then-branch c =
    let going : has_ended (control_of c.args.machine.now 0) ≡ false =
    cc (c.control.ensures, c.has_ended.ensures, c.if-has_ended.false) in
    good_before_end c.args.machine.now (text_in c.args.self.now.text) c.in_default.ensures.none going
    (c.in_ok-can_move.ensures.moves c.if-branch.true)
