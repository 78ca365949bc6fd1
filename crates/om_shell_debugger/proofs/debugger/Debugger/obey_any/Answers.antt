use Rattle.std.proofs.Common.{append-nil, ap, refl, sym}
use Rattle.om_shell_debugger.proofs.Saying.{on_both}
use Rattle.om_shell_debugger.proofs.debugger.Debugger.obey_any.Goals as goal

pub returns-in-Step : goal.returns-in-Step
returns-in-Step c =
    rw c.in-Step.is (on_both c.step.result (λ said. said)
    (λ left. ap (λ r. record { book = r; marks = c.args.self.now.marks }) left) c.step.ensures)

pub returns-in-Start : goal.returns-in-Start
returns-in-Start c =
    rw c.in-Start.is (on_both c.start.result (λ said. said)
    (λ left. ap (λ r. record { book = r; marks = c.args.self.now.marks }) left) c.start.ensures)

pub returns-in-Undo : goal.returns-in-Undo
returns-in-Undo c =
    rw c.in-Undo.is (on_both c.undo.result (λ said. said)
    (λ left. ap (λ r. record { book = r; marks = c.args.self.now.marks }) left) c.undo.ensures)

pub returns-in-Next : goal.returns-in-Next
returns-in-Next c =
    rw c.in-Next.is (on_both c.next.result (λ said. said)
    (λ left. ap (λ r. record { book = r; marks = c.args.self.now.marks }) left) c.next.ensures)

pub returns-in-Back : goal.returns-in-Back
returns-in-Back c =
    rw c.in-Back.is (on_both c.back.result (λ said. said)
    (λ left. ap (λ r. record { book = r; marks = c.args.self.now.marks }) left) c.back.ensures)

pub returns-in-Print : goal.returns-in-Print
returns-in-Print c = rw c.in-Print.is c.print.ensures

pub returns-in-PrintLocal : goal.returns-in-PrintLocal
returns-in-PrintLocal c = rw c.in-PrintLocal.is c.print_local.ensures

pub returns-in-Where : goal.returns-in-Where
returns-in-Where c =
    rw c.in-Where.is (on_both c.place.result (λ said. said)
    (λ left. ap (λ r. record { book = r; marks = c.args.self.now.marks }) left) c.place.ensures)

pub returns-in-History : goal.returns-in-History
returns-in-History c =
    rw c.in-History.is (on_both c.history.result (λ said. said)
    (λ left. ap (λ r. record { book = r; marks = c.args.self.now.marks }) left) c.history.ensures)

pub returns-in-Events : goal.returns-in-Events
returns-in-Events c =
    rw c.in-Events.is (on_both c.events.result (λ said. said)
    (λ left. ap (λ r. record { book = r; marks = c.args.self.now.marks }) left) c.events.ensures)

pub returns-in-Output : goal.returns-in-Output
returns-in-Output c =
    rw c.in-Output.is (on_both c.output.result (λ said. said)
    (λ left. ap (λ r. record { book = r; marks = c.args.self.now.marks }) left) c.output.ensures)

pub returns-in-Tasks : goal.returns-in-Tasks
returns-in-Tasks c =
    rw c.in-Tasks.is (on_both c.tasks.result (λ said. said)
    (λ left. ap (λ r. record { book = r; marks = c.args.self.now.marks }) left) c.tasks.ensures)

pub returns-in-Break : goal.returns-in-Break
returns-in-Break c = rw c.in-Break.is c.set_break.ensures

pub returns-in-Watch : goal.returns-in-Watch
returns-in-Watch c = rw c.in-Watch.is c.set_watch.ensures

pub returns-in-Delete : goal.returns-in-Delete
returns-in-Delete c = rw c.in-Delete.is c.delete.ensures

pub returns-in-Run : goal.returns-in-Run
returns-in-Run c =
    rw c.in-Run.is (on_both c.run.result (λ said. said)
    (λ left. ap (λ r. record { book = r; marks = c.args.self.now.marks }) left) c.run.ensures)

pub returns-in-Roll : goal.returns-in-Roll
returns-in-Roll c =
    rw c.in-Roll.is (on_both c.roll.result (λ said. said)
    (λ left. ap (λ r. record { book = r; marks = c.args.self.now.marks }) left) c.roll.ensures)

pub returns-in-Quit : goal.returns-in-Quit
returns-in-Quit c = rw c.in-Quit.is (sym (append-nil c.args.text.now.items), refl)
