use Rattle.std.proofs.Common.{◌≡◌, ◌∙◌, ap, rules, refl, subst, sym, ◌<◌, length, List}
use Rattle.om_undo_history.specs.Runs.{reply_to_step}
use Rattle.om_undo.specs.Machines.{MachineView, rules_for}
use Rattle.om_book_journal.specs.Records.{JournalRecord}
use Rattle.om_book.specs.Books.{BookView, machine_of, with_record}
use Rattle.om_book_journal.specs.Runs.{reply_to, step_command}
use Rattle.om_book_journal.specs.Growing.{sound_next, sound_same}
use Rattle.om_book.proofs.book.Book.take.Goals.{in-Ok, in-Err-append_step}
use Rattle.om_book.proofs.book.Book.take.Goals as goal

pub invariant_of-self : goal.invariant_of-self
invariant_of-self c =
    let journal = c.self.inside.journal.items in
    elim c.match-append_step.branch [
      | in-Ok w ↦
          let room : length journal < 200000 = subst (λ (b : BookView). length b.journal < 200000)
          (sym c.self.view_is) (search rules) in
          sound_next c.self.inside.machine _ _ journal _ c.args.seat (step_command c.args.step.label)
          (reply_to c.self.inside.machine (step_command c.args.step.label)) c.self.invariant room
          (search rules) refl (search rules)
      | in-Err-append_step w ↦ sound_same c.self.inside.machine _ _ journal _ c.self.invariant (search rules) (search rules)
    ]

pub returns-clause-reply : goal.returns-clause-reply
returns-clause-reply c =
    let here : c.self.inside.machine ≡ machine_of c.args.self.now = c.self.invariant.left
    ∙ ap machine_of c.self.view_is in
    elim c.match-append_step.branch [
      | in-Ok w ↦
          rw w.result-is (w.in-Ok.ensures.reply
          ∙ ap (λ (m : MachineView). reply_to_step (rules_for m) m.history c.args.step.label) here)
      | in-Err-append_step w ↦ rw w.result-is tt
    ]

pub returns-clause-recorded : goal.returns-clause-recorded
returns-clause-recorded c =
    let here : c.self.inside.machine ≡ machine_of c.args.self.now = c.self.invariant.left
    ∙ ap machine_of c.self.view_is in
    let behind : List JournalRecord → BookView = λ js. record { start = c.self.inside.start.value; journal = js } in
    let asked = step_command c.args.step.label in
    elim c.match-append_step.branch [
      | in-Ok w ↦
          rw w.result-is (ap behind w.in-Ok.ensures.journal
          ∙ ap (λ (m : MachineView). with_record (behind c.self.inside.journal.items) c.args.seat asked
          (reply_to m asked)) here
          ∙ ap (λ (b : BookView). with_record b c.args.seat asked (reply_to (machine_of c.args.self.now) asked))
          c.self.view_is)
      | in-Err-append_step w ↦ rw w.result-is tt
    ]
