use Rattle.std.proofs.Common.{◌≡◌, ◌∙◌, ◌++◌, ℕ, List, Bool, true, false, cond, sym, ap, map}
use Rattle.std.proofs.lemmas.Result.{on_ok_weaker}
use Rattle.om_drive.specs.FreeRuns.{gained, with_records}
use Rattle.om_book.specs.Books.{is_full, machine_of}
use Rattle.om_book_journal.specs.Journals.{done_in}
use Rattle.om_shell_commands.specs.Steps.{full_text}
use Rattle.om_shell_commands.specs.Stops.{freed_text}
use Rattle.om_shell_debugger.specs.Freed.{FreeRun, made_by, freed_book}
use Rattle.om_shell_debugger.proofs.Bounded.{call_of, legal_records, own_calls}
use Rattle.om_shell_debugger.proofs.runs.free.Goals as goal

pub returns-then-count : goal.returns-then-count
returns-then-count g c =
    let old = c.args.book.now in
    let ran = c.in_ok-count.ensures.goes_on in
    let calls = gained old c.run_freely.new.book in
    let own = own_calls calls c.in_ok-count.ensures.own in
    let run : FreeRun = record { calls = map call_of calls; full = true; own = own } in
    let behind : c.run_freely.new.book ≡ freed_book run old =
    ran.grown ∙ ap (with_records old) (legal_records (machine_of old) calls ran.legal) in
    let no_room : is_full (freed_book run old) ≡ true =
    sym (ap is_full behind) ∙ c.in_ok-count.ensures.full c.if-count.true in
    let text : Bool → List ℕ = λ full. cond full full_text (freed_text (done_in (made_by run old))) in
    on_ok_weaker c.push_full.result (λ said. (
      run,
      (said ∙ ap (λ full. c.args.text.now.items ++ text full) (sym no_room), behind),
    )) c.push_full.ensures

pub returns : goal.returns
returns g c =
    let old = c.args.book.now in
    let ran = c.in_ok-count.ensures.goes_on in
    let calls = gained old c.run_freely.new.book in
    let own = own_calls calls c.in_ok-count.ensures.own in
    let run : FreeRun = record { calls = map call_of calls; full = false; own = own } in
    let same : calls ≡ made_by run old = legal_records (machine_of old) calls ran.legal in
    on_ok_weaker c.push_freed.result (λ said. (
      run,
      (
        said ∙ ap (λ n. c.args.text.now.items ++ freed_text n) (c.in_ok-count.ensures.done ∙ ap done_in same),
        ran.grown ∙ ap (with_records old) same,
      ),
    )) c.push_freed.ensures
