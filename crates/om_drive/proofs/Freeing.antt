-- What a free run adds to a book.
use Rattle.std.specs.Prelude.{◌≡◌, ◌+◌, ℕ, List, [], ◌∷◌, ◌++◌, length}
use Rattle.std.proofs.Common.{sym, ◌∙◌, ap, subst, arith, append-nil, take-append-drop}
use Rattle.std.proofs.lemmas.List.{drop_all}
use Rattle.om_book_journal.specs.Runs.{after}
use Rattle.om_book_journal.specs.Journals.{IsLegal, left_by}
use Rattle.om_book.specs.Books.{BookView, IsGrown, machine_of}
use Rattle.om_book_journal.specs.Records.{JournalRecord}
use Rattle.om_undo.specs.Machines.{MachineView}
use Rattle.om_drive.specs.FreeRuns.{GoesOn, gained, with_records}

-- what follows a part of a legal journal is legal behind the machine that the part leaves
legal_behind : (m : MachineView) (rs more : List JournalRecord) → IsLegal m (rs ++ more) → IsLegal (left_by m rs) more
legal_behind m [] more h = h
legal_behind m (r ∷ rs) more h = legal_behind (after m r.command) rs more h.1

-- a book that is as it was
pub goes_on_same : (b : BookView) → GoesOn b b
goes_on_same b =
    let none : gained b b ≡ [] = drop_all (length b.journal) b.journal (omega arith) in
    record {
      grown = sym (ap (with_records b) none ∙ ap (λ j. record b { journal = j }) (append-nil b.journal));
      legal = subst (IsLegal (machine_of b)) (sym none) tt;
    }

-- a legal book that has grown
pub goes_on_grown : (old new : BookView) (n : ℕ) → IsGrown old new n → IsLegal new.start new.journal → GoesOn old new
goes_on_grown old new n grown legal =
    let more : new.journal ≡ old.journal ++ gained old new =
    sym (take-append-drop (length old.journal) new.journal) ∙ ap (λ j. j ++ gained old new) grown.2 in
    record {
      grown = ap (λ m. record new { start = m }) grown.0
          ∙ ap (λ j. record old { journal = j }) more;
      legal = legal_behind old.start old.journal (gained old new)
          (subst (IsLegal old.start) more (subst (λ m. IsLegal m new.journal) grown.0 legal));
    }
