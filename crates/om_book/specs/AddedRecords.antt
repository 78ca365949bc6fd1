-- Matter of proofs, for om_shell_debugger too: the reply of a record that is added to a book.
use Rattle.std.specs.Prelude.{◌≡◌, ◌<◌, ◌+◌, ℕ, List, [], ◌∷◌, ◌++◌, length, option_map, refl, Some}
use Rattle.std.proofs.Common.{sym, ◌-◌, ap, arith, length-append}
use Rattle.std.proofs.lemmas.List.{get_or_push}
use Rattle.std.proofs.lemmas.Option.{slice_get_read}
use Rattle.om_book_journal.specs.declared.command.Command.{Command}
use Rattle.om_book_journal.specs.declared.reply.Reply.{Reply}
use Rattle.om_book_journal.specs.Records.{JournalRecord}
use Rattle.om_book.specs.Books.{BookView, last_reply, records_of, with_record}

-- there is a record then
pub some_record : (b : BookView) (seat : ℕ) (c : Command) (x : Reply) → 0 < records_of (with_record b seat c x)
some_record b seat c x =
    let r : JournalRecord = record { seat = seat; command = c; reply = x } in
    omega (arith, length-append b.journal (r ∷ []))

-- the last reply is that of the record that was added
pub last_of_record : (b : BookView) (seat : ℕ) (c : Command) (x : Reply)
    → last_reply (with_record b seat c x) ≡ Some x
last_of_record b seat c x =
    let r : JournalRecord = record { seat = seat; command = c; reply = x } in
    let js : List JournalRecord = b.journal in
    let longer : length (js ++ r ∷ []) ≡ length js + 1 = length-append js (r ∷ []) in
    let at : length js ≡ length (js ++ r ∷ []) - 1 = omega (arith, longer) in
    ap (option_map (λ (k : JournalRecord). k.reply))
    (slice_get_read (js ++ r ∷ []) (length (js ++ r ∷ [])) (length (js ++ r ∷ []) - 1) r refl (omega (arith, longer))
    (sym (get_or_push js r r (length (js ++ r ∷ []) - 1) at)))
