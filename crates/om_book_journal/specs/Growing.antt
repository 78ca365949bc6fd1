-- Matter of proofs, for crates with books: a journal that grows by one record.
use Rattle.std.specs.Prelude.{◌≡◌, ◌≤◌, ◌<◌, ◌+◌, ◌-◌, ℕ, suc, true, List, [], ◌∷◌, ◌++◌, length, refl, Option, Some, None, option_map, slice_get}
use Rattle.std.proofs.Common.{sym, ◌∙◌, ap, subst, arith, take, drop, take_all, length-append, length-drop}
use Rattle.om_state.specs.declared.step.Entry.{Entry}
use Rattle.om_state.specs.declared.step.Label.{Label}
use Rattle.om_state.specs.declared.step.Step.{Step}
use Rattle.om_state.specs.declared.step.Outcome.{Outcome}
use Rattle.om_state.specs.declared.step.Outcome.TheVariants as outcome
use Rattle.om_state.specs.Rules.{step_at}
use Rattle.om_undo_history.specs.declared.reply.UndoReply.{UndoReply}
use Rattle.om_undo_history.specs.declared.reply.UndoReply.TheVariants.{Undone, Conflict, Nothing}
use Rattle.om_undo_history.specs.Runs.{History, Place, entry_for, history_with, history_without, last_place, reply_to_undo}
use Rattle.om_undo_history.specs.Runs.{state_of_entries}
use Rattle.om_undo.specs.Machines.{MachineView, rules_for}
use Rattle.om_book_journal.specs.declared.command.Command.{Command}
use Rattle.om_book_journal.specs.declared.command.Command.TheVariants as command
use Rattle.om_book_journal.specs.declared.reply.Reply.{Reply}
use Rattle.om_book_journal.specs.Records.{JournalRecord}
use Rattle.om_book_journal.specs.Runs.{IsReply, after, asks_for_list, history_behind, reply_to}
use Rattle.om_book_journal.specs.Journals.{IsLegal, IsSound, last_asked, last_told, left_by}

pub left_by-snoc : (m : MachineView) (rs : List JournalRecord) (r : JournalRecord)
    → left_by m (rs ++ r ∷ []) ≡ after (left_by m rs) r.command
left_by-snoc m [] r = refl
left_by-snoc m (x ∷ xs) r = left_by-snoc (after m x.command) xs r

made_with : (h : History) (e : Entry) (o : Outcome) → (history_with h e o).made ≤ h.made + 1
made_with h e (outcome.Updates us) = omega arith
made_with h e (outcome.Blocked b) = omega arith
made_with h e outcome.Ended = omega arith

made_without : (h : History) (p : Option Place) (x : UndoReply) → (history_without h p x).made ≡ h.made
made_without h (Some p) (Undone serial line) = refl
made_without h (Some p) (Conflict serial worker object) = refl
made_without h (Some p) Nothing = refl
made_without h None x = refl

-- a command makes one step at most
made_after : (m : MachineView) (c : Command) → (history_behind m c).made ≤ m.history.made + 1
made_after m (command.Step worker choice) =
    let l : Label = record { worker = worker; choice = choice } in
    let d : Step = step_at (rules_for m) (state_of_entries (rules_for m) m.history.entries) l in
    made_with m.history (entry_for m.history.made l d) d.outcome
made_after m (command.Undo worker) =
    omega (
      arith,
      made_without m.history (last_place worker m.history.entries)
          (reply_to_undo (rules_for m) m.history worker),
    )
made_after m (command.Roll serial) = omega arith
made_after m (command.Look question) = omega arith

pub IsLegal-snoc : (m : MachineView) (rs : List JournalRecord) (r : JournalRecord) → IsLegal m rs
    → IsReply (left_by m rs) r.command r.reply → IsLegal m (rs ++ r ∷ [])
IsLegal-snoc m [] r h is = (is, tt)
IsLegal-snoc m (x ∷ xs) r h is = (h.0, IsLegal-snoc (after m x.command) xs r h.1 is)

sound_snoc : (m start : MachineView) (rs : List JournalRecord) (r : JournalRecord) → IsSound m start rs
    → length rs < 200000 → IsReply m r.command r.reply → IsSound (after m r.command) start (rs ++ r ∷ [])
sound_snoc m start rs r h room is = record {
  legal = IsLegal-snoc start rs r h.legal (subst (λ p. IsReply p r.command r.reply) h.left is);
  left = ap (λ p. after p r.command) h.left ∙ sym (left_by-snoc start rs r);
  program = h.program;
  workers = h.workers;
  most = omega (arith, length-append rs (r ∷ []), room);
  few_made = omega (arith, length-append rs (r ∷ []), h.few_made, made_after m r.command);
}

-- the book stays sound where a command is done and its reply recorded
pub sound_next : (m next start : MachineView) (rs js : List JournalRecord) (seat : ℕ) (c : Command) (x : Reply)
    → IsSound m start rs → length rs < 200000 → next ≡ after m c → IsReply m c x
    → js ≡ rs ++ record { seat = seat; command = c; reply = x } ∷ [] → IsSound next start js
sound_next m next start rs js seat c x h room is answered grows =
    rw (is, grows) (sound_snoc m start rs (record { seat = seat; command = c; reply = x }) h room answered)

-- the book stays sound where nothing changes
pub sound_same : (m next start : MachineView) (rs js : List JournalRecord) → IsSound m start rs
    → next ≡ m → js ≡ rs → IsSound next start js
sound_same m next start rs js h same none = rw (same, none) h

-- a question for a list leaves all as it was
pub list_leaves : (m : MachineView) (c : Command) → asks_for_list c ≡ true → after m c ≡ m
list_leaves m (command.Step worker choice) asks = absurd cc
list_leaves m (command.Undo worker) asks = absurd cc
list_leaves m (command.Roll serial) asks = absurd cc
list_leaves m (command.Look question) asks = refl

told_still : (m : MachineView) (r : JournalRecord) → asks_for_list r.command ≡ true → IsReply m r.command r.reply
    → r.reply ≡ reply_to (after m r.command) r.command
told_still m r asks is = is ∙ ap (λ p. reply_to p r.command) (sym (list_leaves m r.command asks))

answer_of_last : (m : MachineView) (rs : List JournalRecord) (r : JournalRecord)
    → slice_get rs (length rs - 1) ≡ Some r → asks_for_list r.command ≡ true → IsLegal m rs
    → r.reply ≡ reply_to (left_by m rs) r.command
answer_of_last m [] r at asks h = absurd cc
answer_of_last m (x ∷ []) r at asks h =
    let is : x ≡ r = cc in
    subst (λ (k : JournalRecord). k.reply ≡ reply_to (after m x.command) k.command) is
    (told_still m x (subst (λ (k : JournalRecord). asks_for_list k.command ≡ true) (sym is) asks) h.0)
answer_of_last m (x ∷ y ∷ rs) r at asks h =
    let e : length (x ∷ y ∷ rs) - 1 ≡ suc (length (y ∷ rs) - 1) = omega arith in
    answer_of_last (after m x.command) (y ∷ rs) r (subst (λ i. slice_get (x ∷ y ∷ rs) i ≡ Some r) e at) asks h.1

told_at : (m start : MachineView) (rs : List JournalRecord) (o : Option JournalRecord) (c : Command) (x : Reply)
    → IsSound m start rs → slice_get rs (length rs - 1) ≡ o → asks_for_list c ≡ true
    → Some c ≡ option_map (λ (r : JournalRecord). r.command) o
    → Some x ≡ option_map (λ (r : JournalRecord). r.reply) o → x ≡ reply_to m c
told_at m start rs None c x h at asks asked told = absurd cc
told_at m start rs (Some r) c x h at asks asked told =
    let is : c ≡ r.command = cc in
    let same : x ≡ r.reply = cc in
    same
    ∙ answer_of_last start rs r at (subst (λ k. asks_for_list k ≡ true) is asks) h.legal
    ∙ ap (λ k. reply_to (left_by start rs) k) (sym is)
    ∙ ap (λ p. reply_to p c) (sym h.left)

-- where the last call was this very question for a list, its answer is still the right one
pub told_again : (m start : MachineView) (rs : List JournalRecord) (c : Command) (x : Reply)
    → IsSound m start rs → asks_for_list c ≡ true → Some c ≡ last_asked rs → Some x ≡ last_told rs
    → x ≡ reply_to m c
told_again m start rs c x h asks asked told =
    told_at m start rs (slice_get rs (length rs - 1)) c x h refl asks asked told

-- the records from a place on
pub slice_to_end : (rs : List JournalRecord) (at : ℕ) → take (length rs - at) (drop at rs) ≡ drop at rs
slice_to_end rs at = take_all (length rs - at) (drop at rs) (omega (arith, length-drop at rs))
