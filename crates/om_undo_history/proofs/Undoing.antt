-- A step and then its undo.
use Rattle.std.proofs.Common.{◌≡◌, refl, ◌∙◌, ap, None, Some, List, [], ◌∷◌, ◌++◌, ℕ, ◌+◌, eq-eqb, append-nil, ◌==◌}
use Rattle.std.proofs.Common.{Option}
use Rattle.om_state.specs.declared.step.Outcome.{Outcome}
use Rattle.om_state.specs.declared.step.Label.{Label}
use Rattle.om_state.specs.declared.step.Step.{Step}
use Rattle.om_state.specs.declared.step.Entry.{Entry}
use Rattle.om_state.specs.Rules.{Rules, step_at}
use Rattle.om_undo_history.specs.Runs.{History, state_of_entries, entry_for, reply_for, history_with, reply_to_step}
use Rattle.om_undo_history.specs.Runs.{last_or_first, last_place, reply_against, reply_at, reply_to_undo}
use Rattle.om_undo_history.specs.Runs.{history_without, after_undo}
use Rattle.om_undo_history.specs.Runs.{Undoes}
use Rattle.om_code.specs.declared.frame.Fault.{Fault}
use Rattle.om_undo_history.specs.declared.reply.UndoReply.TheVariants.{Undone}
use Rattle.om_state.specs.declared.step.Outcome.TheVariants as outcome
use Rattle.om_undo_history.specs.declared.reply.StepReply.TheVariants as step_reply

last_place-push : (w : ℕ) (es : List Entry) (e : Entry) → e.worker ≡ w
    → last_place w (es ++ e ∷ []) ≡ Some (record { earlier = es; entry = e; later = [] })
last_place-push w [] e h = ap (λ b. last_or_first None b e []) (eq-eqb e.worker w h)
last_place-push w (x ∷ xs) e h = ap (λ o. last_or_first o (x.worker == w) x (xs ++ e ∷ [])) (last_place-push w xs e h)

-- the last entry can be undone
pub undo-push : (r : Rules) (es : List Entry) (e : Entry) (n : ℕ)
    → reply_to_undo r (record { entries = es ++ e ∷ []; made = n }) e.worker ≡ Undone e.serial e.line
unfolding reply_against
undo-push r es e n = ap (reply_at r) (last_place-push e.worker es e refl)

after-push : (r : Rules) (es : List Entry) (e : Entry) (n : ℕ)
    → after_undo r (record { entries = es ++ e ∷ []; made = n }) e.worker ≡ record { entries = es; made = n }
after-push r es e n =
    let h : History = record { entries = es ++ e ∷ []; made = n } in
    ap (λ o. history_without h o (reply_to_undo r h e.worker)) (last_place-push e.worker es e refl)
    ∙ ap (λ reply. history_without h (Some (record { earlier = es; entry = e; later = [] })) reply)
    (undo-push r es e n)
    ∙ (λ i. record { entries = append-nil es i; made = n })

by_outcome : (r : Rules) (h : History) (l : Label) (d : Step) (o : Outcome) (serial line : ℕ) (fault : Option Fault)
    → reply_for (h.made + 1) d.line o ≡ step_reply.Done serial line fault
    → (reply_to_undo r (history_with h (entry_for h.made l d) o) l.worker ≡ Undone serial line)
    × (after_undo r (history_with h (entry_for h.made l d) o) l.worker
    ≡ record { entries = h.entries; made = h.made + 1 })
by_outcome r h l d (outcome.Updates us) serial line fault e =
    let s : h.made + 1 ≡ serial = cc in
    let n : d.line ≡ line = cc in (
      undo-push r h.entries (entry_for h.made l d) (h.made + 1)
          ∙ (λ i. Undone (s i) (n i)),
      after-push r h.entries (entry_for h.made l d) (h.made + 1),
    )
by_outcome r h l d (outcome.Blocked b) serial line fault e = cc
by_outcome r h l d outcome.Ended serial line fault e = cc

pub step_undone : (r : Rules) (h : History) (l : Label) (serial line : ℕ) (fault : Option Fault)
    → reply_to_step r h l ≡ step_reply.Done serial line fault → Undoes r h l serial line
step_undone r h l serial line fault e =
    let d : Step = step_at r (state_of_entries r h.entries) l in
    let both = by_outcome r h l d d.outcome serial line fault e in
    record { reply = both.0; after = both.1 }
