-- A record is right for the entry that stands with its serial.
use Rattle.std.proofs.Common.{◌≡◌, refl, sym, ◌∙◌, ap, Bool, true, false, cond, nat_eq, ℕ, Option, None, Some, List, []}
use Rattle.std.proofs.Common.{◌∷◌}
use Rattle.std.specs.Prelude.{option_map, unwrap_or}
use Rattle.om_foot.specs.declared.footprint.Access.{Access}
use Rattle.om_state.specs.State.{State}
use Rattle.om_state.specs.Rules.{Rules, step_at}
use Rattle.om_memory.specs.Memories.{Pasts, pasts_of}
use Rattle.om_undo_history.specs.declared.history.History as kept
use Rattle.om_undo_history.specs.declared.records.UndoRecord.{UndoRecord}
use Rattle.om_undo_history.specs.Fills.{full, full_all, before_all}
use Rattle.om_undo_history.specs.Pasts.{history_in, IsHeld}
use Rattle.om_undo_history.specs.Records.{entries_of, record_with, ReplaysTo}
use Rattle.om_undo_history.specs.Runs.{label_of, state_after_step}
use Rattle.om_undo_history.specs.Standing.{footprint_of, footprint_with, standing_from, stands}
use Rattle.om_undo_history.proofs.Replies.{footprint_of as touched_by}

-- a full record has the footprint of the small one
full_with : (serial : ℕ) (ps : Pasts) (ks : List UndoRecord)
    → option_map touched_by (record_with serial (full_all ps ks)) ≡ option_map touched_by (record_with serial ks)
full_with serial ps [] = refl
full_with serial ps (k ∷ ks) = go (nat_eq k.entry.serial serial) (full_with serial ps ks)
  where
    go : (b : Bool)
        → option_map touched_by (record_with serial (full_all ps ks)) ≡ option_map touched_by (record_with serial ks)
        → option_map touched_by (cond b (Some (full (before_all ps ks) k)) (record_with serial (full_all ps ks)))
        ≡ option_map touched_by (cond b (Some k) (record_with serial ks))
    go true rest = refl
    go false rest = rest

-- the record with a serial has the footprint of the step whose entry has it
with_serial : (r : Rules) (s : State) (serial : ℕ) (ks : List UndoRecord) (now : State) → ReplaysTo r s ks now
    → option_map touched_by (record_with serial ks)
    ≡ option_map (footprint_of r) (standing_from r s serial (entries_of ks))
with_serial r s serial [] now h = refl
with_serial r s serial (k ∷ ks) now h =
    go (nat_eq k.entry.serial serial) (with_serial r h.0 serial ks now h.3)
    ∙ ap (λ t. option_map (footprint_of r) (cond (nat_eq k.entry.serial serial)
    (Some (stands k.entry s)) (standing_from r t serial (entries_of ks))))
    (sym (ap (λ o. unwrap_or o s) h.1))
  where
    go : (b : Bool)
        → option_map touched_by (record_with serial ks)
        ≡ option_map (footprint_of r) (standing_from r h.0 serial (entries_of ks))
        → option_map touched_by (cond b (Some k) (record_with serial ks))
        ≡ option_map (footprint_of r) (cond b (Some (stands k.entry s))
        (standing_from r h.0 serial (entries_of ks)))
    go true rest = ap Some h.2.footprint
    go false rest = rest

-- so has a small record of a history
pub footprint_with-is : (r : Rules) (h : kept.History) (serial : ℕ) → IsHeld r h
    → option_map touched_by (record_with serial h.records) ≡ footprint_with r (history_in h) serial
footprint_with-is r h serial held =
    sym (full_with serial (pasts_of h.store) h.records)
    ∙ with_serial r r.start serial (full_all (pasts_of h.store) h.records) _ held.past.replays

-- with a record there is a footprint, and without one there is none
pub some_footprint : (r : Rules) (h : kept.History) (serial : ℕ) (k : UndoRecord) (footprint : List Access)
    → IsHeld r h → record_with serial h.records ≡ Some k → footprint ≡ k.footprint
    → Some footprint ≡ footprint_with r (history_in h) serial
some_footprint r h serial k footprint held there is =
    ap Some is ∙ sym (ap (option_map touched_by) there) ∙ footprint_with-is r h serial held

pub no_footprint : (r : Rules) (h : kept.History) (serial : ℕ) → IsHeld r h → record_with serial h.records ≡ None
    → None ≡ footprint_with r (history_in h) serial
no_footprint r h serial held missing =
    sym (ap (option_map touched_by) missing) ∙ footprint_with-is r h serial held
