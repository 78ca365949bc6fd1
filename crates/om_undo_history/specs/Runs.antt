-- Histories, and what steps and undos reply and leave: the definition of a run. It is written as functions. `Undos` says
-- as relations when an undo is done, when it is refused and when it has nothing to take out: read that first. What an
-- undo leaves is `history_without`: the entries before and behind the one that is taken out.
use Rattle.std.specs.Prelude.{◌≡◌, ◌==◌, Bool, true, false, Option, None, Some, List, [], ◌∷◌, ◌++◌, map, ℕ, ◌+◌}
use Rattle.std.specs.Prelude.{option_map, unwrap_or}
use Rattle.std.specs.Option.{option_or}
use Rattle.om_foot.specs.declared.object.Obj.{Obj}
use Rattle.om_foot.specs.declared.footprint.Access.{Access}
use Rattle.om_foot.specs.Footprint.{conflict_of}
use Rattle.om_code.specs.declared.frame.Fault.{Fault}
use Rattle.om_state.specs.declared.control.Control.TheVariants.{Faulted}
use Rattle.om_state.specs.declared.value.Val.TheVariants as value
use Rattle.om_state.specs.declared.step.Update.{Update}
use Rattle.om_state.specs.declared.step.Update.TheVariants.{Put}
use Rattle.om_state.specs.declared.step.Outcome.{Outcome}
use Rattle.om_state.specs.declared.step.Outcome.TheVariants as outcome
use Rattle.om_state.specs.declared.step.Label.{Label}
use Rattle.om_state.specs.declared.step.Step.{Step}
use Rattle.om_state.specs.declared.step.Entry.{Entry}
use Rattle.om_state.specs.State.{State}
use Rattle.om_state.specs.Rules.{Rules, step_at, next_state, replay}
use Rattle.om_undo_history.specs.declared.reply.StepReply.{StepReply}
use Rattle.om_undo_history.specs.declared.reply.StepReply.TheVariants as step_reply
use Rattle.om_undo_history.specs.declared.reply.UndoReply.{UndoReply}
use Rattle.om_undo_history.specs.declared.reply.UndoReply.TheVariants.{Undone, Conflict, Nothing}

-- the entries that stand, in order, and how many steps were ever made
pub record History : Type 0 where
  pub entries : List Entry
  pub made : ℕ

-- before the first step
abbrev pub no_history : History
no_history = record { entries = []; made = 0 }

abbrev pub label_of : Entry → Label
label_of e = record { worker = e.worker; choice = e.choice }

-- the state where these entries stand: their replay, which `RemainingSteps` says is there after every run
abbrev pub state_of_entries : Rules → List Entry → State
state_of_entries r es = unwrap_or (replay r (map label_of es)) r.start

-- the fault that a step's worker came to: its control is the first object of a footprint
abbrev pub fault_of : List Update → Option Fault
fault_of (Put (value.Control (Faulted fault stack)) ∷ us) = Some fault
fault_of _ = None

-- the entry of a step where `made` others were made before; its serial is one above them
abbrev pub entry_for : ℕ → Label → Step → Entry
entry_for made l d = record { serial = made + 1; worker = l.worker; choice = l.choice; line = d.line }

-- what a step replies, by its serial, its line and what comes of it
abbrev pub reply_for : ℕ → ℕ → Outcome → StepReply
reply_for serial line (outcome.Updates us) = step_reply.Done serial line (fault_of us)
reply_for serial line (outcome.Blocked b) = step_reply.Blocked b
reply_for serial line outcome.Ended = step_reply.Ended

-- only updates add an entry
abbrev pub history_with : History → Entry → Outcome → History
history_with h e (outcome.Updates us) = record { entries = h.entries ++ e ∷ []; made = h.made + 1 }
history_with h e (outcome.Blocked b) = h
history_with h e outcome.Ended = h

-- what a step replies, at the replay of the entries
abbrev pub reply_to_step : Rules → History → Label → StepReply
reply_to_step r h l = let d = step_at r (state_of_entries r h.entries) l in reply_for (h.made + 1) d.line d.outcome

-- what a step leaves
abbrev pub after_step : Rules → History → Label → History
after_step r h l = let d = step_at r (state_of_entries r h.entries) l in history_with h
    (entry_for h.made l d) d.outcome

-- an entry, with those before it and those after it
pub record Place : Type 0 where
  pub earlier : List Entry
  pub entry : Entry
  pub later : List Entry

abbrev pub place_behind : Entry → Place → Place
place_behind e p = record p { earlier = e ∷ p.earlier }

-- the place found in the rest, else that of the first entry, if it is the worker's
abbrev pub last_or_first : Option Place → Bool → Entry → List Entry → Option Place
last_or_first (Some p) is_own e es = Some (place_behind e p)
last_or_first None true e es = Some (record { earlier = []; entry = e; later = es })
last_or_first None false e es = None

-- a worker's last entry: that of the rest, else the first one, if it is the worker's
abbrev pub last_place : ℕ → List Entry → Option Place
last_place w [] = None
last_place w (e ∷ es) = last_or_first (last_place w es) (e.worker == w) e es

-- the state after a step that can be made
abbrev pub state_after_step : Rules → State → Label → State
state_after_step r s l = unwrap_or (next_state r s l) s

-- what stands in the way of an undo: a later entry, and the first object at which the two conflict
pub record Obstacle : Type 0 where
  pub entry : Entry
  pub object : Obj

-- the first of the entries from a state that conflicts with a footprint
abbrev pub first_conflict : Rules → List Access → State → List Entry → Option Obstacle
first_conflict r footprint s [] = None
first_conflict r footprint s (e ∷ es) =
    option_or
    (option_map (λ q. record { entry = e; object = q }) (conflict_of footprint (step_at r s (label_of e)).footprint))
    (first_conflict r footprint (state_after_step r s (label_of e)) es)

-- what an undo of an entry replies: it names what stands in the way, or else the entry is undone
unfoldable pub reply_against : Entry → Option Obstacle → UndoReply
reply_against e (Some it) = Conflict it.entry.serial it.entry.worker it.object
reply_against e None = Undone e.serial e.line

-- what an undo replies that would take the entry of this place out
abbrev pub reply_at : Rules → Option Place → UndoReply
reply_at r None = Nothing
reply_at r (Some p) =
    let s = state_of_entries r p.earlier in
    reply_against p.entry
    (first_conflict r (step_at r s (label_of p.entry)).footprint (state_after_step r s (label_of p.entry)) p.later)

-- what an undo replies: it takes the worker's last entry out, unless a later one conflicts with it
abbrev pub reply_to_undo : Rules → History → ℕ → UndoReply
reply_to_undo r h w = reply_at r (last_place w h.entries)

-- only Undone takes an entry out; the number of steps ever made stays
abbrev pub history_without : History → Option Place → UndoReply → History
history_without h (Some p) (Undone serial line) = record { entries = p.earlier ++ p.later; made = h.made }
history_without h _ _ = h

-- what an undo leaves
abbrev pub after_undo : Rules → History → ℕ → History
after_undo r h w = history_without h (last_place w h.entries) (reply_to_undo r h w)

-- a step that is done, and then an undo of its worker: it takes that very step out, and changes nothing else but the
-- number of steps ever made; at any history, also one that no commands led to
pub record Undoes (r : Rules) (h : History) (l : Label) (serial line : ℕ) : Type 0 where
  pub reply : reply_to_undo r (after_step r h l) l.worker ≡ Undone serial line
  pub after : after_undo r (after_step r h l) l.worker ≡ record { entries = h.entries; made = h.made + 1 }

abbrev pub StepThenUndo : Type 0
StepThenUndo = (r : Rules) (h : History) (l : Label) (serial line : ℕ) (fault : Option Fault)
    → reply_to_step r h l ≡ step_reply.Done serial line fault → Undoes r h l serial line
