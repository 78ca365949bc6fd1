-- Runs: what lists of commands leave, and what is true of it.
use Rattle.std.specs.Prelude.{◌≡◌, ◌≢◌, Some, List, [], ◌∷◌, map, ℕ, ◌<◌, ◌≤◌, All, Contains, ◌↔◌}
use Rattle.om_state.specs.declared.step.Label.{Label}
use Rattle.om_state.specs.declared.step.Entry.{Entry}
use Rattle.om_state.specs.State.{State}
use Rattle.om_state.specs.Rules.{Rules, replay}
use Rattle.om_undo_history.specs.declared.reply.Taken.{Taken}
use Rattle.om_undo_history.specs.declared.reply.UndoReply.TheVariants.{Undone}
use Rattle.om_undo_history.specs.Runs.{History, no_history, label_of, after_step, reply_to_undo, after_undo}
use Rattle.om_undo_history.specs.Cones.{Transition, transitions, InCone, cone, taken_by_roll, after_roll}

-- what the debugger is told to do: a worker's step, a worker's undo, or a roll of the entry with a serial
pub data Command : Type 0 where
  ToStep : Label → Command
  ToUndo : ℕ → Command
  ToRoll : ℕ → Command

abbrev pub after_command : Rules → History → Command → History
after_command r h (ToStep l) = after_step r h l
after_command r h (ToUndo w) = after_undo r h w
after_command r h (ToRoll serial) = after_roll r h serial

-- what a list of commands leaves
abbrev pub run : Rules → History → List Command → History
run r h [] = h
run r h (c ∷ cs) = run r (after_command r h c) cs

-- a history is what some commands leave
pub record IsRun (r : Rules) (h : History) : Type 0 where
  pub commands : List Command
  pub is : run r no_history commands ≡ h

-- the entries can be made in turn from the start
pub record IsReplayed (r : Rules) (es : List Entry) : Type 0 where
  pub state : State
  pub replayed : replay r (map label_of es) ≡ Some state

-- after any steps, undos and rolls, by any workers in any interleaving, the entries that remain can be made in turn
-- from the start
abbrev pub RemainingSteps : Type 0
RemainingSteps = (r : Rules) (cs : List Command) → IsReplayed r (run r no_history cs).entries

-- serials rise from above one number to another at most
abbrev pub Rise : ℕ → List Entry → ℕ → Type 0
Rise low [] high = low ≤ high
Rise low (e ∷ es) high = (low < e.serial) × Rise e.serial es high

-- after any run the serials of the entries rise, and are at most the number of steps ever made
abbrev pub SerialsRise : Type 0
SerialsRise = (r : Rules) (cs : List Command) → Rise 0 (run r no_history cs).entries (run r no_history cs).made

-- after any run two entries with one serial are the same entry
abbrev pub SerialsIdentify : Type 0
SerialsIdentify = (r : Rules) (cs : List Command) (a b : Entry) → Contains (run r no_history cs).entries a
    → Contains (run r no_history cs).entries b → a.serial ≡ b.serial → a ≡ b

-- after any run the list of what a roll takes out is the cone
abbrev pub RollIsCone : Type 0
RollIsCone = (r : Rules) (cs : List Command) (serial : ℕ) (t : Transition)
    → let ts = transitions r (run r no_history cs).entries in Contains (cone serial ts) t ↔ InCone ts serial t

-- no entry has this serial
abbrev pub IsGone : ℕ → History → Type 0
IsGone serial h = All (λ (e : Entry). e.serial ≢ serial) h.entries

-- of the entries that stood those are gone, by their serials, that are members of the cone of the entry with a
-- serial, and no others
abbrev pub TakesCone : Rules → History → ℕ → History → Type 0
TakesCone r h serial after = let ts = transitions r h.entries in (t : Transition) → Contains ts t
    → (IsGone t.entry.serial after ↔ InCone ts serial t)

-- after any run, of the entries that stood, a roll takes out the cone and no others. That no entry comes, and that
-- the others keep their order, follows from `RollIsUndos`
abbrev pub RollTakesCone : Type 0
RollTakesCone = (r : Rules) (cs : List Command) (serial : ℕ)
    → let h = run r no_history cs in TakesCone r h serial (after_roll r h serial)

-- undos of the workers of these, in this order: each takes out the very entry, and they end at the last history
abbrev pub UndosTo : Rules → History → List Taken → History → Type 0
UndosTo r h [] last = h ≡ last
UndosTo r h (t ∷ ts) last = (reply_to_undo r h t.worker ≡ Undone t.serial t.line) × UndosTo r
    (after_undo r h t.worker) ts last

-- after any run a roll is the list of undos of its members' workers, latest first
abbrev pub RollIsUndos : Type 0
RollIsUndos = (r : Rules) (cs : List Command) (serial : ℕ)
    → let h = run r no_history cs in UndosTo r h (taken_by_roll r h serial) (after_roll r h serial)

-- what undos of the workers of these leave, in this order, whatever each replies
abbrev pub undone_by : Rules → History → List Taken → History
undone_by r h [] = h
undone_by r h (t ∷ ts) = undone_by r (after_undo r h t.worker) ts

-- after any run: undos, without steps between, after which an entry is gone, have taken out every member of its cone
abbrev pub Least : Type 0
Least = (r : Rules) (cs : List Command) (ws : List ℕ) (serial : ℕ) (t : Transition)
    → let h = run r no_history cs in let after = run r h (map ToUndo ws) in
    IsGone serial after → InCone (transitions r h.entries) serial t → IsGone t.entry.serial after
