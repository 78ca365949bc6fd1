-- Undo records against the replay of their entries.
use Rattle.std.specs.Prelude.{◌≡◌, ◌≢◌, Bool, true, false, cond, nat_eq, Option, None, Some, List, [], ◌∷◌, map, All, ℕ, ◌+◌, ◌<◌}
use Rattle.std.specs.Prelude.{drop, reverse, slice_get, remove}
use Rattle.std.specs.List.{AllByRecursion}
use Rattle.om_foot.specs.declared.object.Obj.{Obj}
use Rattle.om_foot.specs.declared.footprint.Access.{Access}
use Rattle.om_foot.specs.Footprint.{conflict_of}
use Rattle.om_state.specs.declared.step.Update.{Update}
use Rattle.om_state.specs.declared.step.Step.{Step}
use Rattle.om_state.specs.declared.step.Entry.{Entry}
use Rattle.om_state.specs.State.{State, undo_record}
use Rattle.om_state.specs.Rules.{Rules, step_at, next_state}
use Rattle.om_memory.specs.declared.memory.Memory.{Memory}
use Rattle.om_memory.specs.Memories.{is_kept}
use Rattle.om_undo_history.specs.declared.records.UndoRecord.{UndoRecord}
use Rattle.om_undo_history.specs.declared.reply.Taken.{Taken}
use Rattle.om_undo_history.specs.declared.reply.UndoReply.{UndoReply}
use Rattle.om_undo_history.specs.declared.reply.UndoReply.TheVariants.{Undone, Conflict, Nothing}
use Rattle.om_undo_history.specs.Laws.{updates_of}
use Rattle.om_undo_history.specs.Runs.{label_of}
use Rattle.om_undo_history.specs.Cones.{Transition, cone, taken_of}

abbrev pub entries_of : List UndoRecord → List Entry
entries_of ks = map (λ (k : UndoRecord). k.entry) ks

abbrev pub transition_of : UndoRecord → Transition
transition_of k = record { entry = k.entry; footprint = k.footprint }

abbrev pub transitions_of : List UndoRecord → List Transition
transitions_of ks = map transition_of ks

-- what takes a step's updates back: old values where it puts, numbers where it adds, lengths where it appends
abbrev pub back_of : Step → State → List Update
back_of d s = undo_record d.footprint (updates_of d.outcome) s

-- an undo record is right for a step at a state
pub record IsRight (d : Step) (s : State) (k : UndoRecord) : Type 0 where
  pub footprint : k.footprint ≡ d.footprint
  pub back : k.back ≡ back_of d s
  pub line : k.entry.line ≡ d.line

-- the entries can be made in turn from s, the record of each is right there, and they end at `now`
abbrev pub ReplaysTo : Rules → State → List UndoRecord → State → Type 0
ReplaysTo r s [] now = s ≡ now
ReplaysTo r s (k ∷ ks) now = (t : State) × (next_state r s (label_of k.entry) ≡ Some t) × IsRight
    (step_at r s (label_of k.entry)) s k × ReplaysTo r t ks now

-- what names the cone of the entry with a serial, in order
abbrev pub cone_in : ℕ → List UndoRecord → List Taken
cone_in serial ks = map taken_of (cone serial (transitions_of ks))

-- and what a roll takes out, the latest first
abbrev pub roll_in : ℕ → List UndoRecord → List Taken
roll_in serial ks = map taken_of (reverse (cone serial (transitions_of ks)))

-- a store keeps the objects of these accesses
abbrev pub Keeps : Memory → List Access → Type 0
Keeps store footprint = All (λ a. is_kept store a.object ≡ true) footprint

-- and those of a record
abbrev pub HasRoom : Memory → UndoRecord → Type 0
HasRoom store k = Keeps store k.footprint

-- the reply that names an entry, and the object at which it conflicts, else the other reply
abbrev pub conflict_or : Entry → Option Obj → UndoReply → UndoReply
conflict_or e (Some q) otherwise = Conflict e.serial e.worker q
conflict_or e None otherwise = otherwise

-- the reply that names the first record that conflicts with a footprint, else the other reply
abbrev pub first_kept_conflict : List Access → List UndoRecord → UndoReply → UndoReply
first_kept_conflict footprint [] otherwise = otherwise
first_kept_conflict footprint (k ∷ ks) otherwise = conflict_or k.entry (conflict_of footprint k.footprint)
    (first_kept_conflict footprint ks otherwise)

abbrev pub reply_before : Option UndoRecord → List UndoRecord → UndoReply
reply_before None later = Nothing
reply_before (Some k) later = first_kept_conflict k.footprint later (Undone k.entry.serial k.entry.line)

-- what an undo of the entry at an index replies
abbrev pub kept_reply : List UndoRecord → ℕ → UndoReply
kept_reply ks i = reply_before (slice_get ks i) (drop (i + 1) ks)

-- a reply refuses an undo for another record: the two conflict, and it names that one and the first object at which
-- they do
abbrev pub Refuses : UndoRecord → UndoReply → UndoRecord → Type 0
Refuses undone reply made = (q : Obj) × (conflict_of undone.footprint made.footprint ≡ Some q)
    × (reply ≡ Conflict made.entry.serial made.entry.worker q)

abbrev pub is_undone : UndoReply → Bool
is_undone (Undone serial line) = true
is_undone (Conflict serial worker q) = false
is_undone Nothing = false

-- the record at an index is the worker's last
pub record IsLastOf (w : ℕ) (ks : List UndoRecord) (i : ℕ) (k : UndoRecord) : Type 0 where
  pub at : slice_get ks i ≡ Some k
  pub own : k.entry.worker ≡ w
  pub none_later : All (λ (x : UndoRecord). x.entry.worker ≢ w) (drop (i + 1) ks)

-- the worker's last record has this serial
pub record LastHasSerial (w : ℕ) (ks : List UndoRecord) (serial : ℕ) : Type 0 where
  pub i : ℕ
  pub made : UndoRecord
  pub is_last : IsLastOf w ks i made
  pub serial_is : made.entry.serial ≡ serial

-- one of the records has this serial
abbrev pub HasSerial : ℕ → List UndoRecord → Type 0
HasSerial serial ks = (i : ℕ) × (k : UndoRecord) × (slice_get ks i ≡ Some k) × (k.entry.serial ≡ serial)

-- the record with this serial, where one has it
abbrev pub record_with : ℕ → List UndoRecord → Option UndoRecord
record_with serial [] = None
record_with serial (k ∷ ks) = cond (nat_eq k.entry.serial serial) (Some k) (record_with serial ks)

-- something is so of the record with a serial, and of its index
abbrev pub OfSerial : ℕ → List UndoRecord → (ℕ → UndoRecord → Type 0) → Type 0
OfSerial serial ks P = (i : ℕ) (k : UndoRecord) → slice_get ks i ≡ Some k → k.entry.serial ≡ serial → P i k

-- this is the record with a serial
abbrev pub IsOfSerial : ℕ → List UndoRecord → UndoRecord → Type 0
IsOfSerial serial ks x = OfSerial serial ks (λ i k. x ≡ k)

-- the record with a serial is gone, and no other one
abbrev pub LosesSerial : ℕ → List UndoRecord → List UndoRecord → Type 0
LosesSerial serial old new = OfSerial serial old (λ i k. new ≡ remove old i)

-- what an undo of the record with a serial replies
abbrev pub RepliesToUndo : ℕ → List UndoRecord → UndoReply → Type 0
RepliesToUndo serial ks reply = OfSerial serial ks (λ i k. reply ≡ kept_reply ks i)

-- an undo of the record with a serial is done, and has this line
abbrev pub CanUndo : ℕ → List UndoRecord → ℕ → Type 0
CanUndo serial ks line = OfSerial serial ks (λ i k. kept_reply ks i ≡ Undone serial line)

-- all serials are below one, or above
abbrev pub AreBelow : ℕ → List UndoRecord → Type 0
AreBelow serial ks = AllByRecursion (λ (k : UndoRecord). k.entry.serial < serial) ks

abbrev pub AreAbove : ℕ → List UndoRecord → Type 0
AreAbove serial ks = AllByRecursion (λ (k : UndoRecord). serial < k.entry.serial) ks
