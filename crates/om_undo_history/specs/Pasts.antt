-- What contracts see of a history that is kept, and what is true of it under rules.
use Rattle.std.specs.Prelude.{◌≡◌, Some, All, List, map, ℕ, ◌≤◌, ◌^◌, length}
use Rattle.om_foot.specs.declared.object.Obj.TheVariants as obj
use Rattle.om_state.specs.declared.step.Change.{Change}
use Rattle.om_state.specs.declared.step.Label.{Label}
use Rattle.om_state.specs.declared.step.Step.{Step}
use Rattle.om_state.specs.Changes.{step_of}
use Rattle.om_state.specs.Edits.{HaveRoom}
use Rattle.om_state.specs.State.{State}
use Rattle.om_state.specs.Values.{control_in}
use Rattle.om_state.specs.Rules.{Rules, step_at, replay}
use Rattle.om_memory.specs.declared.memory.Memory.{Memory}
use Rattle.om_memory.specs.Memories.{state_of, pasts_of}
use Rattle.om_undo_history.specs.declared.records.UndoRecord.{UndoRecord}
use Rattle.om_undo_history.specs.declared.history.History.{History}
use Rattle.om_undo_history.specs.declared.reply.StepReply.{StepReply}
use Rattle.om_undo_history.specs.declared.reply.RollReply.{RollReply}
use Rattle.om_undo_history.specs.declared.reply.RollReply.TheVariants.{NoEntry}
use Rattle.om_undo_history.specs.declared.reply.Taken.{Taken}
use Rattle.om_undo_history.specs.Runs.{History as Entries, label_of, reply_to_step, after_step}
use Rattle.om_undo_history.specs.Cones.{taken_by_roll, after_roll}
use Rattle.om_undo_history.specs.Records.{entries_of, ReplaysTo, HasRoom}
use Rattle.om_undo_history.specs.Commands.{IsRun, Rise, TakesCone, IsGone}
use Rattle.om_undo_history.specs.Bounds.{IsSteady}
use Rattle.om_undo_history.specs.Shapes.{IsShaped}
use Rattle.om_undo_history.specs.Fills.{full_all, marked_back, AreMarked}

-- the state, the undo records of the entries that stand, and how many steps were ever made
pub record Past : Type 0 where
  pub state : State
  pub records : List UndoRecord
  pub made : ℕ

-- the entries that stand, and how many steps were ever made
abbrev pub entries_in : Past → Entries
entries_in past = record { entries = entries_of past.records; made = past.made }

-- under these rules some commands led to a past
pub record IsPast (r : Rules) (past : Past) : Type 0 where
  pub steady : IsSteady r
  pub shaped : IsShaped r
  -- the state is the replay of the entries, and each undo record is right at its place
  pub replays : ReplaysTo r r.start past.records past.state
  -- so that what is true after every run is true of the entries
  pub reached : IsRun r (entries_in past)
  -- (this follows from `reached`)
  pub few : length past.records ≤ past.made

-- what a store and its records are, as a past
abbrev pub past_of : Memory → List UndoRecord → ℕ → Past
past_of store records made = record { state = state_of store; records = records; made = made }

-- what is true of a store and its small records under rules
pub record IsKept (r : Rules) (store : Memory) (records : List UndoRecord) (made : ℕ) : Type 0 where
  -- the objects of each footprint are kept, so that an undo takes no memory
  pub rooms : All (λ k. HasRoom store k) records
  -- where a record takes a control back, it has a mark
  pub marked : All (λ (k : UndoRecord). AreMarked k.footprint (marked_back k)) records
  pub few_made : made ≤ 2 ^ 63
  pub past : IsPast r (past_of store (full_all (pasts_of store) records) made)

-- the past that a history holds, with the undo records that its small ones stand for, and its entries
abbrev pub past_in : History → Past
past_in h = past_of h.store (full_all (pasts_of h.store) h.records) h.made

abbrev pub history_in : History → Entries
history_in h = entries_in (past_in h)

-- a history under rules: what every call keeps
abbrev pub IsHeld : Rules → History → Type 0
IsHeld r h = IsKept r h.store h.records h.made

-- it is held under all rules that start at this state, are steady and put controls where controls stand
abbrev pub IsHeldFrom : State → History → Type 0
IsHeldFrom s h = (r : Rules) → IsSteady r → IsShaped r → r.start ≡ s → IsHeld r h

-- whatever rules a history is held under, this state is the replay of its entries
abbrev pub IsReplay : History → State → Type 0
IsReplay h s = (r : Rules) → IsHeld r h → replay r (map label_of (history_in h).entries) ≡ Some s

-- and its serials rise, to the number of steps ever made at most
abbrev pub AreNumbered : History → Type 0
AreNumbered h = (r : Rules) → IsHeld r h → Rise 0 (history_in h).entries (history_in h).made

-- whatever rules a history is held under, this is what they reply
abbrev pub Replies : {A : Type 0} → (Rules → Entries → A) → History → A → Type 0
Replies reply h it = (r : Rules) → IsHeld r h → it ≡ reply r (history_in h)

-- whatever rules a history is held under, the next one is too, and its entries follow by a change
abbrev pub Becomes : (Rules → Entries → Entries) → History → History → Type 0
Becomes change old new = (r : Rules) → IsHeld r old → (history_in new ≡ change r (history_in old)) × IsHeld r new

-- nothing changes that contracts see
abbrev pub Stays : History → History → Type 0
Stays old new = (past_in new ≡ past_in old) × ((r : Rules) → IsHeld r old → IsHeld r new)

-- the step that a change of a label's worker stands for
abbrev pub step_for : Label → Change → History → Step
step_for label change h = step_of (control_in ((past_in h).state (obj.Control label.worker))) change

-- rules under which a history is held, and a step that is planned by them
abbrev pub IsPlanned : Rules → History → Label → Step → Type 0
IsPlanned r h label step = IsHeld r h × (step ≡ step_at r (past_in h).state label)

-- what a planned step replies, and what it leaves
abbrev pub RepliesToStep : Label → Step → History → StepReply → Type 0
RepliesToStep label step h reply = (r : Rules) → IsPlanned r h label step
    → reply ≡ reply_to_step r (history_in h) label

abbrev pub TakesStep : Label → Step → History → History → Type 0
TakesStep label step old new = (r : Rules) → IsPlanned r old label step
    → (history_in new ≡ after_step r (history_in old) label) × IsHeld r new

-- the step of a change is planned, under rules under which a history is held
abbrev pub IsPlannedChange : Label → Change → History → Type 0
IsPlannedChange label change h = (r : Rules) × IsPlanned r h label (step_for label change h)

-- a worker's control has room for the edits of a change
abbrev pub HasRoomFor : ℕ → Change → History → Type 0
HasRoomFor worker change h = HaveRoom change.edits (control_in ((past_in h).state (obj.Control worker)))

-- what a planned change replies
abbrev pub RepliesToChange : Label → Change → History → StepReply → Type 0
RepliesToChange label change h reply = RepliesToStep label (step_for label change h) h reply

-- what it replies, whatever the choice of its worker's step is
abbrev pub RepliesToWorker : ℕ → Change → History → StepReply → Type 0
RepliesToWorker worker change h reply = (label : Label) → label.worker ≡ worker → RepliesToChange label change h reply

-- and what it leaves
abbrev pub TakesChange : Label → Change → History → History → Type 0
TakesChange label change old new = TakesStep label (step_for label change old) old new

-- no entry of a history has this serial
abbrev pub HasNoEntry : ℕ → History → Type 0
HasNoEntry serial h = IsGone serial (history_in h)

-- these are what a roll would take out
abbrev pub AreRolled : ℕ → History → List Taken → Type 0
AreRolled serial h taken = Replies (λ r x. taken_by_roll r x serial) h taken

-- where these are what a roll takes out, they are taken out
abbrev pub TakesOut : List Taken → History → History → Type 0
TakesOut taken old new = (serial : ℕ) (r : Rules) → IsHeld r old → taken ≡ taken_by_roll r (history_in old) serial
    → (history_in new ≡ after_roll r (history_in old) serial) × IsHeld r new

-- a roll of no entry changes nothing that contracts see
abbrev pub StaysIfNone : History → History → RollReply → Type 0
StaysIfNone old new reply = reply ≡ NoEntry → Stays old new

-- a roll takes the cone out and nothing else
abbrev pub TakesItsCone : ℕ → History → History → Type 0
TakesItsCone serial old new = (r : Rules) → IsHeld r old → TakesCone r (history_in old) serial (history_in new)
