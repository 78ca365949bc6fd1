-- Exactly where an undo is done, is refused, and has nothing to take out.
use Rattle.std.specs.Prelude.{◌≡◌, ◌≢◌, ◌↔◌, Some, List, ◌∷◌, ◌++◌, ℕ, All}
use Rattle.om_foot.specs.declared.object.Obj.{Obj}
use Rattle.om_foot.specs.Footprint.{conflict_of}
use Rattle.om_state.specs.Rules.{Rules}
use Rattle.om_undo_history.specs.declared.reply.UndoReply.TheVariants.{Undone, Conflict, Nothing}
use Rattle.om_undo_history.specs.Laws.{Apart}
use Rattle.om_undo_history.specs.Runs.{History, no_history, reply_to_undo}
use Rattle.om_undo_history.specs.Cones.{Transition, transitions}
use Rattle.om_undo_history.specs.Commands.{Command, run}

-- none of these is a worker's
abbrev pub HasNone : ℕ → List Transition → Type 0
HasNone w ts = All (λ (t : Transition). t.entry.worker ≢ w) ts

-- a transition conflicts with none of these
abbrev pub IsFree : Transition → List Transition → Type 0
IsFree e ts = All (λ (t : Transition). Apart e.footprint t.footprint) ts

-- a worker's last transition, between what stands before it and what stands later
pub record IsLast (w : ℕ) (ts before : List Transition) (e : Transition) (later : List Transition) : Type 0 where
  pub place : ts ≡ before ++ e ∷ later
  pub own : e.entry.worker ≡ w
  pub last : HasNone w later

-- no later transition conflicts with the worker's last one, which has this serial and line
pub record IsUndoable (w : ℕ) (ts : List Transition) (serial line : ℕ) : Type 0 where
  pub before : List Transition
  pub e : Transition
  pub later : List Transition
  pub last : IsLast w ts before e later
  pub free : IsFree e later
  pub serial_is : e.entry.serial ≡ serial
  pub line_is : e.entry.line ≡ line

-- the first later transition that conflicts with the worker's last one has this serial and is this other worker's; q is
-- the first object of the last one's footprint at which the two conflict
pub record IsRefused (w : ℕ) (ts : List Transition) (serial worker : ℕ) (q : Obj) : Type 0 where
  pub before : List Transition
  pub e : Transition
  pub between : List Transition
  pub k : Transition
  pub rest : List Transition
  pub last : IsLast w ts before e (between ++ k ∷ rest)
  pub free : IsFree e between
  pub conflict : conflict_of e.footprint k.footprint ≡ Some q
  pub serial_is : k.entry.serial ≡ serial
  pub worker_is : k.entry.worker ≡ worker

-- what an undo replies, by where the worker's last transition stands
pub record UndoReplies (r : Rules) (h : History) (w : ℕ) : Type 0 where
  pub refused : (serial worker : ℕ) (q : Obj)
      → (reply_to_undo r h w ≡ Conflict serial worker q) ↔ IsRefused w (transitions r h.entries) serial worker q
  pub undone : (serial line : ℕ)
      → (reply_to_undo r h w ≡ Undone serial line) ↔ IsUndoable w (transitions r h.entries) serial line
  pub nothing : (reply_to_undo r h w ≡ Nothing) ↔ HasNone w (transitions r h.entries)

-- after any run an undo is done, is refused and has nothing to undo exactly where `UndoReplies` says
abbrev pub ExactlyWhere : Type 0
ExactlyWhere = (r : Rules) (cs : List Command) (w : ℕ) → UndoReplies r (run r no_history cs) w
