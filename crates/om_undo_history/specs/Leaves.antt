-- What each step and each undo leaves. A step that is made adds its entry behind the others. An undo that is
-- done takes the worker's last entry out. One that is not done changes nothing. Each entry that stands stays the
-- same step. A roll is a list of undos (`RollIsUndos`).
use Rattle.std.specs.Prelude.{◌≡◌, Bool, true, false, Option, List, [], ◌∷◌, ◌++◌, map, ℕ, ◌+◌}
use Rattle.om_code.specs.declared.frame.Fault.{Fault}
use Rattle.om_state.specs.declared.step.Label.{Label}
use Rattle.om_state.specs.declared.step.Step.{Step}
use Rattle.om_state.specs.declared.step.Entry.{Entry}
use Rattle.om_state.specs.Rules.{Rules}
use Rattle.om_undo_history.specs.declared.reply.StepReply.{StepReply}
use Rattle.om_undo_history.specs.declared.reply.StepReply.TheVariants as step_reply
use Rattle.om_undo_history.specs.Laws.{steps_from}
use Rattle.om_undo_history.specs.Records.{is_undone}
use Rattle.om_undo_history.specs.Runs.{History, no_history, label_of, reply_to_step, after_step, reply_to_undo, after_undo}
use Rattle.om_undo_history.specs.Cones.{Transition, transitions}
use Rattle.om_undo_history.specs.Undos.{IsLast, IsFree}
use Rattle.om_undo_history.specs.Commands.{Command, run}

abbrev pub is_done : StepReply → Bool
is_done (step_reply.Done serial line fault) = true
is_done (step_reply.Blocked b) = false
is_done step_reply.Ended = false

-- a history with one entry more, that of a step with this label, serial and line
abbrev pub and_step : History → Label → ℕ → ℕ → History
and_step h l serial line = record {
  entries = h.entries ++ record { serial = serial; worker = l.worker; choice = l.choice; line = line } ∷ [];
  made = serial;
}

-- the lines of the steps of these entries, each made at its place in the replay
abbrev pub lines_of : Rules → List Entry → List ℕ
lines_of r es = map (λ (d : Step). d.line) (steps_from r r.start (map label_of es))

pub record Leaves (r : Rules) (h : History) : Type 0 where
  -- a step that is not made changes nothing; one that is made adds its entry behind the others, with the next serial
  pub not_made : (l : Label) → is_done (reply_to_step r h l) ≡ false → after_step r h l ≡ h
  pub made : (l : Label) (serial line : ℕ) (fault : Option Fault)
      → reply_to_step r h l ≡ step_reply.Done serial line fault
      → (serial ≡ h.made + 1) × (after_step r h l ≡ and_step h l serial line)
  -- an undo that is not done changes nothing; one that is done takes the worker's last step out, and no other: each
  -- that stands keeps its entry and its footprint
  pub not_undone : (w : ℕ) → is_undone (reply_to_undo r h w) ≡ false → after_undo r h w ≡ h
  pub undone : (w : ℕ) (before : List Transition) (e : Transition) (later : List Transition)
      → IsLast w (transitions r h.entries) before e later → IsFree e later
      → (transitions r (after_undo r h w).entries ≡ before ++ later)
      × ((after_undo r h w).entries ≡ map (λ (t : Transition). t.entry) (before ++ later))
  -- no undo lets a serial be given again
  pub serials_stay : (w : ℕ) → (after_undo r h w).made ≡ h.made
  -- each entry has the line of its step
  pub lines : lines_of r h.entries ≡ map (λ (e : Entry). e.line) h.entries

-- it is so after any run
abbrev pub EachLeaves : Type 0
EachLeaves = (r : Rules) (cs : List Command) → Leaves r (run r no_history cs)
