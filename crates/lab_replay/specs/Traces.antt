-- Histories that are made again from their entries, with what each step touched.
use Rattle.std.specs.Prelude.{◌≡◌, ◌+◌, Some, List, [], ◌∷◌, ◌++◌, map, length}
use Rattle.om_code.specs.declared.raw.Raw.{Raw}
use Rattle.om_foot.specs.declared.footprint.Access.{Access}
use Rattle.om_state.specs.declared.step.Label.{Label}
use Rattle.om_state.specs.declared.step.Entry.{Entry}
use Rattle.om_state.specs.State.{State}
use Rattle.om_state.specs.Rules.{Rules, step_at, next_state, replay}
use Rattle.om_undo_history.specs.declared.history.History.{History}
use Rattle.om_undo_history.specs.Runs.{label_of}
use Rattle.om_undo_history.specs.Cones.{Transition, transitions}
use Rattle.om_undo_history.specs.Pasts.{past_in, history_in, IsHeld}
use Rattle.om_task.specs.declared.planned.Plan.{Plan}
use Rattle.om_undo.specs.Machines.{IsPlan, MachineView, rules_for}
use Rattle.lab_graph.specs.declared.traced.Traced.{Traced}
use Rattle.lab_graph.specs.Pictures.{touched}
use Rattle.lab_replay.specs.Said.{AreSaidFrom}

-- an entry with what its step touched; what it did is left out
abbrev pub transition_of : Traced → Transition
transition_of t = record { entry = t.entry; footprint = touched t }

-- the entries of steps, with what each touched
abbrev pub traced : List Traced → List Transition
traced steps = map transition_of steps

-- entries, each with what its step touches in a replay from the start of a machine's program
abbrev pub replayed : MachineView → List Entry → List Transition
replayed m entries = transitions (rules_for m) entries

-- the entries of a machine's history, each with what its step touches in a replay from the start
abbrev pub transitions_of : MachineView → List Transition
transitions_of m = transitions (rules_for m) m.history.entries

-- entries can be made in turn from the start
abbrev pub CanReplay : Rules → List Entry → Type 0
CanReplay r es = (s : State) × (replay r (map label_of es) ≡ Some s)

-- the step of a label can be made where a history stands
abbrev pub CanBeMade : Rules → History → Label → Type 0
CanBeMade r h l = (t : State) × (next_state r (past_in h).state l ≡ Some t)

-- what it touches there
abbrev pub footprint_for : Rules → History → Label → List Access
footprint_for r h l = (step_at r (past_in h).state l).footprint

abbrev pub transition_for : Rules → History → Entry → Transition
transition_for r h e = record { entry = e; footprint = footprint_for r h (label_of e) }

-- a step has this entry, and what the entry's step touches where a history of a machine's program stands
abbrev pub IsTraced : MachineView → History → Entry → Traced → Type 0
IsTraced m h e step = transition_of step ≡ transition_for (rules_for m) h e

-- a history, and the same with one more step
pub record IsLonger (r : Rules) (old new : History) (l : Label) : Type 0 where
  pub held : IsHeld r new
  pub labels : map label_of (history_in new).entries ≡ map label_of (history_in old).entries ++ l ∷ []
  pub made : (past_in new).made ≡ (past_in old).made + 1

-- entries that were made again, and what was noted of them
pub record IsRemade (program : Raw) (r : Rules) (h : History) (done : List Entry) (steps : List Traced) : Type 0 where
  pub held : IsHeld r h
  pub labels : map label_of (history_in h).entries ≡ map label_of done
  pub made : (past_in h).made ≡ length done
  pub noted : map transition_of steps ≡ transitions r done
  pub said : AreSaidFrom program r r.start done steps

-- the step of an entry was made again where a history of a machine's program stands
abbrev pub Remakes : MachineView → (old new : History) → Entry → Type 0
Remakes m old new e = IsLonger (rules_for m) old new (label_of e)

-- ---- what holds by whatever rules a plan was made

-- it is a plan for a step that can be made where a history stands
abbrev pub IsForStep : History → Label → Plan → Type 0
IsForStep h l plan = (r : Rules) × IsPlan r h l plan × CanBeMade r h l

-- the history has the step of a plan more
abbrev pub HasStep : (old new : History) → Label → Plan → Type 0
HasStep old new l plan = (r : Rules) → IsPlan r old l plan → IsLonger r old new l
