-- Entries that stand, each at its place in the replay: with the state that the entries before it lead to.
use Rattle.std.specs.Prelude.{ℕ, cond, nat_eq, Option, None, Some, option_map, List, [], ◌∷◌}
use Rattle.om_foot.specs.declared.footprint.Access.{Access}
use Rattle.om_state.specs.declared.step.Entry.{Entry}
use Rattle.om_state.specs.State.{State}
use Rattle.om_state.specs.Rules.{Rules, step_at}
use Rattle.om_undo_touches.specs.Accesses.{Parts, accesses_of}
use Rattle.om_undo_history.specs.Runs.{History, label_of, state_after_step}

-- an entry, and the state before it
pub record Standing : Type 0 where
  pub entry : Entry
  pub before : State

abbrev pub stands : Entry → State → Standing
stands e s = record { entry = e; before = s }

-- the entry with a serial among entries from a state
abbrev pub standing_from : Rules → State → ℕ → List Entry → Option Standing
standing_from r s serial [] = None
standing_from r s serial (e ∷ es) = cond (nat_eq e.serial serial) (Some (stands e s))
    (standing_from r (state_after_step r s (label_of e)) serial es)

-- the entry of a history with a serial
abbrev pub standing : Rules → History → ℕ → Option Standing
standing r h serial = standing_from r r.start serial h.entries

-- what the rules say that its step touches, in the state before it
abbrev pub footprint_of : Rules → Standing → List Access
footprint_of r x = (step_at r x.before (label_of x.entry)).footprint

-- the footprint of the step whose entry has a serial
abbrev pub footprint_with : Rules → History → ℕ → Option (List Access)
footprint_with r h serial = option_map (footprint_of r) (standing r h serial)

-- the accesses that a record keeps in parts, where there is a record
abbrev pub accesses_in : Option Parts → Option (List Access)
accesses_in parts = option_map accesses_of parts
