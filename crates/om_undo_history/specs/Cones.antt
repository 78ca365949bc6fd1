-- The cone of an entry, and what a roll replies and leaves.
use Rattle.std.specs.Prelude.{◌≡◌, ◌==◌, Bool, true, false, cond, is_some, List, [], ◌∷◌, ◌++◌, map, reverse, ℕ, ◌<◌}
use Rattle.std.specs.Prelude.{Contains}
use Rattle.om_foot.specs.declared.footprint.Access.{Access}
use Rattle.om_foot.specs.Footprint.{conflict_of}
use Rattle.om_state.specs.declared.step.Step.{Step}
use Rattle.om_state.specs.declared.step.Entry.{Entry}
use Rattle.om_state.specs.Rules.{Rules}
use Rattle.om_undo_history.specs.declared.reply.Taken.{Taken}
use Rattle.om_undo_history.specs.declared.reply.RollReply.{RollReply}
use Rattle.om_undo_history.specs.declared.reply.RollReply.TheVariants.{Rolled, NoEntry}
use Rattle.om_undo_history.specs.Laws.{Apart, steps_from}
use Rattle.om_undo_history.specs.Runs.{History, label_of}

-- an entry, with the footprint of its step
pub record Transition : Type 0 where
  pub entry : Entry
  pub footprint : List Access

abbrev pub with_footprints : List Entry → List Step → List Transition
with_footprints (e ∷ es) (d ∷ ds) = record { entry = e; footprint = d.footprint } ∷ with_footprints es ds
with_footprints _ _ = []

-- the entries of a history, each with the footprint of its step at its place in the replay; entries behind a step
-- that can't be made would be left out, but after every run there are none (`RemainingSteps`)
abbrev pub transitions : Rules → List Entry → List Transition
transitions r es = with_footprints es (steps_from r r.start (map label_of es))

-- two transitions that stand, the second made after the first and in conflict with it
pub record Conflicts (ts : List Transition) (a b : Transition) : Type 0 where
  pub first : Contains ts a
  pub second : Contains ts b
  pub later : a.entry.serial < b.entry.serial
  pub not_apart : ¬ Apart a.footprint b.footprint

-- the cone of the entry with a serial: the least set that holds it and, with each member, every later transition that
-- conflicts with the member
pub data InCone (ts : List Transition) (serial : ℕ) : Transition → Type 0 where
  itself : (a : Transition) → Contains ts a → a.entry.serial ≡ serial → InCone ts serial a
  follows : (a b : Transition) → InCone ts serial a → Conflicts ts a b → InCone ts serial b

-- whether a transition conflicts with one of these
abbrev pub meets_one : List Transition → Transition → Bool
meets_one [] b = false
meets_one (a ∷ rest) b = cond (is_some (conflict_of a.footprint b.footprint)) true (meets_one rest b)

-- whether a transition is of the cone, where these are the members before it
abbrev pub is_member : ℕ → List Transition → Transition → Bool
is_member serial members t = cond (t.entry.serial == serial) true (meets_one members t)

-- the members of the cone among these, in order, where others stand before them
abbrev pub cone_after : ℕ → List Transition → List Transition → List Transition
cone_after serial members [] = []
cone_after serial members (t ∷ ts) = cond (is_member serial members t) (t ∷ cone_after serial (members ++ t ∷ []) ts)
    (cone_after serial members ts)

-- and what is no member
abbrev pub rest_after : ℕ → List Transition → List Transition → List Transition
rest_after serial members [] = []
rest_after serial members (t ∷ ts) = cond (is_member serial members t) (rest_after serial (members ++ t ∷ []) ts)
    (t ∷ rest_after serial members ts)

-- the cone of the entry with a serial, as a list: no member where no entry has it
abbrev pub cone : ℕ → List Transition → List Transition
cone serial ts = cone_after serial [] ts

abbrev pub taken_of : Transition → Taken
taken_of t = record { serial = t.entry.serial; worker = t.entry.worker; line = t.entry.line }

-- what a roll takes out, latest first
abbrev pub taken_by_roll : Rules → History → ℕ → List Taken
taken_by_roll r h serial = map taken_of (reverse (cone serial (transitions r h.entries)))

abbrev pub rolled : List Taken → RollReply
rolled [] = NoEntry
rolled (t ∷ ts) = Rolled (t ∷ ts)

-- what a roll replies
abbrev pub reply_to_roll : Rules → History → ℕ → RollReply
reply_to_roll r h serial = rolled (taken_by_roll r h serial)

-- what a roll leaves: all but the cone; the number of steps ever made stays
abbrev pub after_roll : Rules → History → ℕ → History
after_roll r h serial = record
    { entries = map (λ (t : Transition). t.entry) (rest_after serial [] (transitions r h.entries)); made = h.made }
