-- Trails: a worker's control, with what takes its changes back, the latest first.
use Rattle.std.specs.Prelude.{Bool, true, false, List, [], ◌∷◌}
use Rattle.om_state.specs.declared.control.Control as plain_controls
use Rattle.om_state.specs.declared.control.Edit.{Edit}
use Rattle.om_state.specs.Edits.{changed}
use Rattle.om_memory.specs.declared.control.Control.{Control}
use Rattle.om_memory.specs.declared.control.Logged.{Logged}
use Rattle.om_memory.specs.Plain.{plain_control}
use Rattle.om_memory.specs.Inverses.{CanRevert, reverted}

pub record TrailView : Type 0 where
  pub now : plain_controls.Control
  -- the control before each change that stands, the latest first
  pub past : List plain_controls.Control

-- the controls with one more, where a change began at it
abbrev pub begun : Bool → Control → List plain_controls.Control → List plain_controls.Control
begun true c cs = plain_control c ∷ cs
begun false c cs = cs

-- the controls at which changes began, on the way back
abbrev pub past_of : List Logged → Control → List plain_controls.Control
past_of [] c = []
past_of (l ∷ ls) c = begun l.begins (reverted l.inverse c) (past_of ls (reverted l.inverse c))

-- the way back can be gone to its end
abbrev pub CanRewind : List Logged → Control → Type 0
CanRewind [] c = Unit {0}
CanRewind (l ∷ ls) c = CanRevert l.inverse c × CanRewind ls (reverted l.inverse c)

-- a step is made of edits
abbrev pub stepped : List Edit → TrailView → TrailView
stepped es t = record { now = changed es t.now; past = t.now ∷ t.past }

-- another control is put
abbrev pub became : plain_controls.Control → TrailView → TrailView
became c t = record { now = c; past = t.now ∷ t.past }

-- the latest change is taken back
abbrev pub undone_to : List plain_controls.Control → TrailView → TrailView
undone_to [] t = t
undone_to (c ∷ cs) t = record { now = c; past = cs }

abbrev pub undone : TrailView → TrailView
undone t = undone_to t.past t
