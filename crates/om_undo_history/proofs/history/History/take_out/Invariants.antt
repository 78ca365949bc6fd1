use Rattle.std.proofs.Common.{◌≡◌, drop}
use Rattle.om_state.specs.Rules.{Rules}
use Rattle.om_undo_history.specs.Pasts.{history_in, IsHeld}
use Rattle.om_undo_history.specs.Commands.{undone_by}
use Rattle.om_undo_history.proofs.history.History.take_out.Given as goal

-- the undos of what is left end where those of all end
abbrev pub invariant-loop-member : goal.invariant-loop-member
invariant-loop-member l = (r : Rules) → IsHeld r l.fn.self
    → (undone_by r (history_in l.self) (drop l.member-index l.taken) ≡ undone_by r (history_in l.fn.self) l.taken)
    × IsHeld r l.self
