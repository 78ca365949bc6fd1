-- Matter of proofs, for om_undo too: a state to which undo records replay is that of their steps.
use Rattle.std.proofs.Common.{◌≡◌, ◌∙◌, ap, Some, List, [], ◌∷◌}
use Rattle.std.specs.Prelude.{map}
use Rattle.om_state.specs.State.{State}
use Rattle.om_state.specs.Rules.{Rules, and_then, replay_from}
use Rattle.om_undo_history.specs.Runs.{label_of}
use Rattle.om_undo_history.specs.declared.records.UndoRecord.{UndoRecord}
use Rattle.om_undo_history.specs.Records.{entries_of, ReplaysTo}

-- what is kept is the replay
pub ReplaysTo-replay : (r : Rules) (s : State) (ks : List UndoRecord) (now : State) → ReplaysTo r s ks now
    → replay_from r s (map label_of (entries_of ks)) ≡ Some now
ReplaysTo-replay r s [] now h = ap Some h
ReplaysTo-replay r s (k ∷ ks) now h = ap (λ o. and_then o (λ t. replay_from r t (map label_of (entries_of ks)))) h.1
    ∙ ReplaysTo-replay r h.0 ks now h.3
