-- The entries of a machine's history, made again.
use Rattle.std.proofs.Common.{◌≡◌, sym, subst, List, Some}
use Rattle.std.specs.Prelude.{map}
use Rattle.om_state.specs.declared.step.Entry.{Entry}
use Rattle.om_state.specs.Rules.{replay}
use Rattle.om_undo_history.specs.Runs.{label_of}
use Rattle.om_undo.specs.Machines.{MachineView, rules_for, state_in}
use Rattle.lab_replay.specs.Traces.{CanReplay}

-- a machine's entries can be made in turn
pub all_replay : (m : MachineView) (es : List Entry) → es ≡ m.history.entries
    → replay (rules_for m) (map label_of m.history.entries) ≡ Some (state_in m) → CanReplay (rules_for m) es
all_replay m es e h = subst (CanReplay (rules_for m)) (sym e) (state_in m, h)
