-- A machine as contracts see it, and the history that it keeps.
use Rattle.std.proofs.Common.{◌≡◌, sym, ◌∙◌, ap, ℕ, Some}
use Rattle.std.specs.Prelude.{map, unwrap_or}
use Rattle.om_code.specs.declared.raw.Raw.{Raw}
use Rattle.om_state.specs.State.{State}
use Rattle.om_state.specs.Rules.{Rules, replay}
use Rattle.om_task.specs.Rules.{rules_of}
use Rattle.om_undo_history.specs.Runs.{History, label_of}
use Rattle.om_undo.specs.Machines.{MachineView, rules_for, state_in}

abbrev pub view_of : Raw → ℕ → History → MachineView
view_of program workers h = record { program = program; workers = workers; history = h }

-- the state is the replay of the entries
pub state_is : (m : MachineView) (s : State) → replay (rules_for m) (map label_of m.history.entries) ≡ Some s
    → s ≡ state_in m
state_is m s h = sym (ap (λ o. unwrap_or o (rules_for m).start) h)

-- where the history follows by a change, the machine is the one with that change
pub changed_view : (program : Raw) (workers : ℕ) (before after : History) (m : MachineView)
    (change : Rules → History → History) → view_of program workers before ≡ m
    → after ≡ change (rules_of program workers) before
    → view_of program workers after ≡ record m { history = change (rules_for m) m.history }
changed_view program workers before after m change seen is = ap (view_of program workers) is
    ∙ ap (λ (x : MachineView). record x { history = change (rules_for x) x.history }) seen
