-- The steps that a roll would take, as lines.
use Rattle.std.specs.Prelude.{◌≡◌, ◌⊎◌, ℕ, List, ◌++◌, codes, reverse}
use Rattle.om_undo_history.specs.declared.reply.Taken.{Taken}
use Rattle.om_undo_history.specs.declared.reply.RollReply.TheVariants.{NoEntry}
use Rattle.om_undo_history.specs.Cones.{taken_by_roll}
use Rattle.om_undo_history.specs.Commands.{IsGone}
use Rattle.om_shell_commands.specs.Lists.{joined, roll_text}
use Rattle.om_shell_commands.specs.Steps.{entry_text}
use Rattle.om_undo.specs.Machines.{MachineView, rules_for}

-- a step as `history` has it
abbrev pub cone_line : Taken → List ℕ
cone_line t = entry_text t.serial t.worker t.line ++ codes "\n"

-- the steps that a roll would take, the earliest first
abbrev pub cone_text : List Taken → List ℕ
cone_text taken = joined cone_line (reverse taken)

-- no step of the serial stands, and the text is what a roll answers then; or the text has the steps that it would take
abbrev pub IsConeOf : MachineView → ℕ → List ℕ → Type 0
IsConeOf m serial text = (IsGone serial m.history × (text ≡ roll_text serial NoEntry))
    ⊎ ((¬ IsGone serial m.history) × (text ≡ cone_text (taken_by_roll (rules_for m) m.history serial)))
