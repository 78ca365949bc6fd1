-- Which steps a schedule is, and its commands.
use Rattle.std.specs.Prelude.{ℕ, zero, suc, List, [], ◌∷◌, ◌++◌, codes, decimal, replicate}
use Rattle.om_foot.specs.Names.{name_text}
use Rattle.om_state.specs.declared.step.Choice.TheVariants as choice
use Rattle.om_state.specs.declared.step.Label.{Label}
use Rattle.lab_schedules.specs.declared.block.Block.{Block}
use Rattle.lab_schedules.specs.declared.block.Block.TheVariants.{Steps, Start}
use Rattle.om_shell_commands.specs.Lists.{joined}

-- the steps that a block is
abbrev pub labels_in : Block → List Label
labels_in (Steps worker count) = replicate count (record { worker = worker; choice = choice.Next })
labels_in (Start worker task) = record { worker = worker; choice = choice.Start task } ∷ []

-- the steps that a schedule is
abbrev pub labels_of : List Block → List Label
labels_of [] = []
labels_of (block ∷ blocks) = labels_in block ++ labels_of blocks

-- how many steps a block is
abbrev pub steps_of : Block → ℕ
steps_of (Steps worker count) = count
steps_of (Start worker task) = 1

abbrev pub step_text : ℕ → List ℕ
step_text worker = codes "step " ++ decimal worker ++ codes "\n"

abbrev pub start_text : ℕ → List ℕ → List ℕ
start_text worker task = codes "start " ++ decimal worker ++ codes " " ++ name_text task ++ codes "\n"

-- a text so many times
abbrev pub times : ℕ → List ℕ → List ℕ
times zero text = []
times (suc more) text = text ++ times more text

-- a command for each step of a block
abbrev pub block_text : Block → List ℕ
block_text (Steps worker count) = times count (step_text worker)
block_text (Start worker task) = start_text worker task

-- the commands that let `run` finish, and show what was printed
abbrev pub end_text : List ℕ
end_text = codes "run 100000\noutput\n"

-- the commands of a schedule
abbrev pub schedule_text : List Block → List ℕ
schedule_text blocks = joined block_text blocks ++ end_text
