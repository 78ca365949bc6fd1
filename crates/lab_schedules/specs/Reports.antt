-- The text of a report.
use Rattle.std.specs.Prelude.{ℕ, ◌+◌, ◌-◌, List, [], ◌++◌, ◌==◌, Option, None, Some, if◌then◌else◌, codes, decimal, length}
use Rattle.om_foot.specs.Names.{name_text}
use Rattle.lab_schedules.specs.declared.block.Block.{Block}
use Rattle.lab_schedules.specs.declared.block.Block.TheVariants as block
use Rattle.lab_schedules.specs.declared.hunted.Found.{Found}
use Rattle.lab_schedules.specs.declared.hunted.Hunted.{Hunted}
use Rattle.lab_schedules.specs.declared.hunted.Hunted.TheVariants as hunted
use Rattle.lab_schedules.specs.declared.hunted.Seeds.{Seeds}
use Rattle.lab_judge.specs.declared.judge.Standard.{Standard}
use Rattle.lab_judge.specs.declared.judge.Standard.TheVariants as standard
use Rattle.lab_judge.specs.declared.judge.Wanted.{Wanted}
use Rattle.lab_judge.specs.declared.outcome.End.{End}
use Rattle.lab_judge.specs.Words.{bad_text}
use Rattle.om_shell_commands.specs.Lists.{joined}

abbrev pub seed_text : ℕ → List ℕ
seed_text seed = if seed == 0 then codes "run: " else codes "seed " ++ decimal seed ++ codes ": "

-- the seed, and what is bad
abbrev pub first_text : ℕ → End → Wanted → List ℕ
first_text seed end wanted = seed_text seed ++ bad_text end wanted

-- so many steps of a worker
abbrev pub steps_words : ℕ → ℕ → List ℕ
steps_words worker count = decimal count ++ codes " of worker " ++ decimal worker ++ codes ", "

-- the start of a task by a worker
abbrev pub start_words : ℕ → List ℕ → List ℕ
start_words worker task = codes "task " ++ name_text task ++ codes " by worker " ++ decimal worker ++ codes ", "

abbrev pub block_words : Block → List ℕ
block_words (block.Steps worker count) = steps_words worker count
block_words (block.Start worker task) = start_words worker task

-- the word after a number of blocks
abbrev pub blocks_word : ℕ → List ℕ
blocks_word count = if count == 1 then codes " block: " else codes " blocks: "

abbrev pub length_text : List Block → List ℕ
length_text blocks = codes "shortened to " ++ decimal (length blocks) ++ blocks_word (length blocks)
    ++ joined block_words blocks ++ codes "then `run`\n"

-- how many workers the script is for
abbrev pub threads_text : ℕ → List ℕ
threads_text workers = codes "run the script with --threads " ++ decimal workers ++ codes "\n"

abbrev pub some_unconfirmed : ℕ → List ℕ
some_unconfirmed count = codes "bad schedules that the debugger did not confirm: " ++ decimal count ++ codes "\n"

-- how many bad schedules the debugger did not find bad, where there were some
abbrev pub unconfirmed_text : ℕ → List ℕ
unconfirmed_text count = if count == 0 then [] else some_unconfirmed count

-- what was found, in words
abbrev pub words_text : Found → List ℕ
words_text found = first_text found.seed found.end found.wanted ++ codes "\n" ++ length_text found.blocks.items
    ++ threads_text found.workers ++ unconfirmed_text found.unconfirmed

-- the words, an empty line, and the script
abbrev pub found_text : Found → List ℕ
found_text found = words_text found ++ codes "\n" ++ found.script.items

abbrev pub limits_text : List ℕ
limits_text = codes "These are not all schedules.\n"

-- how many seeds there were
abbrev pub several_seeds : ℕ → List ℕ
several_seeds seeds = codes "nothing bad in the schedules of " ++ decimal seeds ++ codes " seeds"

abbrev pub count_words : ℕ → List ℕ
count_words seeds = if seeds == 1 then codes "nothing bad in the schedule of 1 seed" else several_seeds seeds

abbrev pub first_seed : ℕ → List ℕ
first_seed seed = codes ", from seed " ++ decimal seed ++ codes " on"

-- which seed is the first, where it is not seed 1
abbrev pub from_words : ℕ → List ℕ
from_words after = if after == 0 then [] else first_seed (after + 1)

-- how many seeds there were, and which was the first
abbrev pub seed_words : Seeds → List ℕ
seed_words seeds = count_words (seeds.last - seeds.after) ++ from_words seeds.after ++ codes "\n"

abbrev pub of_seed : ℕ → List ℕ
of_seed seed = codes "that of seed " ++ decimal seed

-- they were compared with what a seed's schedule printed
abbrev pub compared_with : ℕ → List ℕ
compared_with seed = codes "`run` came to no end: outputs were compared with " ++ of_seed seed ++ codes "\n"

-- there was nothing to compare with
abbrev pub not_compared : List ℕ
not_compared = codes "`run` came to no end, and no seed did: "
    ++ codes "no output was compared; give more --steps\n"

-- with what outputs were compared, where that is not what was told or what `run` prints
abbrev pub compared_text : Option Standard → List ℕ
compared_text (Some standard.Told) = []
compared_text (Some standard.Run) = []
compared_text (Some (standard.Seed seed)) = compared_with seed
compared_text None = not_compared

abbrev pub nothing_text : Seeds → Option Standard → ℕ → List ℕ
nothing_text seeds compared unconfirmed =
    seed_words seeds ++ compared_text compared ++ unconfirmed_text unconfirmed ++ limits_text

-- what came of a hunt
abbrev pub report_text : Hunted → List ℕ
report_text (hunted.Refused line) = line.items
report_text (hunted.Nothing seeds compared unconfirmed printed) = nothing_text seeds compared unconfirmed
report_text (hunted.Found found) = found_text found
