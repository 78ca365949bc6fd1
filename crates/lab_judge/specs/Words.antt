-- What is bad about an end, in words.
use Rattle.std.specs.Prelude.{ℕ, List, [], ◌∷◌, ◌++◌, ◌==◌, Option, None, Some, if◌then◌else◌, codes, decimal, length}
use Rattle.om_code.specs.declared.frame.Fault.{Fault}
use Rattle.om_code.specs.Faults.{fault_number}
use Rattle.lab_judge.specs.declared.judge.Badness.{Badness}
use Rattle.lab_judge.specs.declared.judge.Badness.TheVariants as badness
use Rattle.lab_judge.specs.declared.judge.Standard.{Standard}
use Rattle.lab_judge.specs.declared.judge.Standard.TheVariants as standard
use Rattle.lab_judge.specs.declared.judge.Wanted.{Wanted}
use Rattle.lab_judge.specs.declared.outcome.End.{End}
use Rattle.lab_judge.specs.declared.waits.Awaited.{Awaited}
use Rattle.lab_judge.specs.declared.waits.Awaited.TheVariants as awaited
use Rattle.lab_judge.specs.declared.waits.Wait.{Wait}
use Rattle.om_shell_commands.specs.Lists.{joined}
use Rattle.lab_judge.specs.Texts.{text_in}

-- a byte in quotes: line ends, quotes and backslashes stand behind a backslash
abbrev pub byte_text : ℕ → List ℕ
byte_text byte =
    if byte == 10 then 92 ∷ 110 ∷ []
    else if byte == 13 then 92 ∷ 114 ∷ []
    else if byte == 34 then 92 ∷ 34 ∷ []
    else if byte == 92 then 92 ∷ 92 ∷ []
    else byte ∷ []

-- bytes in quotes, on one line
abbrev pub quoted : List ℕ → List ℕ
quoted bytes = (34 ∷ []) ++ joined byte_text bytes ++ (34 ∷ [])

-- what stands before what was wanted: that it was told, or what prints it
abbrev pub before_wanted : Standard → List ℕ
before_wanted standard.Told = codes ", wanted "
before_wanted standard.Run = codes ", where `run` prints "
before_wanted (standard.Seed seed) = codes ", where seed " ++ decimal seed ++ codes " prints "

-- what was wanted
abbrev pub told_text : Standard → List ℕ → List ℕ
told_text by wanted = before_wanted by ++ quoted wanted

-- what was wanted, where that is known
abbrev pub wanted_text : Standard → Option (List ℕ) → List ℕ
wanted_text by (Some wanted) = told_text by wanted
wanted_text by None = []

-- what was printed, and what was wanted
abbrev pub outputs_text : List ℕ → Wanted → List ℕ
outputs_text output wanted =
    codes "printed " ++ quoted output ++ wanted_text wanted.standard (text_in wanted.text)

abbrev pub of_worker : ℕ → List ℕ
of_worker worker = codes " of worker " ++ decimal worker

abbrev pub in_line : ℕ → List ℕ
in_line line = codes " in line " ++ decimal line

abbrev pub fault_words : Fault → ℕ → ℕ → List ℕ
fault_words fault worker line = codes "fault F" ++ decimal (fault_number fault) ++ of_worker worker ++ in_line line

-- the name of a critical region; nothing for the unnamed one
abbrev pub name_words : List ℕ → List ℕ
name_words name = if length name == 0 then [] else codes " (" ++ name ++ codes ")"

abbrev pub held_by : ℕ → List ℕ
held_by holder = codes ", held by worker " ++ decimal holder

abbrev pub lock_words : List ℕ → ℕ → List ℕ
lock_words name holder = codes " for critical" ++ name_words name ++ held_by holder

-- what a worker waits for
abbrev pub awaited_text : Awaited → List ℕ
awaited_text awaited.Barrier = codes " at a barrier"
awaited_text (awaited.Lock name holder) = lock_words name.items holder
awaited_text awaited.Children = codes " for tasks that it made"
awaited_text (awaited.Worker worker) = codes " for worker " ++ decimal worker
awaited_text awaited.Group = codes " for tasks of its taskgroup"

abbrev pub waits_in : ℕ → List ℕ
waits_in line = codes " waits in line " ++ decimal line

-- who waits in which line, and for what
abbrev pub wait_text : Wait → List ℕ
wait_text w = codes "; worker " ++ decimal w.worker ++ waits_in w.line ++ awaited_text w.what

abbrev pub stuck_text : List Wait → List ℕ
stuck_text waits = codes "stuck: no worker has a move" ++ joined wait_text waits

-- what is bad of an end, by what was wanted
abbrev pub badness_text : Badness → End → Wanted → List ℕ
badness_text badness.Output end wanted = outputs_text end.output.items wanted
badness_text (badness.Fault fault worker line) end wanted = fault_words fault worker line
badness_text badness.Stuck end wanted = stuck_text end.waits.items

abbrev pub bad_text : End → Wanted → List ℕ
bad_text end wanted = badness_text end.why end wanted
