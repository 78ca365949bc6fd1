-- What is promised of a hunt.
use Rattle.std.specs.Prelude.{◌≡◌, ◌<◌, ◌≤◌, ◌⊎◌, ℕ, suc, List, [], Option, None, Some, IsSomeAnd, option_copied}
use Rattle.lab_schedules.specs.declared.hunted.Aims.{Aims}
use Rattle.lab_schedules.specs.declared.hunted.Found.{Found}
use Rattle.lab_schedules.specs.declared.hunted.Hunted.{Hunted}
use Rattle.lab_schedules.specs.declared.hunted.Hunted.TheVariants as hunted
use Rattle.lab_judge.specs.declared.judge.Standard.{Standard}
use Rattle.lab_judge.specs.declared.judge.Standard.TheVariants as standard
use Rattle.lab_judge.specs.Bad.{IsEnd, NothingIsBad, standard_by, wanted_by}
use Rattle.lab_judge.specs.Texts.{text_in}
use Rattle.lab_schedules.specs.Schedules.{schedule_text}
use Rattle.lab_schedules.specs.declared.block.Block.{Block}
use Rattle.om_book.specs.Books.{BookView, machine_of}
use Rattle.om_undo.specs.Machines.{MachineView}
use Rattle.lab_script.specs.Runs.{Leaves}

-- what the program has to print, where that was told
abbrev pub told_in : Aims → Option (List ℕ)
told_in aims = option_copied aims.expected

-- where `run` makes all steps, ompback writes this and leaves this book
abbrev pub RunsAlone : ℕ → List ℕ → List ℕ → Option BookView → Type 0
RunsAlone workers source text book = Leaves workers (Some source) (schedule_text []) text book

-- The script is that of the schedule. What ompback writes for it is what was printed, and what it leaves is bad.
pub record IsFound (workers : ℕ) (source : List ℕ) (found : Found) : Type 0 where
  pub book : BookView
  pub leaves : Leaves workers (Some source) found.script.items found.printed.items (Some book)
  pub schedule : found.script.items ≡ schedule_text found.blocks.items
  pub workers_are : found.workers ≡ workers
  pub ends : IsEnd (machine_of book) (text_in found.wanted.text) found.end.output.items found.end.why

-- a schedule comes to an end, where this was printed
pub record Prints (workers : ℕ) (source printed : List ℕ) : Type 0 where
  pub blocks : List Block
  pub text : List ℕ
  pub book : BookView
  pub leaves : Leaves workers (Some source) (schedule_text blocks) text (Some book)
  pub printed_is : wanted_by None (machine_of book) ≡ Some printed

-- The seed stands after one and before another, and a schedule printed this at its end. Which schedule a seed leads to
-- has no definition.
pub record IsPrintedBetween (workers : ℕ) (source : List ℕ) (after before seed : ℕ) (text : Option (List ℕ)) : Type 0
  where
    pub later : after < seed
    pub earlier : seed < before
    pub prints : IsSomeAnd text (Prints workers source)

-- What is wanted of the schedule of a seed: what was told, else what `run` alone led to. Where that is not known, it
-- is what the schedule of an earlier seed led to.
abbrev pub IsDue : Aims → List ℕ → MachineView → ℕ → Standard → Option (List ℕ) → Type 0
IsDue aims source alone before standard.Told text =
    (standard_by (told_in aims) ≡ standard.Told) × (text ≡ wanted_by (told_in aims) alone)
IsDue aims source alone before standard.Run text =
    (standard_by (told_in aims) ≡ standard.Run) × (text ≡ wanted_by (told_in aims) alone)
IsDue aims source alone before (standard.Seed seed) text =
    (wanted_by (told_in aims) alone ≡ None) × IsPrintedBetween aims.workers source aims.seeds.after before seed text

-- a bad schedule is found, of one of the seeds or of `run` alone, and this is wanted
pub record FindsBad (aims : Aims) (source : List ℕ) (found : Found) : Type 0 where
  pub text : List ℕ
  pub alone : BookView
  pub runs : RunsAlone aims.workers source text (Some alone)
  pub is : IsFound aims.workers source found
  pub from : (found.seed ≡ 0) ⊎ (aims.seeds.after < found.seed)
  pub within : found.seed ≤ aims.seeds.last
  pub of_run : found.seed ≡ 0 → found.blocks.items ≡ []
  pub due : IsDue aims source (machine_of alone) found.seed found.wanted.standard (text_in found.wanted.text)

-- With what outputs were compared in the end: with what is wanted behind the last seed, where that is known.
abbrev pub IsCompared : Aims → List ℕ → MachineView → Option Standard → Type 0
IsCompared aims source alone (Some by) = (text : List ℕ) × IsDue aims source alone (suc aims.seeds.last) by (Some text)
IsCompared aims source alone None = wanted_by (told_in aims) alone ≡ None

-- Nothing is bad where `run` makes all steps. The text is what ompback writes there.
pub record FindsNothing (aims : Aims) (source : List ℕ) (compared : Option Standard) (printed : List ℕ) : Type 0 where
  pub alone : BookView
  pub runs : RunsAlone aims.workers source printed (Some alone)
  pub good : NothingIsBad (machine_of alone) (wanted_by (told_in aims) (machine_of alone))
  pub compared_is : IsCompared aims source (machine_of alone) compared

-- what came of a hunt with these aims
abbrev pub IsHuntBy : Aims → List ℕ → Hunted → Type 0
IsHuntBy aims source (hunted.Refused line) = RunsAlone aims.workers source line.items None
IsHuntBy aims source (hunted.Nothing seeds compared unconfirmed printed) =
    (seeds ≡ aims.seeds) × FindsNothing aims source compared printed.items
IsHuntBy aims source (hunted.Found found) = FindsBad aims source found
