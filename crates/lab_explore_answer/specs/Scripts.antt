-- The commands that lead to an end or to a race.
use Rattle.std.specs.Prelude.{◌≡◌, ◌⊎◌, ℕ, List, ◌++◌, codes, decimal, take, Contains}
use Rattle.lab_explore_closed.specs.declared.found.Explored.{Explored}
use Rattle.lab_explore_closed.specs.declared.found.FoundEnd.{FoundEnd}
use Rattle.lab_explore_closed.specs.declared.found.FoundRace.{FoundRace}
use Rattle.lab_schedules.specs.Schedules.{end_text}
use Rattle.lab_text.specs.Commands.{script_text}
use Rattle.lab_explore_answer.specs.declared.asked.Subject as subjects
use Rattle.lab_explore_answer.specs.declared.asked.Subject.TheVariants as subject

-- the first steps of the path of an end, as many as are told; then `run` goes on, and what was printed is shown
pub record IsEndScript (end : FoundEnd) (text : List ℕ) : Type 0 where
  pub told : ℕ
  pub commands : text ≡ script_text (take told end.path) ++ end_text

abbrev pub where_text : ℕ → List ℕ
where_text worker = codes "where " ++ decimal worker ++ codes "\n"

-- all steps of the path of a race, and where both workers then stand
abbrev pub IsRaceScript : FoundRace → List ℕ → Type 0
IsRaceScript race text =
    text ≡ (script_text race.path ++ where_text race.first.worker) ++ where_text race.second.worker

-- one of those that are listed has this script
abbrev pub IsOfOne : {F : Type 0} → (F → List ℕ → Type 0) → List F → List ℕ → Type 0
IsOfOne {F} IsScriptOf fs text = (f : F) × Contains fs f × IsScriptOf f text

-- that there is none of this number
abbrev pub missing_text : List ℕ → ℕ → List ℕ
missing_text words number = words ++ decimal number ++ codes "\n"

-- what is written where the script of an end or a race is asked for by its number
abbrev pub IsScript : subjects.Subject → ℕ → Explored → List ℕ → Type 0
IsScript subject.Ends number e text =
    IsOfOne IsEndScript e.ends text ⊎ (text ≡ missing_text (codes "there is no end ") number)
IsScript subject.Races number e text =
    IsOfOne IsRaceScript e.races text ⊎ (text ≡ missing_text (codes "there is no pair ") number)
