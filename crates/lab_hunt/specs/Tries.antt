-- For proofs: what came of schedules that were tried.
use Rattle.std.specs.Prelude.{◌≡◌, ◌<◌, ◌≤◌, ◌⊎◌, ⊤, ℕ, suc, List, Option, None, Some, IfSome}
use Rattle.lab_schedules.specs.declared.hunted.Found.{Found}
use Rattle.lab_play.specs.declared.seeds.Ground.{Ground}
use Rattle.lab_judge.specs.declared.judge.Standard.{Standard}
use Rattle.lab_judge.specs.declared.judge.Standard.TheVariants as standard
use Rattle.lab_judge.specs.Texts.{text_in}
use Rattle.lab_hunt.specs.declared.hunting.Sought.{Sought}
use Rattle.lab_hunt.specs.declared.tries.Tried.{Tried}
use Rattle.lab_hunt.specs.declared.tries.Tried.TheVariants as tried
use Rattle.lab_hunt.specs.Finds.{IsFound, IsPrintedBetween, Prints}

-- a bad schedule of a later seed was found, by what is wanted on this ground
pub record IsFoundAfter (g : Ground) (source : List ℕ) (after : ℕ) (found : Found) : Type 0 where
  pub later : after < found.seed
  pub within : found.seed ≤ g.seeds.last
  pub is : IsFound g.workers source found
  pub text : text_in found.wanted.text ≡ text_in g.wanted.now.text
  pub standard : found.wanted.standard ≡ g.wanted.now.standard

-- a schedule of a later seed came to an end, where it is not known what is wanted; none of a later one was tried
pub record EndsAfter (g : Ground) (source : List ℕ) (after last seed : ℕ) (printed : List ℕ) : Type 0 where
  pub later : after < seed
  pub within : seed ≤ g.seeds.last
  pub is_last : seed ≡ last
  pub unknown : text_in g.wanted.now.text ≡ None
  pub prints : Prints g.workers source printed

-- what came of seeds after one, up to another
abbrev pub IsTriedOn : List ℕ → Ground → ℕ → ℕ → Tried → Type 0
IsTriedOn source g after last (tried.Bad found) = IsFoundAfter g source after found
IsTriedOn source g after last (tried.Ends seed output) = EndsAfter g source after last seed output.items
IsTriedOn source g after last tried.Nothing = ⊤

-- it is not known what is wanted, and a schedule of this seed came to an end, where this was printed
abbrev pub IsEnding : Ground → ℕ → Option (List ℕ) → Tried → Type 0
IsEnding g this printed (tried.Bad found) = ⊥
IsEnding g this printed (tried.Ends seed output) =
    (text_in g.wanted.now.text ≡ None) × (seed ≡ this) × (printed ≡ Some output.items)
IsEnding g this printed tried.Nothing = ⊥

-- what came of the seeds after one, where it is known what is wanted
pub record IsComparedAfter (g : Ground) (source : List ℕ) (after : ℕ) (sought : Sought) : Type 0 where
  pub found : IfSome sought.found (IsFoundAfter g source after)
  pub compared : sought.compared ≡ Some g.wanted.now.standard

-- the schedule of a seed of this ground before another printed what is wanted
abbrev pub IsOfSeedBefore : Ground → List ℕ → ℕ → Standard → Option (List ℕ) → Type 0
IsOfSeedBefore g source before standard.Told text = ⊥
IsOfSeedBefore g source before standard.Run text = ⊥
IsOfSeedBefore g source before (standard.Seed seed) text =
    IsPrintedBetween g.workers source g.seeds.after before seed text

-- what is wanted of the schedule of a seed: what is wanted on this ground, else what an earlier one printed
abbrev pub IsDueOn : Ground → List ℕ → ℕ → Standard → Option (List ℕ) → Type 0
IsDueOn g source before by text =
    ((by ≡ g.wanted.now.standard) × (text ≡ text_in g.wanted.now.text))
    ⊎ ((text_in g.wanted.now.text ≡ None) × IsOfSeedBefore g source before by text)

-- a bad schedule of a seed was found
pub record IsFoundOn (g : Ground) (source : List ℕ) (found : Found) : Type 0 where
  pub later : g.seeds.after < found.seed
  pub within : found.seed ≤ g.seeds.last
  pub is : IsFound g.workers source found
  pub due : IsDueOn g source found.seed found.wanted.standard (text_in found.wanted.text)

-- with what outputs were compared in the end
abbrev pub IsComparedOn : Ground → List ℕ → Option Standard → Type 0
IsComparedOn g source (Some by) = (text : List ℕ) × IsDueOn g source (suc g.seeds.last) by (Some text)
IsComparedOn g source None = text_in g.wanted.now.text ≡ None

-- what came of all seeds
pub record IsSought (g : Ground) (source : List ℕ) (sought : Sought) : Type 0 where
  pub found : IfSome sought.found (IsFoundOn g source)
  pub compared : IsComparedOn g source sought.compared
