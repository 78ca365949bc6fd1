-- The races of one history.
use Rattle.std.specs.Prelude.{◌≡◌, ◌≢◌, ℕ, ◌<◌, Bool, true, false, nat_eq, ◌&&◌, ◌||◌, List, [], ◌∷◌, filter, All, AllPairs}
use Rattle.std.specs.Prelude.{Contains}
use Rattle.std.specs.List.{list_any}
use Rattle.om_foot.specs.declared.footprint.Access.{Access}
use Rattle.om_foot.specs.declared.footprint.Mode.{Mode}
use Rattle.om_foot.specs.declared.footprint.Mode.TheVariants as mode
use Rattle.om_foot.specs.Footprint.{modes_conflict, obj_eq}
use Rattle.lab_races.specs.declared.made.Made.{Made}
use Rattle.lab_races.specs.declared.made.Manner.{Manner}
use Rattle.lab_races.specs.declared.made.Manner.TheVariants as manner
use Rattle.lab_races.specs.declared.made.Race.{Race}
use Rattle.lab_races.specs.declared.made.Side.{Side}
use Rattle.lab_races.specs.Orders.{accesses_of, is_atomic, is_data, HappensBefore}

-- an access that combines: a reduction writes the original, and reads its copy as any other instruction does
abbrev pub does_combine : Manner → Mode → Bool
does_combine manner.Reduction mode.Write = true
does_combine _ _ = false

-- two accesses of one variable that are ordered by being atomic: both under `atomic`, or of two reductions that both
-- combine (OpenMP 5.2, 15.8.4 and 5.5)
abbrev pub are_atomic_together : Manner → Mode → Manner → Mode → Bool
are_atomic_together a m b n = (is_atomic a && is_atomic b) || (does_combine a m && does_combine b n)

-- what a step accesses of variables
abbrev pub data_of : Made → List Access
data_of m = filter (λ (a : Access). is_data a.object) (accesses_of m)

-- Two steps of a history race: different workers made them, they access one variable, one of them to write it, they are
-- not atomic together, and the earlier one does not happen before the later one (OpenMP 5.2, 1.4.1; C17 5.1.2.4p35).
pub record IsRace (history : List Made) (a b : Made) (x y : Access) : Type 0 where
  pub first : Contains history a
  pub second : Contains history b
  pub later : a.serial < b.serial
  pub others : a.worker ≢ b.worker
  pub one : Contains (data_of a) x
  pub other : Contains (data_of b) y
  pub same : x.object ≡ y.object
  pub conflict : modes_conflict x.mode y.mode ≡ true
  pub plain : are_atomic_together a.manner x.mode b.manner y.mode ≡ false
  pub unordered : ¬ HappensBefore history a b

abbrev pub side_of : Made → Mode → Side
side_of m mode = record { serial = m.serial; worker = m.worker; line = m.line; manner = m.manner; mode = mode }

abbrev pub race_of : Made → Made → Access → Access → Race
race_of a b x y = record { object = y.object; earlier = side_of a x.mode; later = side_of b y.mode }

abbrev pub manner_eq : Manner → Manner → Bool
manner_eq manner.Plain manner.Plain = true
manner_eq manner.Atomic manner.Atomic = true
manner_eq manner.Reduction manner.Reduction = true
manner_eq manner.Ending manner.Ending = true
manner_eq _ _ = false

abbrev pub mode_eq : Mode → Mode → Bool
mode_eq mode.Read mode.Read = true
mode_eq mode.Write mode.Write = true
mode_eq mode.Add mode.Add = true
mode_eq _ _ = false

-- two sides read the same: their lines are the same, and how they access the variable
abbrev pub is_same_side : Side → Side → Bool
is_same_side a b = nat_eq a.line b.line && (manner_eq a.manner b.manner && mode_eq a.mode b.mode)

-- two races read the same: they are of one variable, and their two sides read the same, in either order
abbrev pub is_same_race : Race → Race → Bool
is_same_race r s = obj_eq r.object s.object
    && ((is_same_side r.earlier s.earlier && is_same_side r.later s.later)
    || (is_same_side r.earlier s.later && is_same_side r.later s.earlier))

-- a race is told by one of these
abbrev pub is_told : List Race → Race → Bool
is_told races r = list_any (λ s. is_same_race s r) races

-- a race that is told is one of the history
pub record IsFound (history : List Made) (r : Race) : Type 0 where
  pub a : Made
  pub b : Made
  pub x : Access
  pub y : Access
  pub race : IsRace history a b x y
  pub is : r ≡ race_of a b x y

-- these are races of the history; each race of it is told by one of them, and no two of them read the same
pub record AreRaces (history : List Made) (races : List Race) : Type 0 where
  pub found : All (IsFound history) races
  pub all : (a b : Made) (x y : Access) → IsRace history a b x y → is_told races (race_of a b x y) ≡ true
  pub once : AllPairs (λ r s. is_same_race r s ≡ false) races

-- the steps stand in the order of their serials, which are numbers from 1
abbrev pub RiseFrom : ℕ → List Made → Type 0
RiseFrom low [] = Unit {0}
RiseFrom low (m ∷ ms) = (low < m.serial) × RiseFrom m.serial ms
