-- For proofs: what is known behind the steps so far of a history, and what one more step adds to it.
use Rattle.std.specs.Prelude.{◌≡◌, ℕ, ◌≤◌, max, Bool, true, false, cond, nat_eq, nat_lt, not, ◌&&◌, Option, None, Some}
use Rattle.std.specs.Prelude.{List, [], ◌∷◌, ◌++◌, filter, get_or, All, AllPairs, Contains, Vec, ◌⊎◌}
use Rattle.std.specs.List.{list_any}
use Rattle.std.specs.Map.{lookup}
use Rattle.std.specs.declared.alloc.Global.{Global}
use Rattle.om_foot.specs.declared.footprint.Access.{Access}
use Rattle.om_foot.specs.declared.footprint.Mode.{Mode}
use Rattle.om_foot.specs.declared.footprint.Mode.TheVariants as mode
use Rattle.om_foot.specs.declared.object.Obj.{Obj}
use Rattle.om_foot.specs.Footprint.{modes_conflict, obj_eq}
use Rattle.lab_races.specs.declared.made.Made.{Made}
use Rattle.lab_races.specs.declared.made.Race.{Race}
use Rattle.lab_races.specs.declared.made.Side.{Side}
use Rattle.lab_races.specs.declared.sweep.Sweep.{Sweep}
use Rattle.lab_races.specs.declared.strands.Strands.{Strands}
use Rattle.lab_races.specs.Orders.{ordering_of, HappensBefore}
use Rattle.lab_races.specs.Races.{are_atomic_together, data_of, is_same_race, is_same_side, is_told, mode_eq, race_of, side_of}
use Rattle.lab_races.specs.Races.{IsFound, IsRace}

-- ---- what is kept at objects

abbrev pub items_in : {A : Type 0} → Option (Vec A Global) → List A
items_in None = []
items_in (Some v) = v.items

abbrev pub items_at : {A : Type 0} → List (Obj × Vec A Global) → Obj → List A
items_at es q = items_in (lookup (obj_eq q) es)

-- ---- clocks: for each worker a serial, or 0

abbrev pub Joins : List ℕ → List ℕ → List ℕ → Type 0
Joins a b c = (w : ℕ) → get_or c w 0 ≡ max (get_or a w 0) (get_or b w 0)

abbrev pub IsAlone : ℕ → ℕ → List ℕ → Type 0
IsAlone worker serial c = (w : ℕ) → get_or c w 0 ≡ cond (nat_eq worker w) serial 0

-- a clock was joined to the one at an object
abbrev pub AreJoined : List (Obj × Vec ℕ Global) → List (Obj × Vec ℕ Global) → Obj → List ℕ → Type 0
AreJoined es fs q clock = (p : Obj) (w : ℕ) → get_or (items_at fs p) w 0
    ≡ cond (obj_eq q p) (max (get_or (items_at es p) w 0) (get_or clock w 0)) (get_or (items_at es p) w 0)

-- the serial at an object, for a mode and a worker
abbrev pub strand : Strands → Obj → Mode → ℕ → ℕ
strand s q mode.Read w = get_or (items_at s.reads.entries q) w 0
strand s q mode.Write w = get_or (items_at s.writes.entries q) w 0
strand s q mode.Add w = get_or (items_at s.additions.entries q) w 0

abbrev pub AreEmpty : Strands → Type 0
AreEmpty s = (q : Obj) (m : Mode) (w : ℕ) → strand s q m w ≡ 0

-- the greatest serial of those at the modes that conflict with an access
abbrev pub meeting_by : Strands → Obj → Mode → ℕ → ℕ
meeting_by s q mode.Read w = max (strand s q mode.Write w) (strand s q mode.Add w)
meeting_by s q mode.Add w = max (strand s q mode.Write w) (strand s q mode.Read w)
meeting_by s q mode.Write w = max (max (strand s q mode.Write w) (strand s q mode.Read w)) (strand s q mode.Add w)

abbrev pub meeting : Strands → Access → ℕ → ℕ
meeting s x w = meeting_by s x.object x.mode w

abbrev pub IsMet : Strands → Access → List ℕ → List ℕ → Type 0
IsMet s x old new = (w : ℕ) → get_or new w 0 ≡ max (get_or old w 0) (meeting s x w)

abbrev pub meetings : Strands → List Access → ℕ → ℕ
meetings s [] w = 0
meetings s (x ∷ xs) w = max (meeting s x w) (meetings s xs w)

abbrev pub own_serial : Made → ℕ → ℕ
own_serial m w = cond (nat_eq m.worker w) m.serial 0

-- the clock of a step that has these accesses
abbrev pub AreMet : Strands → List Access → Made → List ℕ → Type 0
AreMet s xs m clock = (w : ℕ) → get_or clock w 0 ≡ max (own_serial m w) (meetings s xs w)

abbrev pub is_named_by : Obj → Mode → Access → Bool
is_named_by q m x = obj_eq x.object q && mode_eq x.mode m

-- a clock was noted at an access, and at some of them
abbrev pub IsNoted : Strands → Strands → Access → List ℕ → Type 0
IsNoted old new x clock = (q : Obj) (m : Mode) (w : ℕ) → strand new q m w
    ≡ cond (is_named_by q m x) (max (strand old q m w) (get_or clock w 0)) (strand old q m w)

abbrev pub AreNoted : Strands → Strands → List Access → List ℕ → Type 0
AreNoted old new xs clock = (q : Obj) (m : Mode) (w : ℕ) → strand new q m w
    ≡ cond (list_any (is_named_by q m) xs) (max (strand old q m w) (get_or clock w 0)) (strand old q m w)

-- ---- the last accesses of variables

-- one worker made two accesses that read the same
abbrev pub is_again : Side → Side → Bool
is_again a b = nat_eq a.worker b.worker && is_same_side a b

-- an access takes the place of one that it repeats
abbrev pub with_side : List Side → Side → List Side
with_side sides side = filter (λ (s : Side). not (is_again s side)) sides ++ side ∷ []

abbrev pub IsPut : List (Obj × Vec Side Global) → List (Obj × Vec Side Global) → Obj → Side → Type 0
IsPut es fs q side = (p : Obj) → items_at fs p ≡ cond (obj_eq q p) (with_side (items_at es p) side) (items_at es p)

abbrev pub with_sides : List Access → Made → Obj → List Side → List Side
with_sides [] m q sides = sides
with_sides (x ∷ xs) m q sides =
    with_sides xs m q (cond (obj_eq x.object q) (with_side sides (side_of m x.mode)) sides)

abbrev pub ArePut : List (Obj × Vec Side Global) → List (Obj × Vec Side Global) → Made → List Access → Type 0
ArePut es fs m xs = (q : Obj) → items_at fs q ≡ with_sides xs m q (items_at es q)

-- ---- the races of a step with those before it

-- two accesses of one variable race, by the clock of the later one
abbrev pub do_race : Side → Side → List ℕ → Bool
do_race a b clock = not (nat_eq a.worker b.worker) && (modes_conflict a.mode b.mode
    && (not (are_atomic_together a.manner a.mode b.manner b.mode) && nat_lt (get_or clock a.worker 0) a.serial))

abbrev pub race_at : Obj → Side → Side → Race
race_at q a b = record { object = q; earlier = a; later = b }

abbrev pub with_race : List Race → Race → List Race
with_race races r = cond (is_told races r) races (races ++ r ∷ [])

-- with the races of an access and those that were noted
abbrev pub with_races : List Side → Obj → Side → List ℕ → List Race → List Race
with_races [] q b clock races = races
with_races (a ∷ rest) q b clock races =
    with_races rest q b clock (cond (do_race a b clock) (with_race races (race_at q a b)) races)

-- with those of all accesses of a step
abbrev pub with_all : List Access → List (Obj × Vec Side Global) → Made → List ℕ → List Race → List Race
with_all [] notes m clock races = races
with_all (y ∷ ys) notes m clock races =
    with_all ys notes m clock (with_races (items_at notes y.object) y.object (side_of m y.mode) clock races)

-- ---- one more step

pub record Advances (m : Made) (old new : Sweep) : Type 0 where
  pub clock : List ℕ
  pub met : AreMet old.strands (ordering_of m) m clock
  pub noted : AreNoted old.strands new.strands (ordering_of m) clock
  pub put : ArePut old.notes.entries new.notes.entries m (data_of m)
  pub raced : new.races.items ≡ with_all (data_of m) old.notes.entries m clock old.races.items

-- ---- behind the steps so far

-- a serial for a worker that a step knows of: that of a step of this worker that happens before it
pub record IsKnown (history : List Made) (w serial : ℕ) (b : Made) : Type 0 where
  pub a : Made
  pub first : Contains history a
  pub own : a.worker ≡ w
  pub is : a.serial ≡ serial
  pub before : HappensBefore history a b

-- a step that is done has this access
pub record IsDone (done : List Made) (q : Obj) (m : Mode) (c : Made) : Type 0 where
  pub made : Contains done c
  pub access : Contains (ordering_of c) (record { object = q; mode = m })

-- the serial at an object is the greatest that the steps know of that touched it so
pub record IsStrand (history done : List Made) (q : Obj) (m : Mode) (clock : ℕ → ℕ) : Type 0 where
  pub above : (a c : Made) → IsDone done q m c → HappensBefore history a c → a.serial ≤ clock a.worker
  pub met : (w : ℕ) → (clock w ≡ 0) ⊎ ((c : Made) × IsDone done q m c × IsKnown history w (clock w) c)

-- a noted access is of a step that is done
pub record IsOfStep (done : List Made) (q : Obj) (s : Side) : Type 0 where
  pub made : Made
  pub access : Access
  pub stands : Contains done made
  pub accesses : Contains (data_of made) access
  pub at : access.object ≡ q
  pub is : s ≡ side_of made access.mode

-- an access is noted by one that repeats it, and that is no earlier
pub record IsNotedBy (sides : List Side) (s : Side) : Type 0 where
  pub by : Side
  pub noted : Contains sides by
  pub again : is_again by s ≡ true
  pub later : s.serial ≤ by.serial

pub record IsSwept (history done : List Made) (sweep : Sweep) : Type 0 where
  pub strands : (q : Obj) (m : Mode) → IsStrand history done q m (strand sweep.strands q m)
  pub sound : (q : Obj) → All (IsOfStep done q) (items_at sweep.notes.entries q)
  pub noted : (a : Made) (x : Access) → Contains done a → Contains (data_of a) x
      → IsNotedBy (items_at sweep.notes.entries x.object) (side_of a x.mode)
  pub found : All (IsFound history) sweep.races.items
  pub all : (a b : Made) (x y : Access) → Contains done b → IsRace history a b x y
      → is_told sweep.races.items (race_of a b x y) ≡ true
  pub once : AllPairs (λ r s. is_same_race r s ≡ false) sweep.races.items
