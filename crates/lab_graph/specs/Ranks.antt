-- For proofs: the touches of the steps of a worker. A step has a rank: the last of all steps has 1, the one before it 2.
use Rattle.std.specs.Prelude.{◌≡◌, ◌==◌, ◌&&◌, ◌+◌, ℕ, Bool, true, false, cond, nat_eq, Option, List, [], ◌∷◌, ◌++◌, Vec, length}
use Rattle.std.specs.declared.alloc.Global.{Global}
use Rattle.om_foot.specs.declared.object.Obj.{Obj}
use Rattle.om_foot.specs.declared.footprint.Mode.{Mode}
use Rattle.om_undo_touches.specs.declared.touches.TouchLists.{TouchLists}
use Rattle.om_undo_touches.specs.Touches.{names, has_touch}
use Rattle.lab_graph.specs.declared.arrows.Spot.{Spot}
use Rattle.lab_graph.specs.declared.picture.Arrow.{Arrow}
use Rattle.lab_graph.specs.declared.traced.Traced.{Traced}
use Rattle.lab_graph.specs.Pictures.{arrow_from, arrows_from, lanes, last_meeting, touched}

-- whether a step is a worker's, has a rank and names an object with a mode
abbrev pub touches_at : ℕ → Traced → ℕ → Obj → Mode → ℕ → Bool
touches_at w t rank o m s = (t.entry.worker == w) && (nat_eq rank s && names o m (touched t))

-- whether the step of a rank is a worker's and names an object with a mode
abbrev pub listed : ℕ → List Traced → Obj → Mode → ℕ → Bool
listed w [] o m s = false
listed w (t ∷ ts) o m s = cond (touches_at w t (length ts + 1) o m s) true (listed w ts o m s)

-- the touches of a worker's steps, by their ranks
abbrev pub AreTouches : ℕ → List Traced → TouchLists → Type 0
AreTouches w ts touches = (o : Obj) (m : Mode) (s : ℕ) → has_touch touches o m s ≡ listed w ts o m s

-- those of a step come, where it is a worker's
abbrev pub Notes : ℕ → Traced → ℕ → TouchLists → TouchLists → Type 0
Notes w t rank old new = (o : Obj) (m : Mode) (s : ℕ)
    → has_touch new o m s ≡ cond (touches_at w t rank o m s) true (has_touch old o m s)

-- the touches of the steps of workers, from one on
abbrev pub AreFrom : ℕ → List Traced → List TouchLists → Type 0
AreFrom w ts [] = Unit {0}
AreFrom w ts (touches ∷ more) = AreTouches w ts touches × AreFrom (w + 1) ts more

-- and of all workers
abbrev pub AreByWorker : List Traced → List TouchLists → Type 0
AreByWorker ts all = (length all ≡ lanes ts) × AreFrom 0 ts all

-- the last of the steps before one of a rank that is a worker's and conflicts with it, whose touches these are
abbrev pub FindsLast : List Traced → Traced → ℕ → TouchLists → Option Traced → Type 0
FindsLast before later rank touches found = (w : ℕ) (rest : List Traced) → AreTouches w (before ++ rest) touches
    → rank ≡ length rest → found ≡ last_meeting w before later

-- a step stands among the steps of a worker whose touches these are
abbrev pub StandsIn : ℕ → TouchLists → Spot → Type 0
StandsIn w touches spot = (rest : List Traced) × AreTouches w (spot.before.now ++ rest) touches
    × (spot.rank ≡ length rest)

-- and among those of all workers
abbrev pub StandIn : List TouchLists → Spot → Type 0
StandIn all spot = (rest : List Traced) × AreFrom 0 (spot.before.now ++ rest) all × (spot.rank ≡ length rest)

-- the arrow into a step from the steps of a worker was added behind other arrows
abbrev pub AddsFrom : (old new : Vec Arrow Global) → ℕ → Spot → Type 0
AddsFrom old new w spot = new.items ≡ old.items ++ arrow_from w spot.before.now spot.later.now

-- the arrows into a step were added behind other arrows
abbrev pub AddsInto : (old new : Vec Arrow Global) → List TouchLists → Spot → Type 0
AddsInto old new lists spot =
    new.items ≡ old.items ++ arrows_from 0 (length lists) spot.before.now spot.later.now
