-- The picture of a history: its boxes and its arrows.
use Rattle.std.specs.Prelude.{◌≡◌, ◌≢◌, ◌==◌, ◌&&◌, ◌+◌, ℕ, zero, suc, max, Bool, cond, is_some, Option, None, Some, List}
use Rattle.std.specs.Prelude.{[], ◌∷◌, ◌++◌, ◌↔◌, Contains, Vec}
use Rattle.std.specs.Option.{option_or}
use Rattle.std.specs.declared.alloc.Global.{Global}
use Rattle.std.specs.List.{AllByRecursion}
use Rattle.om_foot.specs.declared.footprint.Access.{Access}
use Rattle.om_foot.specs.declared.object.Obj.{Obj}
use Rattle.om_foot.specs.Footprint.{conflict_of}
use Rattle.om_undo_touches.specs.Accesses.{accesses_of}
use Rattle.om_undo_history.specs.Laws.{Apart}
use Rattle.lab_graph.specs.declared.traced.Traced.{Traced}
use Rattle.lab_graph.specs.declared.picture.StepBox.{StepBox}
use Rattle.lab_graph.specs.declared.picture.End.{End}
use Rattle.lab_graph.specs.declared.picture.Arrow.{Arrow}

abbrev pub box_of : Traced → StepBox
box_of t = record {
  serial = t.entry.serial;
  worker = t.entry.worker;
  line = t.entry.line;
  instruction = t.instruction;
  value = t.value;
  is_fault = t.is_fault;
}

abbrev pub end_of : Traced → End
end_of t = record { serial = t.entry.serial; worker = t.entry.worker }

-- what a step touched
abbrev pub touched : Traced → List Access
touched t = accesses_of t.footprint.now

-- a step is a worker's and conflicts with a later one
abbrev pub meets_from : ℕ → Traced → Traced → Bool
meets_from w a b = (a.entry.worker == w) && is_some (conflict_of (touched a) (touched b))

-- the last of some steps that is a worker's and conflicts with a later one
abbrev pub last_meeting : ℕ → List Traced → Traced → Option Traced
last_meeting w [] b = None
last_meeting w (a ∷ rest) b = option_or (last_meeting w rest b) (cond (meets_from w a b) (Some a) None)

-- the first of two names that has bytes
abbrev pub first_named : List ℕ → List ℕ → List ℕ
first_named [] later = later
first_named (c ∷ cs) later = c ∷ cs

-- the local variable that the earlier step named, or else the later one
abbrev pub variable_of : Traced → Traced → List ℕ
variable_of a b = first_named a.variable b.variable

abbrev pub arrow_at : Traced → Traced → Obj → Arrow
arrow_at a b q = record { from = end_of a; to = end_of b; object = q; variable = variable_of a b }

abbrev pub arrow_if : Traced → Traced → Option Obj → List Arrow
arrow_if a b None = []
arrow_if a b (Some q) = arrow_at a b q ∷ []

-- the arrow from a step to a later one, where the two conflict
abbrev pub arrow_between : Traced → Traced → List Arrow
arrow_between a b = arrow_if a b (conflict_of (touched a) (touched b))

abbrev pub arrow_to : Traced → Option Traced → List Arrow
arrow_to b None = []
arrow_to b (Some a) = arrow_between a b

-- the arrow into a step from the steps of a worker before it: from the last one that conflicts with it, and from none
-- of its own worker
abbrev pub arrow_from : ℕ → List Traced → Traced → List Arrow
arrow_from w before b = cond (b.entry.worker == w) [] (arrow_to b (last_meeting w before b))

-- the arrows from the steps of so many workers, from one on
abbrev pub arrows_from : ℕ → ℕ → List Traced → Traced → List Arrow
arrows_from w zero before b = []
arrows_from w (suc n) before b = arrow_from w before b ++ arrows_from (w + 1) n before b

-- how many lanes there are: the worker of each step is below this number
abbrev pub lanes : List Traced → ℕ
lanes [] = 0
lanes (t ∷ ts) = max (t.entry.worker + 1) (lanes ts)

-- the arrows into steps that stand behind others, of so many lanes
abbrev pub arrows_behind : ℕ → List Traced → List Traced → List Arrow
arrows_behind n before [] = []
arrows_behind n before (b ∷ rest) = arrows_from 0 n before b ++ arrows_behind n (before ++ b ∷ []) rest

abbrev pub arrows_of : List Traced → List Arrow
arrows_of ts = arrows_behind (lanes ts) [] ts

-- the arrow from a step to a later one, where the two conflict, was added behind other arrows
abbrev pub AddsIf : (old new : Vec Arrow Global) → Traced → Traced → Type 0
AddsIf old new a b = new.items ≡ old.items ++ arrow_between a b

-- a step of the same worker would not do
abbrev pub IsFreeOf : ℕ → Traced → Traced → Type 0
IsFreeOf w b c = c.entry.worker ≡ w → Apart (touched c) (touched b)

-- Where an arrow stands: from a step to a later one of another worker that conflicts with it, named by the first object
-- at which they do; and no step between them that the earlier one's worker made conflicts with the later one.
pub record IsArrow (ts : List Traced) (x : Arrow) : Type 0 where
  pub before : List Traced
  pub a : Traced
  pub between : List Traced
  pub b : Traced
  pub later : List Traced
  pub place : ts ≡ (before ++ a ∷ between) ++ b ∷ later
  pub other_worker : a.entry.worker ≢ b.entry.worker
  pub conflict : conflict_of (touched a) (touched b) ≡ Some x.object
  pub last : AllByRecursion (IsFreeOf a.entry.worker b) between
  pub from_is : x.from ≡ end_of a
  pub to_is : x.to ≡ end_of b
  pub variable_is : x.variable ≡ variable_of a b

-- these are the arrows of steps, and all of them
abbrev pub AreArrows : List Traced → List Arrow → Type 0
AreArrows ts arrows = (x : Arrow) → Contains arrows x ↔ IsArrow ts x
