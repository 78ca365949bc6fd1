-- The objects that a step may change.
use Rattle.std.specs.Prelude.{◌≡◌, Bool, true, false, cond, None, Some, List, [], ◌∷◌, map}
use Rattle.std.specs.List.{AllByRecursion}
use Rattle.om_foot.specs.declared.object.Obj.{Obj}
use Rattle.om_foot.specs.declared.footprint.Access.{Access}
use Rattle.om_foot.specs.declared.footprint.Mode.{Mode}
use Rattle.om_foot.specs.declared.footprint.Mode.TheVariants as mode
use Rattle.om_foot.specs.Footprint.{obj_eq}
use Rattle.om_state.specs.State.{State}
use Rattle.om_task.specs.Rules.{start_of}
use Rattle.om_undo.specs.Machines.{MachineView}
use Rattle.lab_explore_rows.specs.Rows.{is_in}
use Rattle.lab_explore_rows.specs.Tables.{AreTables, HaveStarts, TablesView, place_of}
use Rattle.lab_explore_states.specs.declared.touched.Touched.{Touched}

-- whether an access may change what its object holds
abbrev pub changes : Mode → Bool
changes mode.Read = false
changes mode.Write = true
changes mode.Add = true

-- whether one of these accesses may change what an object holds
abbrev pub is_changed : List Access → Obj → Bool
is_changed [] q = false
is_changed (a ∷ rest) q = cond (changes a.mode) (cond (obj_eq a.object q) true (is_changed rest q)) (is_changed rest q)

abbrev pub objects_of : List Touched → List Obj
objects_of touched = map (λ (t : Touched). t.object) touched

-- each has its number
abbrev pub ArePlaced : TablesView → List Touched → Type 0
ArePlaced t touched = AllByRecursion (λ (x : Touched). place_of t x.object ≡ Some x.place) touched

-- what these accesses may change is among the objects
abbrev pub Covers : List Access → List Obj → Type 0
Covers accesses objects = (q : Obj) → is_in objects q ≡ false → is_changed accesses q ≡ false

-- objects that were noted, with those that an access may change
abbrev pub Notes : Access → List Obj → List Obj → Type 0
Notes a old new = (q : Obj) → is_in new q ≡ false → (is_in old q ≡ false) × (is_changed (a ∷ []) q ≡ false)

-- two states are the same but at these objects
abbrev pub StaysBut : List Obj → State → State → Type 0
StaysBut objects s t = (q : Obj) → is_in objects q ≡ false → t q ≡ s q

-- the start of a machine's program
abbrev pub start_at : MachineView → State
start_at m = start_of m.program m.workers

-- numbers of objects and values by the start of a program
pub record AreBy (start : State) (t : TablesView) : Type 0 where
  pub tables : AreTables t.objects t.starts
  pub starts : HaveStarts start t

-- an object that is not known holds what it holds at the start
abbrev pub IsStartBut : State → TablesView → State → Type 0
IsStartBut start t s = (q : Obj) → place_of t q ≡ None → s q ≡ start q
