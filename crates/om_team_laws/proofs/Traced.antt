-- Which objects the laws are about, and what is there behind updates of other ones.
use Rattle.std.proofs.Common.{◌≡◌, refl, sym, ◌∙◌, ap, ℕ, zero, suc, ◌+◌, Bool, true, false, cond, List, [], ◌∷◌, ◌++◌}
use Rattle.std.proofs.Common.{Option, None, Some}
use Rattle.om_foot.specs.declared.object.Obj.{Obj}
use Rattle.om_foot.specs.declared.object.Obj.TheVariants as obj
use Rattle.om_foot.specs.declared.footprint.Access.{Access}
use Rattle.om_foot.specs.Footprint.{obj_eq}
use Rattle.om_foot.specs.Objects.{obj_eq-true}
use Rattle.om_code.specs.declared.instruction.Place.{Place}
use Rattle.om_code.specs.declared.instruction.Place.TheVariants as place
use Rattle.om_code.specs.declared.raw.Slot.{Slot}
use Rattle.om_state.specs.declared.control.Context.{Context}
use Rattle.om_state.specs.declared.control.Home.{Home}
use Rattle.om_state.specs.declared.control.Home.TheVariants.{Own, Elsewhere}
use Rattle.om_state.specs.declared.control.Team.{Team}
use Rattle.om_state.specs.declared.step.Update.{Update}
use Rattle.om_state.specs.declared.value.Val.{Val}
use Rattle.om_state.specs.Homes.{cell_of}
use Rattle.om_state.specs.State.{State, state_after, updated, value_after}
use Rattle.om_team_serial.specs.Objects.{events, given_cells, home_at, object_of, own_cells, own_from, own_slot, slot_cells}
use Rattle.om_team_worksharing.specs.Barriers.{arrivals, barrier}
use Rattle.om_team.specs.Teams.{member_cells}
use Rattle.om_task.specs.Tasks.{counts}

-- controls, tasks, locks, and what is given out of worksharing regions
abbrev pub is_traced : Obj → Bool
is_traced (obj.Control worker) = true
is_traced (obj.Task name) = true
is_traced (obj.Work team region) = true
is_traced (obj.Lock lock) = true
is_traced (obj.Cell task frame slot index) = false
is_traced (obj.Global variable index) = false
is_traced (obj.Kids task) = false
is_traced (obj.Pending team phase) = false
is_traced (obj.Arrived team number) = false
is_traced (obj.Group name) = false
is_traced obj.Output = false
is_traced (obj.Events worker) = false

-- accesses of other objects alone
abbrev pub AreUntraced : List Access → Type 0
AreUntraced [] = Unit {0}
AreUntraced (a ∷ names) = (is_traced a.object ≡ false) × AreUntraced names

-- ---- behind updates

pub differ : (a q : Obj) → is_traced a ≡ false → is_traced q ≡ true → obj_eq a q ≡ false
differ a q h e = by (obj_eq a q) refl
  where
    by : (b : Bool) → obj_eq a q ≡ b → b ≡ false
    by true is =
        let same : a ≡ q = obj_eq-true a q is in
        let no : true ≡ false = sym e ∙ sym (ap is_traced same) ∙ h in
        cc
    by false is = refl

pub skipped : (b : Bool) (new old : Val) → b ≡ false → cond b new old ≡ old
skipped true new old e = cc
skipped false new old e = refl

pub untouched : (names : List Access) (us : List Update) (s : State) (q : Obj) → AreUntraced names
    → is_traced q ≡ true → updated names us s q ≡ s q
untouched [] us s q h e = refl
untouched (a ∷ names) [] s q h e = refl
untouched (a ∷ names) (u ∷ us) s q h e =
    untouched names us (state_after a u s) q h.1 e
    ∙ skipped (obj_eq a.object q) (value_after a.mode u (s q)) (s q) (differ a.object q h.0 e)

-- no update is left
pub none_left : (names : List Access) (s : State) (q : Obj) → updated names [] s q ≡ s q
none_left [] s q = refl
none_left (a ∷ names) s q = refl

-- ---- what rows name

pub untraced_append : (xs ys : List Access) → AreUntraced xs → AreUntraced ys → AreUntraced (xs ++ ys)
untraced_append [] ys h k = k
untraced_append (x ∷ xs) ys h k = (h.0, untraced_append xs ys h.1 k)

cell_untraced : (task : List ℕ) (frame slot index : ℕ) (home : Home)
    → is_traced (cell_of task frame slot index home) ≡ false
cell_untraced task frame slot index Own = refl
cell_untraced task frame slot index (Elsewhere t f s) = refl

pub object_untraced : (c : Context) (p : Place) (index : ℕ) → is_traced (object_of c p index) ≡ false
object_untraced c (place.Global variable) index = refl
object_untraced c (place.Slot slot) index = cell_untraced c.task c.frame.ordinal slot index (home_at c.frame.homes slot)

pub slot_untraced : (task : List ℕ) (frame slot : ℕ) (home : Home) (index count : ℕ)
    → AreUntraced (slot_cells task frame slot home index count)
slot_untraced task frame slot home index zero = tt
slot_untraced task frame slot home index (suc count) = (
  cell_untraced task frame slot index home,
  slot_untraced task frame slot home (index + 1) count,
)

pub given_untraced : (task : List ℕ) (frame : ℕ) (slots : List ℕ) → AreUntraced (given_cells task frame slots)
given_untraced task frame [] = tt
given_untraced task frame (slot ∷ slots) = (refl, given_untraced task frame slots)

own_slot_untraced : (c : Context) (slot cells : ℕ) (home : Home) → AreUntraced (own_slot c slot cells home)
own_slot_untraced c slot cells Own = slot_untraced c.task c.frame.ordinal slot Own 0 cells
own_slot_untraced c slot cells (Elsewhere t f s) = tt

own_from_untraced : (c : Context) (number : ℕ) (slots : List Slot) → AreUntraced (own_from c number slots)
own_from_untraced c number [] = tt
own_from_untraced c number (slot ∷ slots) = untraced_append _ _ (own_slot_untraced c number slot.cells
    (home_at c.frame.homes number)) (own_from_untraced c (number + 1) slots)

pub own_untraced : (c : Context) (slots : List Slot) → AreUntraced (own_cells c slots)
own_untraced c slots = own_from_untraced c 0 slots

arrivals_untraced : (team : List ℕ) (number count : ℕ) → AreUntraced (arrivals team number count)
arrivals_untraced team number zero = tt
arrivals_untraced team number (suc count) = (refl, arrivals_untraced team (number + 1) count)

pub barrier_untraced : (team : Team) (phase : ℕ) → AreUntraced (barrier team phase)
barrier_untraced team phase = untraced_append _ _ (arrivals_untraced team.name 0 team.size) (refl, tt)

pub members_untraced : (team given : List ℕ) (number count : ℕ) → AreUntraced (member_cells team given number count)
members_untraced team given number zero = tt
members_untraced team given number (suc count) = untraced_append _ _ (given_untraced (team ++ number ∷ []) 0 given)
    (members_untraced team given (number + 1) count)

-- the counts of a task, with the records of a worker behind them
pub counts_untraced : (parent : List ℕ) (c : Context) (group : Option (List ℕ)) (worker : ℕ)
    → AreUntraced (counts parent c group ++ events worker ∷ [])
counts_untraced parent c None worker = (refl, (refl, (refl, tt)))
counts_untraced parent c (Some g) worker = (refl, (refl, (refl, (refl, tt))))
